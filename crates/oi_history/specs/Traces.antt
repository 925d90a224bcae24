-- What a check of a recorded history finds.
use Rattle.std.specs.Prelude.{◌≡◌, ℕ, List, Option, map}
use Rattle.oi_history.specs.Judging.{last_number}
use Rattle.oi_history.specs.Ledgers.{LedgerView}
use Rattle.oi_history.specs.Meanings.{meanings}
use Rattle.oi_history.specs.Permitted.{ArePermitted, IsFirstIllegal}
use Rattle.oi_history.specs.declared.config.SessionConfig.{SessionConfig}
use Rattle.oi_history.specs.declared.event.Numbered.{Numbered}
use Rattle.oi_history.specs.declared.fate.Fate.{Fate}
use Rattle.oi_history.specs.declared.trace.TraceFault.{TraceFault}
use Rattle.oi_history.specs.declared.trace.TraceFault.TheVariants.{Illegal, Memory}

-- where the submissions stand
abbrev pub fates : SessionConfig → List Numbered → List Fate
fates C H = map (λ t. t.fate) (meanings C H).tasks

-- the first entry that is not permitted, and its rule; want of memory says nothing
abbrev pub IsTraceFault : SessionConfig → List Numbered → TraceFault → Type 0
IsTraceFault C H (Illegal place rule) = IsFirstIllegal C H place rule
IsTraceFault C H Memory = Unit {0}

-- what the check keeps: the meanings of the entries so far, all permitted, and the number of the newest
pub record Follows (l : LedgerView) (last : Option ℕ) (C : SessionConfig) (H : List Numbered) : Type 0 where
  pub config : l.config ≡ C
  pub now : l.now ≡ meanings C H
  pub number : last ≡ last_number H
  pub legal : ArePermitted C H
