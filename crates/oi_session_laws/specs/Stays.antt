-- What is done stays done.
use Rattle.oi_history.specs.declared.fate.Fate.{Fate}
use Rattle.oi_history.specs.declared.task.Task.{Task}
use Rattle.std.specs.Prelude.{◌≡◌, ℕ, List, ◌++◌, Some, [], ◌∷◌, Option, None, suc, zero}
use Rattle.oi_history.specs.Meanings.{meanings}
use Rattle.oi_history.specs.Permitted.{ArePermitted}
use Rattle.oi_history.specs.declared.config.SessionConfig.{SessionConfig}
use Rattle.oi_history.specs.declared.event.Numbered.{Numbered}
use Rattle.oi_history.specs.declared.fate.Fate.TheVariants.{Done}
use Rattle.oi_history.specs.declared.fate.Outcome.{Outcome}

-- where a submission stands
abbrev pub fate_at : ℕ → List Task → Option Fate
fate_at id [] = None
fate_at zero (t ∷ tasks) = Some t.fate
fate_at (suc id) (t ∷ tasks) = fate_at id tasks

-- a submission that is done has its outcome, and the entry that decided it, in each longer history
abbrev pub DoneIsFinal : Type 0
DoneIsFinal =
    (C : SessionConfig) (H later : List Numbered) → ArePermitted C (later ++ H) → (id : ℕ) (outcome : Outcome) (at : ℕ)
    → fate_at id (meanings C H).tasks ≡ Some (Done outcome at) → fate_at id (meanings C (later ++ H)).tasks ≡ Some (Done outcome at)
