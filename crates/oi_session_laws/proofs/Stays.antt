-- No entry changes a submission that is done.
use Rattle.oi_session_laws.specs.Stays.{fate_at}
use Rattle.std.proofs.Common.{◌≡◌, ℕ, suc, zero, List, [], ◌∷◌, ◌++◌, ap, Some}
use Rattle.oi_history.specs.Meanings.{accepted_in, meanings}
use Rattle.oi_history.specs.Permitted.{ArePermitted}
use Rattle.oi_history.specs.declared.config.SessionConfig.{SessionConfig}
use Rattle.oi_history.specs.declared.event.Event.{Event}
use Rattle.oi_history.specs.declared.event.Numbered.{Numbered}
use Rattle.oi_history.specs.declared.fate.Fate.{Fate}
use Rattle.oi_history.specs.declared.fate.Fate.TheVariants.{Done}
use Rattle.oi_history.specs.declared.fate.Outcome.{Outcome}
use Rattle.oi_history.specs.declared.task.Task.{Task}
use Rattle.oi_session_laws.proofs.Moved.{AreMoved, moved_after}

fate-moved : (e : Event) (a id : ℕ) (ts us : List Task) (outcome : Outcome) (at : ℕ) → AreMoved e a ts us → fate_at id ts ≡ Some (Done outcome at) → fate_at id us ≡ Some (Done outcome at)
fate-moved e a id [] us outcome at m is = absurd cc
fate-moved e a id (t ∷ ts) [] outcome at m is = absurd m
fate-moved e a zero (t ∷ ts) (u ∷ us) outcome at m is = ap (λ (x : Fate). Some x) (m.0.done outcome at (let same : t.fate ≡ Done outcome at = cc in same))
fate-moved e a (suc id) (t ∷ ts) (u ∷ us) outcome at m is = fate-moved e a id ts us outcome at m.1 is

pub stays_done : (C : SessionConfig) (H later : List Numbered) → ArePermitted C (later ++ H) → (id : ℕ) (outcome : Outcome) (at : ℕ)
    → fate_at id (meanings C H).tasks ≡ Some (Done outcome at) → fate_at id (meanings C (later ++ H)).tasks ≡ Some (Done outcome at)
stays_done C H [] legal id outcome at is = is
stays_done C H (n ∷ later) legal id outcome at is =
    fate-moved n.event C.tries id _ _ outcome at (moved_after C n.number (meanings C (later ++ H)) (accepted_in n.event (meanings C (later ++ H))) n.event legal.0.command)
    (stays_done C H later legal.1 id outcome at is)
