-- The end of a session may always be entered, in the place that is kept back for it.
use Rattle.std.proofs.Common.{◌≡◌, true, false, ap, subst, refl, arith}
use Rattle.oi_history.specs.Meanings.{Meanings}
use Rattle.oi_history.specs.Phases.{ended_by, is_ended}
use Rattle.oi_history.specs.declared.event.Event.TheVariants.{Terminate}
use Rattle.oi_history.specs.declared.phase.End.{End}
use Rattle.oi_history.specs.declared.phase.Phase.{Phase}
use Rattle.oi_history.specs.declared.phase.Phase.TheVariants.{First, LoggedIn, Recovering, FailFast, Ended}
use Rattle.oi_solo.proofs.Allowed.{end_allowed}
use Rattle.oi_solo.specs.Cores.{CanEnter, IsKept, kept_back, session_of}
use Rattle.oi_solo.specs.declared.kept.Kept.{Kept}

over : (cause : End) (p : Phase) → is_ended (ended_by cause p) ≡ true
over cause First = refl
over cause (LoggedIn generation) = refl
over cause (Recovering since) = refl
over cause (FailFast since) = refl
over cause (Ended first) = refl

pub goes_on : (p : Phase) → ((cause : End) → p ≡ Ended cause → ⊥) → is_ended p ≡ false
goes_on First other = refl
goes_on (LoggedIn generation) other = refl
goes_on (Recovering since) other = refl
goes_on (FailFast since) other = refl
goes_on (Ended cause) other = absurd (other cause refl)

pub can_end : (k : Kept) (cause : End) → IsKept k → is_ended k.ledger.now.phase ≡ false → CanEnter k (Terminate cause)
can_end k cause kept going =
    let after : kept_back (is_ended (ended_by cause k.ledger.now.phase)) ≡ 0 = ap kept_back (over cause k.ledger.now.phase) in
    let before : kept_back (is_ended k.ledger.now.phase) ≡ 1 = ap kept_back going in
    let room = kept.room in
    record {
      kept = kept;
      empty = refl;
      permitted = end_allowed (session_of k) cause kept.numbered (subst (λ (m : Meanings). is_ended m.phase ≡ false) kept.now going);
      can = record { login = tt; window = tt; waits = tt };
      memory = record { quiet = refl; releases = omega arith; takes = omega arith; pieces = omega arith };
      room = omega (arith, after, before, room);
    }
