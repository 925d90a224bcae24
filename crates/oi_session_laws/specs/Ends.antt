-- What is left at the end of a session, and how many tries are used.
use Rattle.oi_session_laws.specs.Stays.{fate_at}
use Rattle.std.specs.Prelude.{◌≡◌, ◌≤◌, ◌||◌, ℕ, Bool, true, false, List, [], ◌∷◌, Some}
use Rattle.oi_history.specs.Meanings.{meanings}
use Rattle.oi_history.specs.Permitted.{ArePermitted}
use Rattle.oi_history.specs.Phases.{is_ended}
use Rattle.oi_history.specs.Standing.{HasTries}
use Rattle.oi_history.specs.Tasks.{is_done}
use Rattle.oi_history.specs.declared.config.SessionConfig.{SessionConfig}
use Rattle.oi_history.specs.declared.event.Event.{Event}
use Rattle.oi_history.specs.declared.event.Event.TheVariants.{Terminate}
use Rattle.oi_history.specs.declared.event.Numbered.{Numbered}
use Rattle.oi_history.specs.declared.fate.Fate.{Fate}

-- the session was ended
abbrev pub is_end : Event → Bool
is_end (Terminate cause) = true
is_end e = false

abbrev pub has_end : List Numbered → Bool
has_end [] = false
has_end (n ∷ H) = is_end n.event || has_end H

-- it is over from then on, and not before
abbrev pub OverByEnd : Type 0
OverByEnd = (C : SessionConfig) (H : List Numbered) → ArePermitted C H → is_ended (meanings C H).phase ≡ has_end H

-- once a session ended, no submission waits or is live
abbrev pub AllDoneAfterEnd : Type 0
AllDoneAfterEnd =
    (C : SessionConfig) (H : List Numbered) → ArePermitted C H → is_ended (meanings C H).phase ≡ true
    → (id : ℕ) (fate : Fate) → fate_at id (meanings C H).tasks ≡ Some fate → is_done fate ≡ true

-- a submission that waits has used fewer tries than are allowed, and one that is live no more
abbrev pub TriesBelowLimit : Type 0
TriesBelowLimit =
    (C : SessionConfig) (H : List Numbered) → ArePermitted C H → 1 ≤ C.tries
    → (id : ℕ) (fate : Fate) → fate_at id (meanings C H).tasks ≡ Some fate → HasTries C.tries fate
