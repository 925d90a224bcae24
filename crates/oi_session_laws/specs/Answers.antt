-- How often a submission is handed out.
use Rattle.std.specs.Prelude.{◌≡◌, ◌≤◌, ◌==◌, ◌&&◌, ◌||◌, ◌+◌, ℕ, Bool, true, false, Option, None, Some, List, [], ◌∷◌, length, nat_lt, if◌then◌else◌}
use Rattle.oi_base.specs.Counts.{bit}
use Rattle.oi_history.specs.Meanings.{handed_so_far, meanings}
use Rattle.oi_history.specs.Permitted.{ArePermitted}
use Rattle.oi_history.specs.Phases.{is_ended}
use Rattle.oi_history.specs.Tasks.{due_in}
use Rattle.oi_history.specs.declared.config.SessionConfig.{SessionConfig}
use Rattle.oi_history.specs.declared.event.Event.{Event}
use Rattle.oi_history.specs.declared.event.Event.TheVariants.{Submit, Deliver}
use Rattle.oi_history.specs.declared.event.Numbered.{Numbered}
use Rattle.oi_history.specs.declared.fate.Delivered.{Delivered}
use Rattle.oi_history.specs.declared.fate.Fate.{Fate}
use Rattle.oi_history.specs.declared.fate.Fate.TheVariants.{Done}
use Rattle.oi_history.specs.declared.fate.Outcome.{Outcome}
use Rattle.oi_session_laws.specs.Ends.{has_end}

-- how often this id is among what was handed out
abbrev pub times : ℕ → List Delivered → ℕ
times id [] = 0
times id (d ∷ ds) = bit (d.id == id) + times id ds

-- a request came in under this id
abbrev pub is_submit : ℕ → Event → Bool
is_submit id (Submit k request) = k == id
is_submit id e = false

abbrev pub was_submitted : ℕ → List Numbered → Bool
was_submitted id [] = false
was_submitted id (n ∷ H) = is_submit id n.event || was_submitted id H

-- how many requests came in
abbrev pub is_request : Event → Bool
is_request (Submit id request) = true
is_request e = false

abbrev pub requests_in : List Numbered → ℕ
requests_in [] = 0
requests_in (n ∷ H) = bit (is_request n.event) + requests_in H

-- the outcome that was handed out for this id
abbrev pub outcome_among : ℕ → List Delivered → Option Outcome
outcome_among id [] = None
outcome_among id (d ∷ ds) = if d.id == id then Some d.outcome else outcome_among id ds

-- what a submission was done with, where it was handed out
abbrev pub outcome_if : Bool → Fate → Option Outcome
outcome_if true (Done outcome at) = Some outcome
outcome_if told f = None

-- outcomes were handed out
abbrev pub is_handing : Event → Bool
is_handing (Deliver count) = true
is_handing e = false

-- an entry does so that is newer than the end of the session
abbrev pub hands_behind_end : List Numbered → Bool
hands_behind_end [] = false
hands_behind_end (n ∷ H) = (is_handing n.event && has_end H) || hands_behind_end H

-- ids are given in order, from 0
abbrev pub IdsInOrder : Type 0
IdsInOrder = (C : SessionConfig) (H : List Numbered) → ArePermitted C H → (id : ℕ) → was_submitted id H ≡ nat_lt id (length (meanings C H).tasks)

-- each submission is handed out at most once
abbrev pub AtMostOnce : Type 0
AtMostOnce = (C : SessionConfig) (H : List Numbered) → ArePermitted C H → (id : ℕ) → times id (handed_so_far C H) ≤ 1

-- exactly once where the session ended and nothing is due
abbrev pub ExactlyOnce : Type 0
ExactlyOnce =
    (C : SessionConfig) (H : List Numbered) → ArePermitted C H → is_ended (meanings C H).phase ≡ true → due_in (meanings C H).tasks ≡ []
    → (id : ℕ) → was_submitted id H ≡ true → times id (handed_so_far C H) ≡ 1

-- and where outcomes were handed out behind its end
abbrev pub OnceBehindEnd : Type 0
OnceBehindEnd =
    (C : SessionConfig) (H : List Numbered) → ArePermitted C H → hands_behind_end H ≡ true → (id : ℕ) → was_submitted id H ≡ true
    → times id (handed_so_far C H) ≡ 1
