-- How often the submissions of runs were answered, and with what.
use Rattle.oi_session_laws.specs.Answers.{times}
use Rattle.std.specs.Prelude.{◌≡◌, ◌≤◌, ◌<◌, ℕ, List, [], ◌∷◌, length, reverse}
use Rattle.oi_history.specs.declared.event.Numbered.{Numbered}
use Rattle.oi_outcome_laws.specs.Outcomes.{AreDecided}
use Rattle.oi_solo.specs.Sessions.{RunView, Session, now_of, run_of}

-- no submission of a run was answered twice
abbrev pub AreOnce : List RunView → Type 0
AreOnce [] = Unit {0}
AreOnce (r ∷ rs) = ((id : ℕ) → times id r.delivered ≤ 1) × AreOnce rs

-- each submission of the run was answered exactly once
pub record IsAnswered (r : RunView) : Type 0 where
  pub session : Session
  pub is : r ≡ run_of session
  pub once : (id : ℕ) → id < length (now_of session).tasks → times id r.delivered ≡ 1

abbrev pub AreAnswered : List RunView → Type 0
AreAnswered [] = Unit {0}
AreAnswered (r ∷ rs) = IsAnswered r × AreAnswered rs

-- what the run handed out is the target's reply to the last try, or the error of the recovery table
pub record IsDecidedRun (r : RunView) : Type 0 where
  pub history : List Numbered
  pub is : r.events ≡ reverse history
  pub decided : AreDecided r.config history r.delivered

abbrev pub AreDecidedRuns : List RunView → Type 0
AreDecidedRuns [] = Unit {0}
AreDecidedRuns (r ∷ rs) = IsDecidedRun r × AreDecidedRuns rs
