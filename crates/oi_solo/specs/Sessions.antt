-- What contracts see of a session: its settings and its history, the newest entry first.
use Rattle.std.specs.Prelude.{ℕ, not, List, [], ◌∷◌, ◌++◌, count_by, map, reverse}
use Rattle.std.specs.List.{flat_map}
use Rattle.oi_history.specs.Histories.{enter}
use Rattle.oi_history.specs.Meanings.{Meanings, handed_so_far, meanings}
use Rattle.oi_history.specs.Owing.{owed_in, sent_by}
use Rattle.oi_history.specs.Tasks.{is_done}
use Rattle.oi_history.specs.declared.config.SessionConfig.{SessionConfig}
use Rattle.oi_history.specs.declared.event.Event.{Event}
use Rattle.oi_history.specs.declared.event.Event.TheVariants.{Reap}
use Rattle.oi_history.specs.declared.event.Numbered.{Numbered}
use Rattle.oi_history.specs.declared.fate.Delivered.{Delivered}
use Rattle.oi_pdu.specs.Wire.{encoding}

pub record Session : Type 0 where
  pub config : SessionConfig
  pub history : List Numbered

-- all meanings at its end
abbrev pub now_of : Session → Meanings
now_of s = meanings s.config s.history

-- the session with a further entry, and with further ones, the oldest first
abbrev pub entered : Session → Event → Session
entered s e = record { config = s.config; history = enter e s.history }

abbrev pub entered_all : Session → List Event → Session
entered_all s [] = s
entered_all s (e ∷ es) = entered_all (entered s e) es

-- submissions that are not done
abbrev pub pending_of : Meanings → ℕ
pending_of m = count_by (λ t. not (is_done t.fate)) m.tasks

-- the release of all tags that have ended
abbrev pub releases : Meanings → List Event
releases m = map (λ tag. Reap tag) m.ended

-- what is sent next behind it
abbrev pub owed_of : Session → List Event
owed_of s = owed_in s.config (now_of s)

-- the bytes of the PDUs that further entries send
abbrev pub sent_bytes : Session → List Event → List ℕ
sent_bytes s [] = []
sent_bytes s (e ∷ es) = flat_map encoding (sent_by s.config s.history e) ++ sent_bytes (entered s e) es

-- what a session came to: its number, settings, entries by number, and what it handed out in order
pub record RunView : Type 0 where
  pub sid : ℕ
  pub config : SessionConfig
  pub events : List Numbered
  pub delivered : List Delivered

abbrev pub run_of : Session → RunView
run_of s = record { sid = s.config.sid; config = s.config; events = reverse s.history; delivered = handed_so_far s.config s.history }
