-- What ties the ledger, the list of entries, the loads and the last commands that a session keeps to its history.
use Rattle.std.specs.Prelude.{◌≡◌, ℕ, Bool, true, false, ◌+◌, ◌≤◌, ◌<◌, List, [], ◌∷◌, length, reverse, vec_len, IfSome, Option}
use Rattle.std.specs.Vec.{vec_capacity}
use Rattle.oi_base.specs.Limits.{most_management_tags}
use Rattle.oi_history.specs.Configs.{IsValidConfig}
use Rattle.oi_history.specs.Courses.{phase_step}
use Rattle.oi_history.specs.Ledgers.{CanStep, LeavesRoom, NeedsNoMemory}
use Rattle.oi_history.specs.Meanings.{meanings}
use Rattle.oi_history.specs.Permitted.{ArePermitted, IsPermitted}
use Rattle.oi_history.specs.Owing.{owed_in}
use Rattle.oi_history.specs.Phases.{is_ended, is_logged_in}
use Rattle.oi_history.specs.Releasing.{HasTurn, draw_of, entries_of, pieces_of}
use Rattle.oi_history.specs.declared.event.Event.{Event}
use Rattle.oi_history.specs.declared.event.Numbered.{Numbered}
use Rattle.oi_history.specs.declared.owing.Owed.{Owed}
use Rattle.oi_solo.specs.Issues.{issues_of}
use Rattle.oi_solo.specs.Limits.{kept_bytes, receiving_load, sending_load}
use Rattle.oi_solo.specs.Sessions.{Session, entered, entered_all, now_of, releases}
use Rattle.oi_solo.specs.declared.kept.Kept.{Kept}

-- entries are numbered without a gap
abbrev pub IsNumbered : List Numbered → Type 0
IsNumbered [] = Unit {0}
IsNumbered (n ∷ H) = (n.number ≡ length H) × IsNumbered H

-- entries that are kept back for the end of the session
abbrev pub kept_back : Bool → ℕ
kept_back false = 1
kept_back true = 0

abbrev pub session_of : Kept → Session
session_of k = record { config = k.ledger.config; history = reverse k.events.items }

pub record IsKept (k : Kept) : Type 0 where
  pub valid : IsValidConfig k.ledger.config
  pub now : k.ledger.now ≡ meanings k.ledger.config (reverse k.events.items)
  pub legal : ArePermitted k.ledger.config (reverse k.events.items)
  pub numbered : IsNumbered (reverse k.events.items)
  pub sending : k.sending ≡ sending_load (reverse k.events.items)
  pub receiving : k.receiving ≡ receiving_load k.ledger.config (reverse k.events.items)
  pub sending_steps : k.sending.steps ≤ vec_len k.events
  pub receiving_steps : k.receiving.steps ≤ vec_len k.events
  pub sending_kept : k.sending.kept ≤ k.ledger.config.kept
  pub receiving_kept : k.receiving.kept ≤ k.ledger.config.kept
  pub issues : k.issues.items ≡ issues_of (reverse k.events.items)
  pub room : vec_len k.events + kept_back (is_ended k.ledger.now.phase) ≤ vec_capacity k.events

-- the next entry of a session
abbrev pub next_entry : Session → Event → Numbered
next_entry s e = record { number = length s.history; event = e }

-- an entry without a payload that needs no memory
pub record CanEnter (k : Kept) (e : Event) : Type 0 where
  pub kept : IsKept k
  pub empty : kept_bytes e ≡ 0
  pub permitted : IsPermitted k.ledger.config (session_of k).history (next_entry (session_of k) e)
  pub can : CanStep k.ledger.now e
  pub memory : NeedsNoMemory k.ledger e
  pub room : vec_len k.events + 1 + kept_back (is_ended (phase_step k.ledger.config k.ledger.now.clock e k.ledger.now.phase)) ≤ vec_capacity k.events

-- what it leaves
pub record HasEntered (old new : Kept) (e : Event) : Type 0 where
  pub kept : IsKept new
  pub session : session_of new ≡ entered (session_of old) e
  pub ledger : LeavesRoom old.ledger new.ledger e
  pub len : vec_len new.events ≡ vec_len old.events + 1
  pub capacity : vec_capacity new.events ≡ vec_capacity old.events

-- all ended tags are released, with room for two entries and the end
pub record IsReleased (old new : Kept) : Type 0 where
  pub kept : IsKept new
  pub session : session_of new ≡ entered_all (session_of old) (releases (now_of (session_of old)))
  pub takes : old.ledger.takes ≤ new.ledger.takes
  pub pieces : old.ledger.pieces ≤ new.ledger.pieces
  pub events : vec_len new.events + 3 ≤ vec_capacity new.events

-- R2Ts are taken up, with room for one entry and the end
pub record HasDrawn (old new : Kept) (draw : Option ℕ) : Type 0 where
  pub kept : IsKept new
  pub session : session_of new ≡ entered_all (session_of old) (draw_of draw)
  pub takes : old.ledger.takes ≤ new.ledger.takes
  pub pieces : old.ledger.pieces ≤ new.ledger.pieces + pieces_of old.ledger.now (draw_of draw)
  pub events : vec_len new.events + 2 ≤ vec_capacity new.events

-- what is owed, and the room for it
pub record CanTurn (k : Kept) (o : Option Owed) : Type 0 where
  pub kept : IsKept k
  pub on : is_logged_in k.ledger.now.phase k.ledger.now.generation ≡ true
  pub few : IfSome o (λ x. k.ledger.now.managed < most_management_tags)
  pub owed : entries_of o ≡ owed_in k.ledger.config k.ledger.now
  pub room : HasTurn k.ledger (entries_of o)
  pub events : vec_len k.events + length k.ledger.now.ended + 3 ≤ vec_capacity k.events
