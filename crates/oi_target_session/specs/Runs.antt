-- The commands that are executed, in the words of the units.
use Rattle.std.specs.Prelude.{ℕ, ◌≡◌, List, [], ◌∷◌, ◌++◌, map, if◌then◌else◌}
use Rattle.oi_pdu.specs.declared.codec.Pdu.{Pdu}
use Rattle.oi_target_session.specs.Sessions.{Session, counted, drained, reply_pdus}
use Rattle.oi_target_tasks.specs.Tasks.{is_waiting}
use Rattle.oi_target_tasks.specs.declared.task.Task.{Task}
use Rattle.oi_units.specs.Runs.{Request, replies, units_after}
use Rattle.oi_units.specs.declared.reply.UnitReply.{UnitReply}
use Rattle.oi_units.specs.declared.unit.LogicalUnit.{LogicalUnit}

-- the tasks at the front whose data are complete
abbrev pub ready : List Task → List Task
ready [] = []
ready (t ∷ ts) = if is_waiting t then [] else t ∷ ready ts

-- a task as a request to the units
abbrev pub request_of : List ℕ → Task → Request
request_of nexus t = record { nexus = nexus; command = t.command; payload = t.payload }

-- the PDUs of replies to these tasks, each with its StatSN
abbrev pub replies_sent : Session → List Task → List UnitReply → List Pdu
replies_sent s [] rs = []
replies_sent s (t ∷ ts) [] = []
replies_sent s (t ∷ ts) (r ∷ rs) = reply_pdus s t r ++ replies_sent (counted s) ts rs

-- what is executed is asked of the units one command after another, in order, and the replies are theirs
abbrev pub UnitsInOrder : Type 0
UnitsInOrder =
    (s : Session) (units : List LogicalUnit) (ts : List Task)
    → (drained s units ts).units ≡ units_after units (map (request_of s.nexus) (ready ts))

abbrev pub RepliesInOrder : Type 0
RepliesInOrder =
    (s : Session) (units : List LogicalUnit) (ts : List Task)
    → (drained s units ts).sent ≡ replies_sent s (ready ts) (replies units (map (request_of s.nexus) (ready ts)))
