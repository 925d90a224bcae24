-- The PDUs of a session that had their turn, and what became of its commands by each of them.
use Rattle.std.specs.Prelude.{Some, None, is_some, List, [], ◌∷◌, ◌++◌, bytes_eq, filter, map, ◌==◌, if◌then◌else◌}
use Rattle.std.specs.List.{flat_map, slice_get}
use Rattle.oi_pdu.specs.declared.codec.Pdu.{Pdu}
use Rattle.oi_pdu.specs.declared.header.Header.{Header}
use Rattle.oi_pdu.specs.declared.header.Header.TheVariants as head
use Rattle.oi_pdu.specs.declared.header.TaskManagement.{TaskManagement}
use Rattle.oi_target.specs.Targets.{Target}
use Rattle.oi_target.specs.Turns.{told, turn_of}
use Rattle.oi_target_session.specs.Arrivals.{Held, advanced, is_held}
use Rattle.oi_target_session.specs.Sessions.{Session, handled, without_resets}
use Rattle.oi_target_session.specs.declared.fed.Fed.{Fed}
use Rattle.oi_target_session.specs.declared.fed.Fed.TheVariants.{Going, Closed}
use Rattle.oi_target_session.specs.declared.place.Place.{Place}
use Rattle.oi_target_session.specs.declared.place.Place.TheVariants.{Now, InTurn, Early, Outside}
use Rattle.oi_target_session.specs.declared.reset.Reset.{Reset}
use Rattle.oi_target_session.specs.declared.reset.Reset.TheVariants.{Unit as OfUnit, Whole}
use Rattle.oi_target_tasks.specs.Tasks.{unit_command, waits_as}
use Rattle.oi_target_tasks.specs.declared.task.Task.{Task}
use Rattle.oi_units.specs.Runs.{Request}
use Rattle.oi_units.specs.Units.{unit_named}
use Rattle.oi_units.specs.declared.command.UnitCommand.{UnitCommand}
use Rattle.oi_units.specs.declared.unit.LogicalUnit.{LogicalUnit}

-- a PDU that had its turn, and what it found: the session, and the target with what all others hold
pub record Turned : Type 0 where
  pub session : Session
  pub target : Target
  pub pdu : Pdu

-- it, in its parts
abbrev pub turned_at : Target → Session → Pdu → Turned
turned_at t s p = record { session = s; target = t; pdu = p }

-- where the connection stays
abbrev pub turns_if : Fed → List Turned → List Turned
turns_if Closed turns = []
turns_if Going turns = turns

-- a PDU, and those that were held and follow it at once while the connection stays
abbrev pub in_turn_turns : Target → Session → Pdu → Held → List Turned
in_turn_turns t s p [] = turned_at t (advanced s) p ∷ []
in_turn_turns t s p (None ∷ held) = turned_at t (advanced s) p ∷ []
in_turn_turns t s p (Some next ∷ held) =
    turned_at t (advanced s) p
    ∷ turns_if (turn_of t (advanced s) p).fed
    (in_turn_turns (told t (turn_of t (advanced s) p)) (without_resets (turn_of t (advanced s) p).session) next held)

-- the PDUs that have their turn as one comes; none where it is held for later
abbrev pub turns_at : Place → Target → Session → Held → Pdu → List Turned
turns_at Now t s held p = turned_at t s p ∷ []
turns_at InTurn t s held p = in_turn_turns t s p held
turns_at (Early at) t s held p = []
turns_at Outside t s held p = []

-- the command of a task
abbrev pub command_of_task : Task → UnitCommand
command_of_task t = t.command

-- and of a request to the units
abbrev pub command_of_request : Request → UnitCommand
command_of_request r = r.command

-- the commands of tasks, in order
abbrev pub commands_of : List Task → List UnitCommand
commands_of ts = map command_of_task ts

-- where the connection stays
abbrev pub commands_if : Fed → List UnitCommand → List UnitCommand
commands_if Closed cs = []
commands_if Going cs = cs

-- the command that a PDU brings
abbrev pub brought : Header → List UnitCommand
brought (head.ScsiCommand h) = unit_command h ∷ []
brought h = []

-- whether the connection stays behind a PDU
abbrev pub fed_by : Turned → Fed
fed_by t = (handled t.session t.target.units t.target.listing t.pdu.head t.pdu.payload).fed

-- the command that came by a PDU; one that closes the connection is not taken
abbrev pub came_in : Turned → List UnitCommand
came_in t = commands_if (fed_by t) (brought t.pdu.head)

-- the tasks that a reset takes (SAM-5, section 7.7)
abbrev pub taken_by : Reset → List Task → List Task
taken_by (OfUnit lun) tasks = filter (λ t. bytes_eq t.command.lun lun) tasks
taken_by Whole tasks = tasks

-- the tasks that ABORT TASK, LOGICAL UNIT RESET or TARGET WARM RESET takes (RFC 7143, section 11.5.1)
abbrev pub taken_as : Session → List LogicalUnit → TaskManagement → List Task
taken_as s units h =
    if h.function == 1 then filter (waits_as h.referenced.0) s.tasks
    else (if h.function == 5 then (if is_some (unit_named units h.lun) then taken_by (OfUnit h.lun) s.tasks else [])
    else (if h.function == 6 then taken_by Whole s.tasks
    else []))

-- the tasks that a PDU takes
abbrev pub taken_in : Session → List LogicalUnit → Header → List Task
taken_in s units (head.TaskManagement h) = taken_as s units h
taken_in s units h = []

-- the commands that end before they are executed: all, where the connection closes
abbrev pub ended_as : Fed → Turned → List UnitCommand
ended_as Closed t = commands_of t.session.tasks
ended_as Going t = commands_of (taken_in t.session t.target.units t.pdu.head)

-- those that a PDU ends
abbrev pub ended_in : Turned → List UnitCommand
ended_in t = ended_as (fed_by t) t

-- the commands that end where a PDU has no place, which closes the connection: one outside the window, or a second one of its number
abbrev pub unplaced : Place → Session → Held → List UnitCommand
unplaced Now s held = []
unplaced InTurn s held = []
unplaced (Early at) s held = if is_held (slice_get held at) then commands_of s.tasks else []
unplaced Outside s held = commands_of s.tasks

-- the commands that end as a PDU comes
abbrev pub ended_at : Place → Target → Session → Held → Pdu → List UnitCommand
ended_at place t s held p = flat_map ended_in (turns_at place t s held p) ++ unplaced place s held
