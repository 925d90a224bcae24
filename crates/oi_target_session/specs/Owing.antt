-- Commands that another session's reset lets be executed (SAM-5, section 7.7): they stood behind one that it ended. Nothing can be
-- written on their connection then, so that their replies are owed until its next PDU comes.
use Rattle.std.specs.Prelude.{ℕ, ◌≡◌, List, [], ◌∷◌, ◌++◌, map, if◌then◌else◌}
use Rattle.oi_base.specs.Serials.{successor}
use Rattle.oi_base.specs.declared.serial.Serial.{Serial}
use Rattle.oi_pdu.specs.declared.codec.Pdu.{Pdu}
use Rattle.oi_target_session.specs.Runs.{ready, request_of}
use Rattle.oi_target_session.specs.Sessions.{Session, counted, reply_pdus}
use Rattle.oi_target_tasks.specs.Tasks.{is_waiting}
use Rattle.oi_target_tasks.specs.declared.task.Task.{Task}
use Rattle.oi_units.specs.Runs.{replies, units_after}
use Rattle.oi_units.specs.Units.{executed}
use Rattle.oi_units.specs.declared.reply.UnitReply.{UnitReply}
use Rattle.oi_units.specs.declared.unit.LogicalUnit.{LogicalUnit}

-- a command that was executed, and the reply to it
pub record Owed : Type 0 where
  pub task : Task
  pub reply : UnitReply

-- the units behind the commands at the front whose data are complete, and what is owed for these
pub record Woken : Type 0 where
  pub units : List LogicalUnit
  pub owed : List Owed

abbrev pub owing : Task → UnitReply → Woken → Woken
owing t r w = record { units = w.units; owed = record { task = t; reply = r } ∷ w.owed }

-- they are executed one after another, each on the units that the one before left
abbrev pub woken : List ℕ → List LogicalUnit → List Task → Woken
woken nexus units [] = record { units = units; owed = [] }
woken nexus units (t ∷ ts) =
    if is_waiting t then record { units = units; owed = [] }
    else owing t (executed units nexus t.command t.payload).reply (woken nexus (executed units nexus t.command t.payload).units ts)

-- the tasks from the first one on whose data are not complete
abbrev pub unready : List Task → List Task
unready [] = []
unready (t ∷ ts) = if is_waiting t then t ∷ ts else unready ts

-- the PDUs of what is owed, each reply with its StatSN
abbrev pub owed_pdus : Session → List Owed → List Pdu
owed_pdus s [] = []
owed_pdus s (o ∷ os) = reply_pdus s o.task o.reply ++ owed_pdus (counted s) os

-- the StatSN behind them
abbrev pub stat_behind : Serial → List Owed → Serial
stat_behind stat [] = stat
stat_behind stat (o ∷ os) = stat_behind (record { 0 = successor stat.0 }) os

-- the session that has sent them
abbrev pub paid : Session → List Owed → Session
paid s owed = record s { numbers = record { exp = s.numbers.exp; stat = stat_behind s.numbers.stat owed } }

-- the replies that are owed are those of the units to these commands, one after another
abbrev pub reply_owed : Owed → UnitReply
reply_owed o = o.reply

abbrev pub WokenInOrder : Type 0
WokenInOrder =
    (nexus : List ℕ) (units : List LogicalUnit) (ts : List Task)
    → ((woken nexus units ts).units ≡ units_after units (map (request_of nexus) (ready ts)))
    × (map reply_owed (woken nexus units ts).owed ≡ replies units (map (request_of nexus) (ready ts)))
