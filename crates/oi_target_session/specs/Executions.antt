-- The requests that a PDU whose turn it is lets the units execute, in the order of execution.
use Rattle.std.specs.Prelude.{◌≡◌, List, [], ◌++◌, map}
use Rattle.oi_pdu.specs.declared.codec.Pdu.{Pdu}
use Rattle.oi_sendtargets.specs.declared.found.Found.{Found}
use Rattle.oi_target_session.specs.Runs.{ready, replies_sent, request_of}
use Rattle.oi_target_session.specs.Sessions.{Session, handled, served}
use Rattle.oi_target_session.specs.declared.fed.Fed.{Fed}
use Rattle.oi_target_session.specs.declared.fed.Fed.TheVariants.{Going, Closed}
use Rattle.oi_units.specs.Runs.{Request, replies, units_after}
use Rattle.oi_units.specs.declared.reply.UnitReply.{UnitReply}
use Rattle.oi_units.specs.declared.unit.LogicalUnit.{LogicalUnit}

-- where the connection stays
abbrev pub if_going : Fed → List Request → List Request
if_going Closed requests = []
if_going Going requests = requests

-- the tasks whose data are complete, up to the first one that waits
abbrev pub served_requests : Session → List LogicalUnit → List Found → Pdu → List Request
served_requests s units listing p =
    if_going (handled s units listing p.head p.payload).fed
    (map (request_of (handled s units listing p.head p.payload).session.nexus) (ready (handled s units listing p.head p.payload).session.tasks))

-- the units behind it are those after these requests, one after another: nothing else changes them
abbrev pub ServedExecute : Type 0
ServedExecute =
    (s : Session) (units : List LogicalUnit) (listing : List Found) (p : Pdu)
    → (served s units listing p).units ≡ units_after units (served_requests s units listing p)

-- what is sent for it, where these are the replies of the units to its requests
abbrev pub sent_if_going : Fed → List Pdu → List Pdu
sent_if_going Closed pdus = []
sent_if_going Going pdus = pdus

abbrev pub served_sent : Session → List LogicalUnit → List Found → Pdu → List UnitReply → List Pdu
served_sent s units listing p rs =
    (handled s units listing p.head p.payload).sent
    ++ sent_if_going (handled s units listing p.head p.payload).fed
    (replies_sent (handled s units listing p.head p.payload).session (ready (handled s units listing p.head p.payload).session.tasks) rs)

-- the replies that are sent are those of the units to these requests, one after another
abbrev pub RepliesAreSent : Type 0
RepliesAreSent =
    (s : Session) (units : List LogicalUnit) (listing : List Found) (p : Pdu)
    → (served s units listing p).sent ≡ served_sent s units listing p (replies units (served_requests s units listing p))
