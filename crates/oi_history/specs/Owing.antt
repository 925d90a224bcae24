-- What is sent next, once all ended tags are released, and as which PDU (RFC 7143, sections 11.3, 11.5, 11.7, 11.14 and
-- 11.18).
use Rattle.std.specs.Prelude.{ℕ, Bool, true, false, not, ◌==◌, ◌&&◌, ◌||◌, ◌++◌, List, [], ◌∷◌, Option, Some, None, count_by, drop, is_some, length, map, replicate, slice_get, take, nat_lt, if◌then◌else◌}
use Rattle.std.specs.List.{position}
use Rattle.std.specs.Option.{option_map_or}
use Rattle.oi_base.specs.TagLayout.{age_after, management_tag, reserved_tag}
use Rattle.oi_base.specs.declared.tag.Tag.{Tag}
use Rattle.oi_history.specs.Handling.{is_idle, is_live, lun_at}
use Rattle.oi_history.specs.Meanings.{Meanings, last_issue, meanings, step}
use Rattle.oi_history.specs.Phases.{has_connection}
use Rattle.oi_history.specs.Queues.{drawable, drawn}
use Rattle.oi_history.specs.Sending.{command_pdu}
use Rattle.oi_history.specs.Tasks.{is_waiting}
use Rattle.oi_history.specs.declared.allocated.Allocated.{Allocated}
use Rattle.oi_history.specs.declared.config.SessionConfig.{SessionConfig}
use Rattle.oi_history.specs.declared.event.Event.{Event}
use Rattle.oi_history.specs.declared.event.Event.TheVariants.{Push, PduIn, Issue, Draw, Reap, Manage, Nop, Logout}
use Rattle.oi_history.specs.declared.event.Numbered.{Numbered}
use Rattle.oi_history.specs.declared.event.Subject.{Subject}
use Rattle.oi_history.specs.declared.event.Subject.TheVariants.{Task as OneTask, Lun, Whole}
use Rattle.oi_history.specs.declared.owed.Echo.{Echo}
use Rattle.oi_history.specs.declared.owed.Queued.{Queued}
use Rattle.oi_history.specs.declared.phase.Handler.{Handler}
use Rattle.oi_history.specs.declared.phase.Handler.TheVariants.{Aborting, ResettingLun, ResettingTarget}
use Rattle.oi_history.specs.declared.task.Task.{Task}
use Rattle.oi_pdu.specs.declared.codec.Pdu.{Pdu}
use Rattle.oi_pdu.specs.declared.header.Header.TheVariants.{NopOut, TaskManagement, DataOut, LogoutRequest}
use Rattle.oi_scsi.specs.Commands.{lun_of}
use Rattle.oi_timers.specs.Ping.{ping_due}
use Rattle.oi_timers.specs.declared.pings.PingDue.{PingDue}
use Rattle.oi_timers.specs.declared.pings.PingDue.TheVariants.{Send}
use Rattle.oi_window.specs.Numbering.{is_open, next_of}

-- the tag of the next management PDU
abbrev pub next_management : Meanings → Tag
next_management m = record { 0 = management_tag (age_after m.generation) m.managed }

-- live commands of a logical unit
abbrev pub live_on_lun : ℕ → List Task → ℕ
live_on_lun lun tasks = count_by (λ t. t.command.lun == lun && is_live t.fate) tasks

-- the least submission that waits and whose logical unit has room
abbrev pub sendable : ℕ → List Task → Option ℕ
sendable depth tasks = position (λ t. is_waiting t.fate && nat_lt (live_on_lun t.command.lun tasks) depth) tasks

abbrev pub push_of : ℕ → Queued → Event
push_of generation q = Push q.id generation q.ttt q.piece.number q.piece.offset q.piece.length q.piece.last

-- the first of a list, else of another
abbrev pub or_else : List Event → List Event → List Event
or_else [] otherwise = otherwise
or_else (e ∷ es) otherwise = e ∷ es

abbrev pub queued_next : ℕ → List Queued → List Event
queued_next generation [] = []
queued_next generation (q ∷ queue) = push_of generation q ∷ []

abbrev pub logout_next : ℕ → Meanings → List Event
logout_next generation m = if m.leaving then Logout generation (next_management m) ∷ [] else []

-- the request of the error handler, until it was sent
abbrev pub managed_next : ℕ → Tag → Handler → List Event
managed_next generation tag (Aborting id None since) = Manage generation tag 1 (OneTask id) ∷ []
managed_next generation tag (ResettingLun lun None since) = Manage generation tag 5 (Lun lun) ∷ []
managed_next generation tag (ResettingTarget None since) = Manage generation tag 6 Whole ∷ []
managed_next generation tag h = []

abbrev pub echo_next : ℕ → List Echo → List Event
echo_next generation [] = []
echo_next generation (e ∷ echoes) = Nop generation reserved_tag e.ttt e.lun ∷ []

abbrev pub is_send : PingDue → Bool
is_send Send = true
is_send d = false

abbrev pub ping_next : SessionConfig → ℕ → Meanings → List Event
ping_next C generation m =
    if is_send (ping_due m.heard (option_map_or (λ p. Some p.sent) m.ping None) C.noop_interval C.noop_timeout m.clock)
    then Nop generation (next_management m).0 reserved_tag (replicate 8 0) ∷ [] else []

abbrev pub drawn_with : ℕ → ℕ → List Queued → List Event
drawn_with generation count [] = []
drawn_with generation count (q ∷ qs) = Draw count ∷ push_of generation q ∷ []

-- all R2Ts are taken up, and the first piece that they ask for is sent
abbrev pub drawn_next : ℕ → Meanings → List Event
drawn_next generation m = drawn_with generation (length (drawable m.busy m.tasks m.solicited)) (drawn m.params m.busy m.tasks m.solicited)

abbrev pub issue_with : ℕ → ℕ → Option ℕ → Option Tag → List Event
issue_with generation cmdsn (Some id) (Some tag) = Issue id generation tag cmdsn ∷ []
issue_with generation cmdsn None tag = []
issue_with generation cmdsn id None = []

abbrev pub issue_next : SessionConfig → ℕ → Meanings → List Event
issue_next C generation m =
    if is_idle m.handler && not m.leaving && is_open m.window then issue_with generation (next_of m.window) (sendable C.queue_depth m.tasks) (slice_get m.free 0) else []

-- behind the data that wait: the wish to leave, the error handler, answers, pings, R2Ts, commands
abbrev pub next_after_data : SessionConfig → ℕ → Meanings → List Event
next_after_data C generation m =
    or_else (logout_next generation m) (or_else (managed_next generation (next_management m) m.handler) (or_else (echo_next generation m.echoes)
    (or_else (ping_next C generation m) (or_else (drawn_next generation m) (issue_next C generation m)))))

-- on a broken connection only data that wait are sent, and after a Logout, or without a connection, nothing
abbrev pub next_in : SessionConfig → ℕ → Meanings → List Event
next_in C generation m =
    if m.logout_sent || not (has_connection m.phase) then [] else or_else (queued_next generation m.queue) (if is_some m.broken then [] else next_after_data C generation m)

-- what stands after the release of tags; it asks no number of an entry
abbrev pub reaped : SessionConfig → List Tag → Meanings → Meanings
reaped C [] m = m
reaped C (tag ∷ tags) m = reaped C tags (step C (Reap tag) 0 m)

-- what is owed, once all ended tags are released
abbrev pub owed_in : SessionConfig → Meanings → List Event
owed_in C m = next_in C m.generation (reaped C m.ended m)

abbrev pub owed : SessionConfig → List Numbered → List Event
owed C H = owed_in C (meanings C H)

-- the entries of one transmission
abbrev pub turn : SessionConfig → List Numbered → List Event
turn C H = map (λ tag. Reap tag) (meanings C H).ended ++ owed C H

-- as PDUs

abbrev pub data_out : Meanings → ℕ → ℕ → ℕ → ℕ → ℕ → Bool → Option Tag → Option Task → List Pdu
data_out m id ttt number offset size last (Some tag) (Some t) = record {
  head = DataOut (record { last = last; lun = lun_of t.command.lun; tag = tag; ttt = ttt; exp_stat = record { 0 = m.told.stat }; number = number; offset = offset });
  payload = take size (drop offset t.command.written);
} ∷ []
data_out m id ttt number offset size last None t = []
data_out m id ttt number offset size last tag None = []

abbrev pub subject_lun : List Task → Subject → List ℕ
subject_lun tasks (OneTask id) = lun_of (lun_at id tasks)
subject_lun tasks (Lun lun) = lun_of lun
subject_lun tasks Whole = replicate 8 0

-- the tag and CmdSN of the last command of the task that an ABORT TASK names; a reset names none
abbrev pub referenced : (ℕ → Option Allocated) → Subject → Allocated
referenced last (OneTask id) = option_map_or (λ a. a) (last id) (record { tag = record { 0 = reserved_tag }; id = id; cmdsn = 0 })
referenced last s = record { tag = record { 0 = reserved_tag }; id = 0; cmdsn = 0 }

abbrev pub management_pdu : Meanings → Tag → ℕ → List ℕ → Allocated → Pdu
management_pdu m tag function lun a = record {
  head = TaskManagement (record {
    immediate = true;
    function = function;
    lun = lun;
    tag = tag;
    referenced = a.tag;
    cmdsn = m.window.next;
    exp_stat = record { 0 = m.stat };
    ref_cmdsn = record { 0 = a.cmdsn };
  });
  payload = [];
}

abbrev pub nop_pdu : Meanings → ℕ → ℕ → List ℕ → Pdu
nop_pdu m tag ttt lun = record {
  head = NopOut (record { immediate = true; lun = lun; tag = record { 0 = tag }; ttt = ttt; cmdsn = m.window.next; exp_stat = record { 0 = m.stat } });
  payload = [];
}

abbrev pub logout_pdu : Meanings → Tag → Pdu
logout_pdu m tag = record {
  head = LogoutRequest (record { immediate = true; reason = 0; tag = tag; cid = 0; cmdsn = m.window.next; exp_stat = record { 0 = m.stat } });
  payload = [];
}

-- the PDU that an entry sends, by the meanings before it and the last command of each submission
abbrev pub pdu_in : Meanings → (ℕ → Option Allocated) → Event → List Pdu
pdu_in m last (Issue id generation tag cmdsn) = option_map_or (λ t. command_pdu m.params m.stat t.command tag cmdsn ∷ []) (slice_get m.tasks id) []
pdu_in m last (Push id generation ttt number offset size last-piece) =
    data_out m id ttt number offset size last-piece (option_map_or (λ q. Some q.tag) (slice_get m.queue 0) None) (slice_get m.tasks id)
pdu_in m last (Manage generation tag function subject) = management_pdu m tag function (subject_lun m.tasks subject) (referenced last subject) ∷ []
pdu_in m last (Nop generation tag ttt lun) = nop_pdu m tag ttt lun ∷ []
pdu_in m last (Logout generation tag) = logout_pdu m tag ∷ []
pdu_in m last e = []

abbrev pub sent_by : SessionConfig → List Numbered → Event → List Pdu
sent_by C H e = pdu_in (meanings C H) (λ id. last_issue id H) e

-- the connection on which an entry sends
abbrev pub sends_on : Event → Option ℕ
sends_on (Issue id generation tag cmdsn) = Some generation
sends_on (Push id generation ttt number offset size last) = Some generation
sends_on (Manage generation tag function subject) = Some generation
sends_on (Nop generation tag ttt lun) = Some generation
sends_on (Logout generation tag) = Some generation
sends_on e = None

abbrev pub is_on : ℕ → Option ℕ → Bool
is_on generation o = option_map_or (λ g. g == generation) o false

-- the PDUs sent on a connection, in order, and those received on it
abbrev pub sent_pdus : SessionConfig → ℕ → List Numbered → List Pdu
sent_pdus C generation [] = []
sent_pdus C generation (n ∷ H) = sent_pdus C generation H ++ (if is_on generation (sends_on n.event) then sent_by C H n.event else [])

abbrev pub received_from : ℕ → Event → List Pdu
received_from generation (PduIn g pdu) = if g == generation then pdu ∷ [] else []
received_from generation e = []

abbrev pub received_pdus : ℕ → List Numbered → List Pdu
received_pdus generation [] = []
received_pdus generation (n ∷ H) = received_pdus generation H ++ received_from generation n.event
