-- One session in its full feature phase: what becomes of each PDU of its connection (RFC 7143, sections 4.2 and 11).
use Rattle.std.specs.Prelude.{ℕ, Bool, true, false, ◌&&◌, ◌||◌, not, Option, Some, None, is_some, List, [], ◌∷◌, ◌++◌, drop, filter, length, take, bytes_eq, ◌==◌, nat_lt, if◌then◌else◌}
use Rattle.std.specs.List.{list_any}
use Rattle.oi_base.specs.Serials.{successor}
use Rattle.oi_base.specs.declared.tag.Tag.{Tag}
use Rattle.oi_pdu.specs.declared.codec.Pdu.{Pdu}
use Rattle.oi_pdu.specs.declared.header.DataOut.{DataOut}
use Rattle.oi_pdu.specs.declared.header.Header.{Header}
use Rattle.oi_pdu.specs.declared.header.Header.TheVariants as head
use Rattle.oi_pdu.specs.declared.header.LogoutRequest.{LogoutRequest}
use Rattle.oi_pdu.specs.declared.header.NopOut.{NopOut}
use Rattle.oi_pdu.specs.declared.header.ScsiCommand.{ScsiCommand}
use Rattle.oi_pdu.specs.declared.header.TaskManagement.{TaskManagement}
use Rattle.oi_pdu.specs.declared.header.TextRequest.{TextRequest}
use Rattle.oi_sendtargets.specs.declared.found.Found.{Found}
use Rattle.oi_target_login.specs.Texts.{text_pairs}
use Rattle.oi_target_session.specs.Answers.{after_status, echo_pdu, logout_pdu, no_tag, r2t_pdu, response_pdu, task_response_pdu, text_pdu}
use Rattle.oi_target_session.specs.Listings.{is_long, listing_text}
use Rattle.oi_target_session.specs.Sequences.{data_pdus, usable}
use Rattle.oi_target_tasks.specs.Tasks.{asking_by, grown, is_asking, is_busy, is_stray, is_waiting, new_task, replaced, waiting_in, waits_as}
use Rattle.oi_target_session.specs.declared.fed.Fed.{Fed}
use Rattle.oi_target_session.specs.declared.fed.Fed.TheVariants.{Going, Closed}
use Rattle.oi_target_session.specs.declared.limits.Limits.{Limits}
use Rattle.oi_target_session.specs.declared.limits.Numbers.{Numbers}
use Rattle.oi_target_session.specs.declared.reset.Reset.{Reset}
use Rattle.oi_target_session.specs.declared.reset.Reset.TheVariants.{Unit as OfUnit, Whole}
use Rattle.oi_target_tasks.specs.declared.task.Task.{Task}
use Rattle.oi_units.specs.Units.{executed, unit_named}
use Rattle.oi_units.specs.declared.reply.UnitReply.{UnitReply}
use Rattle.oi_text.specs.declared.pairs.Pair.{Pair}
use Rattle.oi_units.specs.declared.unit.LogicalUnit.{LogicalUnit}

-- the initiator port, whether the session is a discovery, what the login settled, ExpCmdSN and StatSN, the next target
-- transfer tag, the commands that were not executed yet in order, the resets that other sessions of the target have to learn
-- of, and of a discovery the text of the initiator so far and what is left of the target's text
pub record Session : Type 0 where
  pub nexus : List ℕ
  pub discovers : Bool
  pub limits : Limits
  pub numbers : Numbers
  pub transfer : ℕ
  pub tasks : List Task
  pub resets : List Reset
  pub text : List ℕ
  pub left : List ℕ

-- as a login opens it; target transfer tags count from 1
abbrev pub new_session : List ℕ → Bool → Limits → Numbers → Session
new_session nexus discovers limits numbers = record {
  nexus = nexus;
  discovers = discovers;
  limits = usable limits;
  numbers = numbers;
  transfer = 1;
  tasks = [];
  resets = [];
  text = [];
  left = [];
}

-- what becomes of a PDU: the session and the units afterwards, the PDUs that are sent, and whether the connection stays
pub record Turn : Type 0 where
  pub session : Session
  pub units : List LogicalUnit
  pub sent : List Pdu
  pub fed : Fed

-- before any command is executed
pub record Handled : Type 0 where
  pub session : Session
  pub sent : List Pdu
  pub fed : Fed

abbrev pub goes : Session → List Pdu → Handled
goes s sent = record { session = s; sent = sent; fed = Going }

-- the PDU closes the connection, and has no other effect
abbrev pub closes : Session → Handled
closes s = record { session = s; sent = []; fed = Closed }

-- a status was sent
abbrev pub counted : Session → Session
counted s = record s { numbers = after_status s.numbers }

abbrev pub with_tasks : Session → List Task → Session
with_tasks s tasks = record s { tasks = tasks }

-- a transfer tag was given away
abbrev pub with_transfer : Session → List Task → Session
with_transfer s tasks = record s { transfer = successor s.transfer; tasks = tasks }

abbrev pub with_reset : Session → List Task → Reset → Session
with_reset s tasks reset = record s { numbers = after_status s.numbers; tasks = tasks; resets = s.resets ++ reset ∷ [] }

-- a task asks by the next transfer tag
abbrev pub asking : Session → Task → Task
asking s t = asking_by s.transfer s.limits.max_burst t

-- the resets were told
abbrev pub without_resets : Session → Session
without_resets s = record s { resets = [] }

-- a command that cannot be: its tag is busy, it has immediate data without W, or too many of them
abbrev pub is_unfit : Session → ScsiCommand → List ℕ → Bool
is_unfit s h payload =
    is_busy h.tag.0 s.tasks || nat_lt 0 (length payload) && not h.writes || nat_lt h.length (length payload) || nat_lt s.limits.first_burst (length payload)

-- a task stands behind the others; where its data are not complete, the target asks for them
abbrev pub queued : Session → Task → Handled
queued s t =
    if is_waiting t then goes (with_transfer s (s.tasks ++ asking s t ∷ [])) (r2t_pdu s.numbers (asking s t) ∷ [])
    else goes (with_tasks s (s.tasks ++ t ∷ [])) []

abbrev pub commanded : Session → ScsiCommand → List ℕ → Handled
commanded s h payload = if is_unfit s h payload then closes s else queued s (new_task h payload)

-- the task that waits under its tag has now these data; where they end its R2T and are not complete, the target asks for more
abbrev pub filled_by : Session → Task → Handled
filled_by s t =
    if is_asking t
    then goes (with_transfer s (replaced (asking s t) s.tasks)) (r2t_pdu s.numbers (asking s t) ∷ [])
    else goes (with_tasks s (replaced t s.tasks)) []

abbrev pub filled_from : Session → List ℕ → Option Task → Handled
filled_from s payload None = goes s []
filled_from s payload (Some t) = filled_by s (grown t payload)

-- data for no task that waits are ignored
abbrev pub data_to : Session → DataOut → List ℕ → Option Task → Handled
data_to s h payload None = goes s []
data_to s h payload (Some t) = if is_stray t h payload then closes s else filled_by s (grown t payload)

abbrev pub data_out : Session → DataOut → List ℕ → Handled
data_out s h payload = data_to s h payload (waiting_in h.tag.0 s.tasks)

-- a NOP-Out with a tag comes back
abbrev pub pinged : Session → NopOut → List ℕ → Handled
pinged s h payload = if h.tag.0 == no_tag then goes s [] else goes (counted s) (echo_pdu s.numbers h.tag (take s.limits.max_send payload) ∷ [])

abbrev pub logged_out : Session → LogoutRequest → Handled
logged_out s h = record { session = counted s; sent = logout_pdu s.numbers h.tag ∷ []; fed = Closed }

-- the tasks that a reset leaves
abbrev pub spared : Reset → List Task → List Task
spared (OfUnit lun) tasks = filter (λ t. not (bytes_eq t.command.lun lun)) tasks
spared Whole tasks = []

-- another session of the target was reset
abbrev pub reset_by : Session → Reset → Session
reset_by s reset = with_tasks s (spared reset s.tasks)

abbrev pub responded : Session → Tag → ℕ → Handled
responded s tag response = goes (counted s) (task_response_pdu s.numbers tag response ∷ [])

-- ABORT TASK: 0 where the task waits for data, which ends it, else 1
abbrev pub aborted : Session → TaskManagement → Handled
aborted s h =
    if list_any (waits_as h.referenced.0) s.tasks
    then responded (with_tasks s (filter (λ t. not (waits_as h.referenced.0 t)) s.tasks)) h.tag 0
    else responded s h.tag 1

abbrev pub reset_as : Session → TaskManagement → Reset → Handled
reset_as s h reset = goes (with_reset s (spared reset s.tasks) reset) (task_response_pdu s.numbers h.tag 0 ∷ [])

-- LOGICAL UNIT RESET: 2 for a unit that is not there; TARGET WARM RESET; other functions are not supported
abbrev pub managed : Session → List LogicalUnit → TaskManagement → Handled
managed s units h =
    if h.function == 1 then aborted s h
    else (if h.function == 5 then (if is_some (unit_named units h.lun) then reset_as s h (OfUnit h.lun) else responded s h.tag 2)
    else (if h.function == 6 then reset_as s h Whole
    else responded s h.tag 5))

-- the reply to a task: its data, with the status in the last piece, or the status alone
abbrev pub reply_pdus : Session → Task → UnitReply → List Pdu
reply_pdus s t r =
    if length r.sent == 0 then response_pdu s.numbers t r ∷ []
    else data_pdus s.limits s.numbers t.tag r.residual (length r.sent) 0 0 r.sent

-- PDUs go out before those of a turn that goes on
abbrev pub behind : List Pdu → Turn → Turn
behind sent t = record { session = t.session; units = t.units; sent = sent ++ t.sent; fed = Going }

-- commands are executed in order, up to the first one whose data are not complete
abbrev pub drained : Session → List LogicalUnit → List Task → Turn
drained s units [] = record { session = with_tasks s []; units = units; sent = []; fed = Going }
drained s units (t ∷ ts) =
    if is_waiting t then record { session = with_tasks s (t ∷ ts); units = units; sent = []; fed = Going }
    else behind (reply_pdus s t (executed units s.nexus t.command t.payload).reply)
    (drained (counted s) (executed units s.nexus t.command t.payload).units ts)

abbrev pub and_drained : Fed → Handled → List LogicalUnit → Turn
and_drained Closed h units = record { session = h.session; units = units; sent = h.sent; fed = Closed }
and_drained Going h units = behind h.sent (drained h.session units h.session.tasks)

-- the text of a discovery (RFC 7143, sections 11.10 and 11.11): so many bytes of it go out at once as the initiator takes
abbrev pub with_text : Session → List ℕ → List ℕ → Session
with_text s text left = record s { numbers = after_status s.numbers; text = text; left = left }

-- the text of the initiator goes on in the next request
abbrev pub text_kept : Session → TextRequest → List ℕ → Handled
text_kept s h text = goes (with_text s text s.left) (text_pdu s.numbers h.tag false true [] ∷ [])

-- the front of what is left is sent
abbrev pub text_sent : Session → TextRequest → List ℕ → Handled
text_sent s h left =
    goes (with_text s [] (drop s.limits.max_send left))
    (text_pdu s.numbers h.tag (nat_lt s.limits.max_send (length left)) (nat_lt s.limits.max_send (length left)) (take s.limits.max_send left) ∷ [])

-- the text of a request is whole
abbrev pub text_read : Session → List Found → TextRequest → Option (List Pair) → Handled
text_read s listing h None = closes s
text_read s listing h (Some pairs) = text_sent s h (listing_text listing pairs)

abbrev pub texted_with : Session → List Found → TextRequest → List ℕ → Handled
texted_with s listing h text =
    if is_long text then closes s
    else (if h.more then text_kept s h text
    else (if length text == 0 && not (h.ttt == no_tag) then text_sent s h s.left
    else text_read s listing h (text_pairs text)))

abbrev pub texted : Session → List Found → TextRequest → List ℕ → Handled
texted s listing h payload = texted_with s listing h (s.text ++ payload)

-- a PDU whose turn it is, in a normal session
abbrev pub handled_normally : Session → List LogicalUnit → Header → List ℕ → Handled
handled_normally s units (head.ScsiCommand h) payload = commanded s h payload
handled_normally s units (head.DataOut h) payload = data_out s h payload
handled_normally s units (head.NopOut h) payload = pinged s h payload
handled_normally s units (head.TaskManagement h) payload = managed s units h
handled_normally s units (head.LogoutRequest h) payload = logged_out s h
handled_normally s units h payload = closes s

-- in a discovery
abbrev pub handled_discovering : Session → List Found → Header → List ℕ → Handled
handled_discovering s listing (head.TextRequest h) payload = texted s listing h payload
handled_discovering s listing (head.NopOut h) payload = pinged s h payload
handled_discovering s listing (head.LogoutRequest h) payload = logged_out s h
handled_discovering s listing h payload = closes s

-- what has no place in the session closes the connection
abbrev pub handled : Session → List LogicalUnit → List Found → Header → List ℕ → Handled
handled s units listing h payload = if s.discovers then handled_discovering s listing h payload else handled_normally s units h payload

-- a PDU whose turn it is
abbrev pub served : Session → List LogicalUnit → List Found → Pdu → Turn
served s units listing p = and_drained (handled s units listing p.head p.payload).fed (handled s units listing p.head p.payload) units
