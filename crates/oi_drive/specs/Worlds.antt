-- The replayed session: what its input bytes make of it, and the text that they give. Bytes are taken one by one; at a
-- line feed the line is done. After a stop nothing counts.
use Rattle.std.specs.Prelude.{ℕ, ℤ, Bool, true, false, ◌+◌, ◌-◌, ◌^◌, ◌==◌, ◌||◌, ◌++◌, List, [], ◌∷◌, Option, Some, None, is_some, length, min, set, slice_get, take, nat_le, nat_lt, if◌then◌else◌}
use Rattle.oi_base.specs.Limits.{input_limit, line_limit, most_received}
use Rattle.oi_drive.specs.Deeds.{Deed, aborts, cuts, fails, hands_out, joined, leaves, logs_in, nothing, receives, resets, says, sends, shows_window, submits, ticks}
use Rattle.oi_drive.specs.declared.answer.Answer.{Answer}
use Rattle.oi_drive.specs.declared.answer.Answer.TheVariants.{Done, Refused, Outside, Spent}
use Rattle.oi_drive.specs.declared.runner.Stop.{Stop}
use Rattle.oi_drive.specs.declared.runner.Stop.TheVariants.{Asked, InputEnd, BadLine, Full}
use Rattle.oi_history.specs.declared.config.SessionConfig.{SessionConfig}
use Rattle.oi_history.specs.declared.event.Event.{Event}
use Rattle.oi_history.specs.declared.event.Event.TheVariants.{ResetLun, ResetTarget}
use Rattle.oi_history.specs.declared.rule.Rule.{Rule}
use Rattle.oi_history.specs.declared.rule.Rule.TheVariants.{Header, TooLong as TooLongSegment}
use Rattle.oi_script.specs.Lines.{drive_line}
use Rattle.oi_script.specs.Notices.{refused_text}
use Rattle.oi_script.specs.Applied.{applied}
use Rattle.oi_script.specs.Settings.{setting_of}
use Rattle.oi_script.specs.declared.settings.Setting.{Setting}
use Rattle.oi_script.specs.declared.line.DriveLine.{DriveLine}
use Rattle.oi_script.specs.declared.line.DriveLine.TheVariants.{Skip, Set, Login, Submit, Send, Recv, Cut, Tick, Abort, ResetLun as ResetLunLine, ResetTarget as ResetTargetLine, Leave, Window, End}
use Rattle.oi_solo.specs.Sessions.{Session, entered_all}
use Rattle.oi_stream.specs.Feeding.{State}
use Rattle.oi_stream.specs.Framing.{Stop as Cease, Short, BadHeader, TooLong}
use Rattle.oi_stream.specs.Bytewise.{fed, unfed}

-- the splitter of a link; none once it has ended
abbrev pub Link : Type 0
Link = Option State

abbrev pub link_of : State → Link
link_of s = if s.ended then None else Some s

pub record World : Type 0 where
  pub session : Session
  -- one for each login, that of the first one first
  pub links : List Link
  -- a line stood that is no setting
  pub begun : Bool
  -- a line was refused
  pub refused : Bool
  -- the bytes of the line that has not ended yet
  pub part : List ℕ
  -- lines that are done
  pub line : ℕ
  pub stop : Option Stop

-- one line more; the last number of its type stands for all that are greater
abbrev pub one_more : ℕ → ℕ
one_more n = min (n + 1) (2 ^ 64 - 1)

-- settings stand before all other lines
abbrev pub begins : DriveLine → Bool
begins Skip = false
begins (Set name value) = false
begins l = true

-- a session without entries
abbrev pub unused : SessionConfig → Session
unused C = record { config = C; history = [] }

-- the settings with this one at this value
abbrev pub set_to : Option Setting → ℤ → SessionConfig → SessionConfig
set_to (Some setting) value C = applied setting value C
set_to None value C = C

-- the session whose entries a line adds to
abbrev pub base : World → DriveLine → Session
base w (Set name value) = if w.begun then w.session else unused (set_to (setting_of name) value w.session.config)
base w l = w.session

-- the link with this generation, of which there is one at least for each login
abbrev pub link_at : List Link → ℕ → Option Link
link_at links generation = slice_get links (generation - 1)

-- the rule by which a stream that can't be followed further loses its connection
abbrev pub fault_of : Cease → Option Rule
fault_of (BadHeader byte) = Some Header
fault_of (TooLong size) = Some TooLongSegment
fault_of Short = None

-- a piece for a link: none where there is no such link, and one that has ended is not fed
abbrev pub receives_on : Option Link → ℕ → List ℕ → Session → Deed
receives_on None generation bytes s = fails Outside
receives_on (Some None) generation bytes s = nothing
receives_on (Some (Some state)) generation bytes s = receives generation (fed state bytes).pdus (fault_of (fed state bytes).stop) s

-- a line that asks something of the session alone
abbrev pub plain_deed : DriveLine → Session → Deed
plain_deed (Submit request) s = submits request s
plain_deed (Send count) s = sends count s
plain_deed Cut s = cuts s
plain_deed (Tick now) s = ticks now s
plain_deed (Abort id) s = aborts id s
plain_deed (ResetLunLine lun) s = resets (ResetLun lun) s
plain_deed ResetTargetLine s = resets ResetTarget s
plain_deed Leave s = leaves s
plain_deed Window s = shows_window s
plain_deed l s = nothing

abbrev pub deed_of : World → DriveLine → Deed
deed_of w (Set name value) = if w.begun then fails Outside else nothing
deed_of w (Login cmdsn max exp_stat params) = logs_in (record { params = params; tsih = 0; cmdsn = cmdsn; max = max; exp_stat = exp_stat }) w.session
deed_of w (Recv generation bytes) = receives_on (link_at w.links generation) generation bytes w.session
deed_of w l = plain_deed l w.session

abbrev pub goes_on : Cease → State → Link
goes_on Short state = Some state
goes_on c state = None

abbrev pub refed : Link → List ℕ → Link
refed None bytes = None
refed (Some state) bytes = goes_on (fed state bytes).stop (fed state bytes).state

abbrev pub refed_at : Option Link → ℕ → List ℕ → List Link → List Link
refed_at None generation bytes links = links
refed_at (Some link) generation bytes links = set links (generation - 1) (refed link bytes)

abbrev pub logged : Answer → List Link → List Link
logged Done links = links ++ Some (unfed most_received) ∷ []
logged a links = links

-- the links behind a line
abbrev pub linked : DriveLine → Answer → List Link → List Link
linked (Login cmdsn max exp_stat params) a links = logged a links
linked (Recv generation bytes) a links = refed_at (link_at links generation) generation bytes links
linked l a links = links

abbrev pub is_refusal : Answer → Bool
is_refusal (Refused word) = true
is_refusal a = false

-- what follows a line's own part: a refusal is told, and what is due is handed out
abbrev pub settles : Answer → ℕ → Session → Deed
settles Done line s = hands_out s
settles (Refused word) line s = joined (says (refused_text line word)) (hands_out s)
settles a line s = fails a

-- all that a line does
abbrev pub line_deed : World → DriveLine → Deed
line_deed w l = joined (deed_of w l) (settles (deed_of w l).answer (one_more w.line) (entered_all (base w l) (deed_of w l).entries))

abbrev pub is_end : DriveLine → Bool
is_end End = true
is_end l = false

-- where the input stops
abbrev pub stop_by : Answer → ℕ → Bool → Option Stop
stop_by Outside line ends = Some (BadLine line)
stop_by Spent line ends = Some (Full line)
stop_by a line ends = if ends then Some Asked else None

-- a line outside the language
abbrev pub bad : World → World
bad w = record w { part = []; line = one_more w.line; stop = Some (BadLine (one_more w.line)) }

-- the session and the links behind a line's own part
abbrev pub acted : World → DriveLine → World
acted w l = record w { session = entered_all (base w l) (deed_of w l).entries; links = linked l (deed_of w l).answer w.links }

abbrev pub line_by : World → Option DriveLine → World
line_by w None = bad w
line_by w (Some l) = record {
  session = entered_all (base w l) (line_deed w l).entries;
  links = linked l (deed_of w l).answer w.links;
  begun = w.begun || begins l;
  refused = w.refused || is_refusal (deed_of w l).answer;
  part = [];
  line = one_more w.line;
  stop = stop_by (line_deed w l).answer (one_more w.line) (is_end l);
}

abbrev pub text_by : World → Option DriveLine → List ℕ
text_by w None = []
text_by w (Some l) = (line_deed w l).text

abbrev pub base_by : World → Option DriveLine → Session
base_by w None = w.session
base_by w (Some l) = base w l

abbrev pub entries_by : World → Option DriveLine → List Event
entries_by w None = []
entries_by w (Some l) = (line_deed w l).entries

-- the line that has ended: what it makes of all, its text, and its entries behind a session
abbrev pub line_step : World → World
line_step w = line_by w (drive_line w.part)

abbrev pub line_text : World → List ℕ
line_text w = text_by w (drive_line w.part)

abbrev pub line_base : World → Session
line_base w = base_by w (drive_line w.part)

abbrev pub line_entries : World → List Event
line_entries w = entries_by w (drive_line w.part)

abbrev pub byte_step : World → ℕ → World
byte_step w b = if b == 10 then line_step w else (if nat_lt (length w.part) line_limit then record w { part = w.part ++ b ∷ [] } else bad w)

abbrev pub feed_byte : World → ℕ → World
feed_byte w b = if is_some w.stop then w else byte_step w b

abbrev pub byte_text : World → ℕ → List ℕ
byte_text w b = if is_some w.stop then [] else (if b == 10 then line_text w else [])

abbrev pub feed : World → List ℕ → World
feed w [] = w
feed w (b ∷ bytes) = feed (feed_byte w b) bytes

abbrev pub feed_text : World → List ℕ → List ℕ
feed_text w [] = []
feed_text w (b ∷ bytes) = byte_text w b ++ feed_text (feed_byte w b) bytes

-- a last line may lack its line feed
abbrev pub last_line : World → World
last_line w = if length w.part == 0 then w else line_step w

abbrev pub last_text : World → List ℕ
last_text w = if length w.part == 0 then [] else line_text w

abbrev pub stopped_at_end : World → World
stopped_at_end w = if is_some w.stop then w else record w { stop = Some InputEnd }

abbrev pub input_end : World → World
input_end w = if is_some w.stop then w else stopped_at_end (last_line w)

abbrev pub input_end_text : World → List ℕ
input_end_text w = if is_some w.stop then [] else last_text w

-- a byte past the greatest input
abbrev pub input_over : World → World
input_over w = if is_some w.stop then w else bad w

-- the whole input
abbrev pub input_world : World → List ℕ → World
input_world w bytes = if nat_le (length bytes) input_limit then input_end (feed w bytes) else input_over (feed w (take input_limit bytes))

abbrev pub input_text : World → List ℕ → List ℕ
input_text w bytes =
    if nat_le (length bytes) input_limit then feed_text w bytes ++ input_end_text (feed w bytes) else feed_text w (take input_limit bytes)
