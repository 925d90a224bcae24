-- Submissions stand one for one for lines.
use Rattle.std.specs.Prelude.{ℕ, ◌==◌, List, [], ◌∷◌, ◌++◌, Option, Some, None, is_some, length, nat_le, take, if◌then◌else◌}
use Rattle.oi_base.specs.Limits.{input_limit}
use Rattle.oi_drive.specs.Worlds.{World, deed_of, feed, feed_byte}
use Rattle.oi_drive.specs.declared.answer.Answer.{Answer}
use Rattle.oi_drive.specs.declared.answer.Answer.TheVariants.{Done}
use Rattle.oi_history.specs.declared.event.Event.{Event}
use Rattle.oi_history.specs.declared.event.Event.TheVariants.{Submit}
use Rattle.oi_history.specs.declared.event.Numbered.{Numbered}
use Rattle.oi_script.specs.Lines.{drive_line}
use Rattle.oi_script.specs.declared.line.DriveLine.{DriveLine}
use Rattle.oi_script.specs.declared.line.DriveLine.TheVariants.{Submit as SubmitLine}
use Rattle.oi_scsi.specs.declared.request.Request.{Request}

-- the requests of a history, in order
abbrev pub request_of : Event → List Request
request_of (Submit id request) = request ∷ []
request_of e = []

abbrev pub requests_in : List Numbered → List Request
requests_in [] = []
requests_in (n ∷ H) = requests_in H ++ request_of n.event

-- the request that a line asks for
abbrev pub asked_by : DriveLine → List Request
asked_by (SubmitLine request) = request ∷ []
asked_by l = []

-- of a line that was done
abbrev pub if_done : Answer → List Request → List Request
if_done Done requests = requests
if_done a requests = []

abbrev pub request_by : World → Option DriveLine → List Request
request_by w None = []
request_by w (Some l) = if_done (deed_of w l).answer (asked_by l)

abbrev pub line_request : World → List Request
line_request w = request_by w (drive_line w.part)

abbrev pub byte_request : World → ℕ → List Request
byte_request w b = if is_some w.stop then [] else (if b == 10 then line_request w else [])

-- the requests of the lines of an input, in order
abbrev pub fed_requests : World → List ℕ → List Request
fed_requests w [] = []
fed_requests w (b ∷ bytes) = byte_request w b ++ fed_requests (feed_byte w b) bytes

abbrev pub end_request : World → List Request
end_request w = if is_some w.stop then [] else (if length w.part == 0 then [] else line_request w)

abbrev pub input_requests : World → List ℕ → List Request
input_requests w bytes = if nat_le (length bytes) input_limit then fed_requests w bytes ++ end_request (feed w bytes) else fed_requests w (take input_limit bytes)
