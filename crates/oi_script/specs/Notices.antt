-- Printed lines that tell of the session's state: stale PDUs, the window, refusals, statuses and losses.
use Rattle.std.specs.Prelude.{ℕ, Bool, true, false, ◌++◌, List, [], codes, if◌then◌else◌}
use Rattle.std.specs.Fmt.{decimal}
use Rattle.oi_history.specs.RuleWords.{rule_word}
use Rattle.oi_history.specs.declared.phase.LostCause.{LostCause}
use Rattle.oi_history.specs.declared.phase.LostCause.TheVariants.{Read, Write, EndOfInput, Cut, Broken, Ping, Handler, Asked}
use Rattle.oi_script.specs.declared.notices.Refusal.{Refusal}
use Rattle.oi_script.specs.declared.notices.Refusal.TheVariants.{Full, Unknown, TooLate, Busy, NotLoggedIn, LoggedIn, Ended, Down, Running, Sessions}

abbrev pub stale_text : ℕ → List ℕ
stale_text current = codes "stale " ++ decimal current ++ codes "\n"

abbrev pub window_text : ℕ → ℕ → ℕ → List ℕ
window_text next expected max = codes "window " ++ decimal next ++ codes " " ++ decimal expected ++ codes " " ++ decimal max ++ codes "\n"

abbrev pub refusal_word : Refusal → List ℕ
refusal_word Full = codes "full"
refusal_word Unknown = codes "unknown"
refusal_word TooLate = codes "toolate"
refusal_word Busy = codes "busy"
refusal_word NotLoggedIn = codes "notloggedin"
refusal_word LoggedIn = codes "loggedin"
refusal_word Ended = codes "ended"
refusal_word Down = codes "down"
refusal_word Running = codes "running"
refusal_word Sessions = codes "sessions"

abbrev pub refused_text : ℕ → Refusal → List ℕ
refused_text line refusal = codes "refused " ++ decimal line ++ codes " " ++ refusal_word refusal ++ codes "\n"

abbrev pub status_text : ℕ → ℕ → List ℕ
status_text line status = codes "status " ++ decimal line ++ codes " " ++ decimal status ++ codes "\n"

-- causes that the link itself gives have no word
abbrev pub is_of_link : LostCause → Bool
is_of_link Read = true
is_of_link Write = true
is_of_link EndOfInput = true
is_of_link cause = false

abbrev pub cause_text : LostCause → List ℕ
cause_text Cut = codes "cut"
cause_text Ping = codes "ping"
cause_text Handler = codes "handler"
cause_text (Asked event) = codes "asked:" ++ decimal event
cause_text (Broken rule) = codes "broken:" ++ rule_word rule
cause_text cause = []

abbrev pub lost_text : ℕ → LostCause → List ℕ
lost_text generation cause =
    if is_of_link cause then [] else codes "lost " ++ decimal generation ++ codes " " ++ cause_text cause ++ codes "\n"
