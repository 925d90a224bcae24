-- The input lines of `drive`: a verb and its fields.
use Rattle.std.specs.Prelude.{ℕ, ℤ, ◌≤◌, ◌<◌, ◌-◌, ◌^◌, ◌==◌, List, [], ◌∷◌, Option, Some, None, codes, length, if◌then◌else◌}
use Rattle.std.specs.Option.{option_map}
use Rattle.std.specs.Result.{result_ok}
use Rattle.hex.specs.Hex.{decode_of}
use Rattle.oi_base.specs.Limits.{reading_end}
use Rattle.oi_scsi.specs.Requests.{IsValid}
use Rattle.oi_script.specs.Keys.{keys_of, no_keys, params_of}
use Rattle.oi_script.specs.Numbers.{is_text, number_in}
use Rattle.oi_script.specs.Requests.{kind_of, lun_in, request_to}
use Rattle.oi_script.specs.Settings.{IsValueOf, setting_of, value_in}
use Rattle.oi_script.specs.Words.{is_skipped, words_of}
use Rattle.oi_script.specs.declared.keys.Keys.{Keys}
use Rattle.oi_script.specs.declared.line.DriveLine.{DriveLine}
use Rattle.oi_script.specs.declared.line.DriveLine.TheVariants.{Skip, Set, Login, Submit, Send, Recv, Cut, Tick, Abort, ResetLun, ResetTarget, Leave, Window, End}
use Rattle.oi_script.specs.declared.settings.Setting.{Setting}

-- the name of a setting, and a value in its range
abbrev pub set_by : Option Setting → List ℕ → List ℕ → Option DriveLine
set_by (Some s) name text = option_map (λ v. Set name v) (value_in s text)
set_by None name text = None

abbrev pub set_of : List (List ℕ) → Option DriveLine
set_of (name ∷ text ∷ []) = set_by (setting_of name) name text
set_of fields = None

-- three serial numbers, and keys
abbrev pub login_by : Option ℕ → Option ℕ → Option ℕ → Option Keys → Option DriveLine
login_by (Some cmdsn) (Some max) (Some exp_stat) (Some keys) = Some (Login cmdsn max exp_stat (params_of keys))
login_by a b c d = None

abbrev pub login_of : List (List ℕ) → Option DriveLine
login_of (a ∷ b ∷ c ∷ words) =
    login_by (number_in 0 (2 ^ 32 - 1) a) (number_in 0 (2 ^ 32 - 1) b) (number_in 0 (2 ^ 32 - 1) c) (keys_of no_keys words)
login_of fields = None

-- the greatest number of PDUs that one line sends
abbrev pub most_sends : ℕ
most_sends = 65536

abbrev pub send_of : List (List ℕ) → Option DriveLine
send_of (count ∷ []) = option_map (λ n. Send n) (number_in 1 most_sends count)
send_of fields = None

-- one or more pairs of hex digits
abbrev pub bytes_of : List ℕ → Option (List ℕ)
bytes_of text = if length text == 0 then None else result_ok (decode_of text)

abbrev pub recv_by : Option ℕ → Option (List ℕ) → Option DriveLine
recv_by (Some generation) (Some bytes) = Some (Recv generation bytes)
recv_by a b = None

abbrev pub recv_of : List (List ℕ) → Option DriveLine
recv_of (generation ∷ bytes ∷ []) = recv_by (number_in 1 (2 ^ 64 - 1) generation) (bytes_of bytes)
recv_of fields = None

-- a reading of the clock
abbrev pub tick_of : List (List ℕ) → Option DriveLine
tick_of (now ∷ []) = option_map (λ n. Tick n) (number_in 0 (reading_end - 1) now)
tick_of fields = None

abbrev pub abort_of : List (List ℕ) → Option DriveLine
abort_of (id ∷ []) = option_map (λ n. Abort n) (number_in 0 (2 ^ 64 - 1) id)
abort_of fields = None

abbrev pub reset_lun_of : List (List ℕ) → Option DriveLine
reset_lun_of (lun ∷ []) = option_map (λ n. ResetLun n) (lun_in lun)
reset_lun_of fields = None

-- a line of one word
abbrev pub bare_line : List ℕ → Option DriveLine
bare_line word =
    if is_text word (codes "end") then Some End
    else (if is_text word (codes "cut") then Some Cut
    else (if is_text word (codes "reset-target") then Some ResetTarget
    else (if is_text word (codes "leave") then Some Leave
    else (if is_text word (codes "window") then Some Window
    else None))))

-- every request has a field, the number of a logical unit
abbrev pub submit_line : List ℕ → List (List ℕ) → Option DriveLine
submit_line verb [] = bare_line verb
submit_line verb (unit ∷ fields) = option_map (λ r. Submit r) (request_to (lun_in unit) (kind_of verb fields))

abbrev pub control_line : List ℕ → List (List ℕ) → Option DriveLine
control_line verb fields =
    if is_text verb (codes "tick") then tick_of fields
    else (if is_text verb (codes "abort") then abort_of fields
    else (if is_text verb (codes "reset-lun") then reset_lun_of fields
    else submit_line verb fields))

abbrev pub line_by : List ℕ → List (List ℕ) → Option DriveLine
line_by verb fields =
    if is_text verb (codes "recv") then recv_of fields
    else (if is_text verb (codes "send") then send_of fields
    else (if is_text verb (codes "login") then login_of fields
    else (if is_text verb (codes "set") then set_of fields
    else control_line verb fields)))

abbrev pub line_of_words : List (List ℕ) → Option DriveLine
line_of_words [] = None
line_of_words (verb ∷ fields) = line_by verb fields

-- what a line says; none outside the language
unfoldable pub drive_line : List ℕ → Option DriveLine
drive_line line = if is_skipped line then Some Skip else line_of_words (words_of line)

-- the name is that of a setting, and the value is in its range
abbrev pub IsSetting : Option Setting → ℤ → Type 0
IsSetting (Some s) value = IsValueOf s value
IsSetting None value = ⊥

-- what a line asks of the session can be asked
abbrev pub IsValidLine : DriveLine → Type 0
IsValidLine Skip = Unit {0}
IsValidLine (Set name value) = IsSetting (setting_of name) value
IsValidLine (Login cmdsn max exp_stat params) = 1 ≤ params.max_send
IsValidLine (Submit request) = IsValid request.kind
IsValidLine (Send count) = (1 ≤ count) × (count ≤ most_sends)
IsValidLine (Recv generation bytes) = 1 ≤ generation
IsValidLine Cut = Unit {0}
IsValidLine (Tick now) = now < reading_end
IsValidLine (Abort id) = Unit {0}
IsValidLine (ResetLun lun) = Unit {0}
IsValidLine ResetTarget = Unit {0}
IsValidLine Leave = Unit {0}
IsValidLine Window = Unit {0}
IsValidLine End = Unit {0}
