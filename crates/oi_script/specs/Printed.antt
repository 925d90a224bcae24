-- The lines that are printed, each with its line feed.
use Rattle.std.specs.Prelude.{ℕ, ◌++◌, ◌==◌, List, [], ◌∷◌, codes, length, nat_le, if◌then◌else◌}
use Rattle.std.specs.Fmt.{decimal}
use Rattle.hex.specs.Hex.{encode_lower}
use Rattle.md5.specs.Md5.{md5}
use Rattle.oi_history.specs.declared.fate.Outcome.{Outcome}
use Rattle.oi_history.specs.declared.fate.Outcome.TheVariants.{Answered, Host}
use Rattle.oi_recovery.specs.HostCodes.{host_number}
use Rattle.oi_recovery.specs.declared.hit.Residual.{Residual}
use Rattle.oi_recovery.specs.declared.hit.Residual.TheVariants.{Exact, Under, Over}

abbrev pub residual_text : Residual → List ℕ
residual_text Exact = codes "0"
residual_text (Under n) = codes "u" ++ decimal n
residual_text (Over n) = codes "o" ++ decimal n

abbrev pub sense_text : List ℕ → List ℕ
sense_text sense = if length sense == 0 then codes "-" else encode_lower sense

-- up to 64 bytes in hex, more as their MD5
abbrev pub got_text : List ℕ → List ℕ
got_text got =
    if length got == 0 then codes "-"
    else (if nat_le (length got) 64 then decimal (length got) ++ codes ":" ++ encode_lower got
    else decimal (length got) ++ codes ":md5:" ++ encode_lower (md5 got))

abbrev pub outcome_text : Outcome → List ℕ
outcome_text (Answered status residual sense got) =
    encode_lower (status ∷ []) ++ codes " " ++ residual_text residual ++ codes " " ++ sense_text sense ++ codes " " ++ got_text got
outcome_text (Host code) = codes "host " ++ encode_lower (host_number code ∷ [])

abbrev pub done_line : ℕ → ℕ → Outcome → List ℕ
done_line sid id outcome = codes "done " ++ decimal sid ++ codes " " ++ decimal id ++ codes " " ++ outcome_text outcome ++ codes "\n"

abbrev pub login_text : ℕ → List ℕ
login_text generation = codes "login " ++ decimal generation ++ codes "\n"

abbrev pub tx_text : ℕ → List ℕ → List ℕ
tx_text generation bytes = codes "tx " ++ decimal generation ++ codes " " ++ encode_lower bytes ++ codes "\n"

abbrev pub idle_text : List ℕ
idle_text = codes "idle\n"

abbrev pub fault_text : ℕ → ℕ → List ℕ
fault_text status line = codes "fault " ++ decimal status ++ codes " " ++ decimal line ++ codes "\n"
