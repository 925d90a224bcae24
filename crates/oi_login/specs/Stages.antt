-- How far a login has come, and which responses may follow (RFC 7143, sections 6.3 and 11.13).
use Rattle.std.specs.Prelude.{ℕ, Bool, true, false, ◌||◌, ◌&&◌, ◌==◌, ◌++◌, not, nat_le, nat_lt, List, length}
use Rattle.oi_pdu.specs.declared.header.LoginResponse.{LoginResponse}
use Rattle.oi_login.specs.declared.progress.Progress.{Progress}
use Rattle.oi_login.specs.declared.progress.Stage.{Stage}
use Rattle.oi_login.specs.declared.progress.Stage.TheVariants.{Operational}

-- the stage as headers have it: 0 is the security stage, 1 the operational one
abbrev pub stage_number : Stage → ℕ
stage_number Operational = 1
stage_number stage = 0

-- the stage to which it leads; 3 is the full feature phase
abbrev pub next_number : Stage → ℕ
next_number Operational = 3
next_number stage = 1

abbrev pub is_operational : Stage → Bool
is_operational Operational = true
is_operational stage = false

-- the response has the stage that was asked for, and a T bit only where the request had one, with the stage that comes next
abbrev pub is_due : Progress → LoginResponse → Bool
is_due p h = h.csg == stage_number p.stage && (not h.transit || (p.transit && h.nsg == next_number p.stage))

-- 31 responses came before this one, so that no further request may follow
abbrev pub is_last_turn : Progress → Bool
is_last_turn p = nat_le 31 p.turns

-- the text so far, joined with that of a further response
abbrev pub heard : Progress → List ℕ → Progress
heard p payload = record p { text = p.text ++ payload }

-- the text is longer than 65,536 bytes
abbrev pub is_long : List ℕ → Bool
is_long text = nat_lt 65536 (length text)
