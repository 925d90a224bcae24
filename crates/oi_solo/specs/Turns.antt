-- The entries of a transmission: releases of tags, the taking up of R2Ts, and what is sent.
use Rattle.std.specs.Prelude.{ℕ, Bool, true, false, not, ◌+◌, List, [], ◌∷◌}
use Rattle.oi_base.specs.Counts.{bit}
use Rattle.oi_history.specs.declared.event.Event.{Event}
use Rattle.oi_history.specs.declared.event.Event.TheVariants.{Push, Issue, Draw, Reap, Manage, Nop, Logout}
use Rattle.oi_solo.specs.declared.load.Load.{Load}

-- what may be owed once all ended tags are released
abbrev pub is_owed : Event → Bool
is_owed (Push id generation ttt number offset size last) = true
is_owed (Issue id generation tag cmdsn) = true
is_owed (Draw count) = true
is_owed (Manage generation tag function subject) = true
is_owed (Nop generation tag ttt lun) = true
is_owed (Logout generation tag) = true
is_owed e = false

abbrev pub is_turn : Event → Bool
is_turn (Reap tag) = true
is_turn e = is_owed e

abbrev pub is_push : Event → Bool
is_push (Push id generation ttt number offset size last) = true
is_push e = false

-- so many of them need the lock of the half that receives: all but data
abbrev pub hears_of : List Event → ℕ
hears_of [] = 0
hears_of (e ∷ es) = bit (not (is_push e)) + hears_of es

-- so many entries without a payload later
abbrev pub later : ℕ → Load → Load
later n l = record { steps = l.steps + n; kept = l.kept }
