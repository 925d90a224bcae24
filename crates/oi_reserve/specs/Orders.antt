-- What a PERSISTENT RESERVE OUT command asks, or why it cannot be judged (SPC-4, section 6.16).
use Rattle.std.specs.Prelude.{ℕ, ◌/◌, ◌%◌, Bool, true, ◌&&◌, ◌||◌, Option, Some, None, Result, Ok, Err, List, length, slice_index, ◌==◌, if◌then◌else◌}
use Rattle.oi_disk.specs.Commands.{long_at, word_at}
use Rattle.oi_scsi.specs.Requests.{reserve_out_length}
use Rattle.oi_reserve.specs.declared.order.Action.{Action}
use Rattle.oi_reserve.specs.declared.order.Action.TheVariants.{Register, Reserve, Release, Clear, Preempt, RegisterAnyway}
use Rattle.oi_reserve.specs.declared.order.Order.{Order}

-- the additional sense codes: a parameter list of the wrong length, a bad field of the CDB, a bad field of the
-- parameters, no room for one more registration
abbrev pub wrong_length : ℕ
wrong_length = 0x1a

abbrev pub bad_field : ℕ
bad_field = 0x24

abbrev pub bad_parameter : ℕ
bad_parameter = 0x26

abbrev pub no_room : ℕ
no_room = 0x55

-- the service action in byte 1
abbrev pub action_of : ℕ → Option Action
action_of byte =
    if byte == 0 then Some Register
    else (if byte == 1 then Some Reserve
    else (if byte == 2 then Some Release
    else (if byte == 3 then Some Clear
    else (if byte == 4 then Some Preempt
    else (if byte == 6 then Some RegisterAnyway
    else None)))))

-- write exclusive, exclusive access, and both for registrants only
abbrev pub is_form : ℕ → Bool
is_form form = form == 1 || form == 3 || form == 5 || form == 6

-- whether the type may stand beside the action: reserve, release and preempt need one that is known
abbrev pub suits : Action → ℕ → Bool
suits Register form = true
suits RegisterAnyway form = true
suits Clear form = true
suits Reserve form = is_form form
suits Release form = is_form form
suits Preempt form = is_form form

-- scope and type are the two halves of byte 2; the parameters are two keys of eight bytes and flags in byte 20
abbrev pub order_by : Option Action → ℕ → List ℕ → Result Order ℕ
order_by None byte payload = Err bad_field
order_by (Some action) byte payload =
    if byte / 16 == 0 && suits action (byte % 16)
    then (if slice_index payload 20 == 0
    then Ok (record { action = action; form = byte % 16; key = long_at payload 0; new_key = long_at payload 8 })
    else Err bad_parameter)
    else Err bad_field

-- the length that bytes 5 to 8 state and that of the parameters come first
abbrev pub order_of : List ℕ → List ℕ → Result Order ℕ
order_of cdb payload =
    if word_at cdb 5 == reserve_out_length && length payload == reserve_out_length
    then order_by (action_of (slice_index cdb 1)) (slice_index cdb 2) payload
    else Err wrong_length
