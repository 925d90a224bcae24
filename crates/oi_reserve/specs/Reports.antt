-- PERSISTENT RESERVE IN: what it answers, and the data (SPC-4, section 6.15).
use Rattle.std.specs.Prelude.{ℕ, ◌*◌, Option, Some, None, List, [], ◌∷◌, ◌++◌, length, flat_map, slice_index, take, ◌==◌, if◌then◌else◌}
use Rattle.std.specs.Int.{to_be_bytes, w32, w64}
use Rattle.oi_disk.specs.Commands.{half_at}
use Rattle.oi_reserve.specs.Orders.{bad_field}
use Rattle.oi_reserve.specs.Tables.{Table, key_or_zero}
use Rattle.oi_reserve.specs.declared.answer.ReserveAnswer.{ReserveAnswer}
use Rattle.oi_reserve.specs.declared.answer.ReserveAnswer.TheVariants.{Good, Check}
use Rattle.oi_reserve.specs.declared.entry.Holder.{Holder}
use Rattle.oi_reserve.specs.declared.entry.Registration.{Registration}

-- the length of the keys, and the keys in the order of registration
abbrev pub keys_data : List Registration → List ℕ
keys_data registered = to_be_bytes w32 (8 * length registered) ++ flat_map (λ r. to_be_bytes w64 r.key) registered

-- the length of what follows: nothing, or the holder's key, five zero bytes, the type and two zero bytes
abbrev pub holder_data : List Registration → Option Holder → List ℕ
holder_data registered None = to_be_bytes w32 0
holder_data registered (Some h) =
    to_be_bytes w32 16 ++ to_be_bytes w64 (key_or_zero registered h.nexus) ++ 0 ∷ 0 ∷ 0 ∷ 0 ∷ 0 ∷ h.form ∷ 0 ∷ 0 ∷ []

-- service action 0 gives the keys and 1 the reservation, each behind the generation
abbrev pub whole_report : Table → ℕ → List ℕ
whole_report t action =
    if action == 0 then to_be_bytes w32 t.generation ++ keys_data t.registered
    else (if action == 1 then to_be_bytes w32 t.generation ++ holder_data t.registered t.holder
    else [])

-- the data are cut at the length in bytes 7 and 8
abbrev pub reserve_in : Table → List ℕ → List ℕ
reserve_in t cdb = take (half_at cdb 7) (whole_report t (slice_index cdb 1))

abbrev pub reserve_in_answer : List ℕ → ReserveAnswer
reserve_in_answer cdb = if slice_index cdb 1 == 0 then Good else (if slice_index cdb 1 == 1 then Good else Check bad_field)
