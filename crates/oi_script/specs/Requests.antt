-- The lines of requests: a verb, the number of a logical unit, and what the verb asks besides.
use Rattle.std.specs.Prelude.{ℕ, ◌-◌, ◌+◌, ◌*◌, ◌^◌, List, [], ◌∷◌, Option, Some, None, codes, nat_le, replicate, if◌then◌else◌}
use Rattle.std.specs.Option.{option_map}
use Rattle.oi_base.specs.Limits.{address_end, block_length, most_blocks}
use Rattle.oi_scsi.specs.declared.request.Kind.{Kind}
use Rattle.oi_scsi.specs.declared.request.Kind.TheVariants.{Read, Write, Unit as TestUnit, Inquiry, Capacity, Luns, Sync, ReserveOut, ReserveIn}
use Rattle.oi_scsi.specs.declared.request.Request.{Request}
use Rattle.oi_script.specs.Numbers.{byte_in, is_text, key_in, number_in}

abbrev pub lun_in : List ℕ → Option ℕ
lun_in text = number_in 0 255 text

abbrev pub lun_kind : List ℕ → Option Kind
lun_kind verb =
    if is_text verb (codes "unit") then Some TestUnit
    else (if is_text verb (codes "inquiry") then Some Inquiry
    else (if is_text verb (codes "capacity") then Some Capacity
    else (if is_text verb (codes "luns") then Some Luns
    else (if is_text verb (codes "sync") then Some Sync
    else None))))

-- an address and a number of blocks, which end at most at 2^63
abbrev pub blocks_by : Option ℕ → Option ℕ → Option (ℕ × ℕ)
blocks_by (Some lba) (Some blocks) = if nat_le (lba + blocks) address_end then Some (lba, blocks) else None
blocks_by a b = None

abbrev pub blocks_in : List ℕ → List ℕ → Option (ℕ × ℕ)
blocks_in lba count = blocks_by (number_in 0 (2 ^ 64 - 1) lba) (number_in 1 most_blocks count)

abbrev pub read_by : Option (ℕ × ℕ) → Option Kind
read_by (Some blocks) = Some (Read blocks.0 blocks.1)
read_by None = None

abbrev pub read_of : List (List ℕ) → Option Kind
read_of (lba ∷ count ∷ []) = read_by (blocks_in lba count)
read_of fields = None

-- one byte is written throughout
abbrev pub write_by : Option (ℕ × ℕ) → Option ℕ → Option Kind
write_by (Some blocks) (Some fill) = Some (Write blocks.0 blocks.1 (replicate (block_length * blocks.1) fill))
write_by blocks fill = None

abbrev pub write_of : List (List ℕ) → Option Kind
write_of (lba ∷ count ∷ fill ∷ []) = write_by (blocks_in lba count) (byte_in fill)
write_of fields = None

-- service actions (SPC-4, sections 6.15 and 6.16)
unfoldable pub out_action : List ℕ → Option ℕ
out_action word =
    if is_text word (codes "register") then Some 0
    else (if is_text word (codes "reserve") then Some 1
    else (if is_text word (codes "release") then Some 2
    else (if is_text word (codes "clear") then Some 3
    else (if is_text word (codes "preempt") then Some 4
    else (if is_text word (codes "ignore") then Some 6
    else None)))))

abbrev pub in_action : List ℕ → Option ℕ
in_action word = if is_text word (codes "keys") then Some 0 else (if is_text word (codes "reservation") then Some 1 else None)

abbrev pub key_pair_by : Option ℕ → Option ℕ → Option (ℕ × ℕ)
key_pair_by (Some key) (Some new_key) = Some (key, new_key)
key_pair_by a b = None

abbrev pub key_pair_of : List (List ℕ) → Option (ℕ × ℕ)
key_pair_of (key ∷ new_key ∷ []) = key_pair_by (key_in key) (key_in new_key)
key_pair_of fields = None

abbrev pub reserve_by : Option ℕ → Option ℕ → Option (ℕ × ℕ) → Option Kind
reserve_by (Some action) (Some form) (Some keys) = Some (ReserveOut action form keys.0 keys.1)
reserve_by action form keys = None

abbrev pub reserve_of : List (List ℕ) → Option Kind
reserve_of (action ∷ form ∷ keys) = reserve_by (out_action action) (number_in 0 15 form) (key_pair_of keys)
reserve_of fields = None

abbrev pub reservation_of : List (List ℕ) → Option Kind
reservation_of (action ∷ []) = option_map (λ a. ReserveIn a) (in_action action)
reservation_of fields = None

-- by a verb alone
abbrev pub plain_of : List ℕ → List (List ℕ) → Option Kind
plain_of verb [] = lun_kind verb
plain_of verb (a ∷ fields) = None

-- by the verb and what stands behind the unit's number
abbrev pub kind_of : List ℕ → List (List ℕ) → Option Kind
kind_of verb fields =
    if is_text verb (codes "read") then read_of fields
    else (if is_text verb (codes "write") then write_of fields
    else (if is_text verb (codes "prout") then reserve_of fields
    else (if is_text verb (codes "prin") then reservation_of fields
    else plain_of verb fields)))

abbrev pub request_to : Option ℕ → Option Kind → Option Request
request_to (Some lun) (Some kind) = Some (record { lun = lun; kind = kind })
request_to lun kind = None
