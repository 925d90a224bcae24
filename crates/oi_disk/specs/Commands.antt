-- What a command descriptor block asks of a disk (SBC-3, section 5; SPC-4, section 6).
use Rattle.std.specs.Prelude.{◌≡◌, ℕ, ◌+◌, List, [], ◌∷◌, slice_index, ◌==◌, if◌then◌else◌}
use Rattle.std.specs.Int.{from_be_bytes, w16, w32, w64}
use Rattle.oi_disk.specs.declared.command.Command.{Command}
use Rattle.oi_disk.specs.declared.command.Command.TheVariants.{Read, Write, Ready, Inquiry, Capacity, Sync, Unknown}

-- the numbers of 2, 4 and 8 bytes that begin at byte k, the highest byte first
abbrev pub half_at : List ℕ → ℕ → ℕ
half_at cdb k = from_be_bytes w16 (slice_index cdb k ∷ slice_index cdb (k + 1) ∷ [])

abbrev pub word_at : List ℕ → ℕ → ℕ
word_at cdb k = from_be_bytes w32 (slice_index cdb k ∷ slice_index cdb (k + 1) ∷ slice_index cdb (k + 2) ∷ slice_index cdb (k + 3) ∷ [])

abbrev pub long_at : List ℕ → ℕ → ℕ
long_at cdb k =
    from_be_bytes w64
    (slice_index cdb k ∷ slice_index cdb (k + 1) ∷ slice_index cdb (k + 2) ∷ slice_index cdb (k + 3) ∷ slice_index cdb (k + 4)
    ∷ slice_index cdb (k + 5) ∷ slice_index cdb (k + 6) ∷ slice_index cdb (k + 7) ∷ [])

-- the command by its opcode: READ(10) and WRITE(10) have the address in bytes 2 to 5 and the blocks in 7 and 8, READ(16)
-- and WRITE(16) have them in 2 to 9 and 10 to 13
abbrev pub command_by : ℕ → List ℕ → Command
command_by opcode cdb =
    if opcode == 0x28 then Read (word_at cdb 2) (half_at cdb 7)
    else (if opcode == 0x88 then Read (long_at cdb 2) (word_at cdb 10)
    else (if opcode == 0x2a then Write (word_at cdb 2) (half_at cdb 7)
    else (if opcode == 0x8a then Write (long_at cdb 2) (word_at cdb 10)
    else (if opcode == 0x00 then Ready
    else (if opcode == 0x12 then Inquiry
    else (if opcode == 0x25 then Capacity
    else (if opcode == 0x35 then Sync
    else Unknown)))))))

abbrev pub command_of : List ℕ → Command
command_of cdb = command_by (slice_index cdb 0) cdb

-- a command for the disk itself: neither REPORT LUNS nor one of the two persistent reservation commands
abbrev pub IsDiskCommand : List ℕ → Type 0
IsDiskCommand cdb = (¬ (slice_index cdb 0 ≡ 0xa0)) × (¬ (slice_index cdb 0 ≡ 0x5e)) × (¬ (slice_index cdb 0 ≡ 0x5f))
