-- A flat disk is the list of its bytes, 512 to a block: what one command reads, writes and answers.
use Rattle.std.specs.Prelude.{◌≡◌, ℕ, ◌+◌, ◌-◌, ◌*◌, ◌/◌, ◌≤◌, Option, Some, None, List, [], ◌∷◌, ◌++◌, codes, drop, length, take, slice_range, ◌==◌, nat_lt, if◌then◌else◌}
use Rattle.std.specs.Int.{to_be_bytes, w32}
use Rattle.oi_base.specs.Limits.{block_length}
use Rattle.oi_disk.specs.Answers.{address_past_end, bad_field, good, illegal_request, unknown_opcode}
use Rattle.oi_disk.specs.Commands.{command_of}
use Rattle.oi_disk.specs.declared.answer.DiskAnswer.{DiskAnswer}
use Rattle.oi_disk.specs.declared.command.Command.{Command}
use Rattle.oi_disk.specs.declared.command.Command.TheVariants.{Read, Write, Ready, Inquiry, Capacity, Sync, Unknown}

abbrev pub block_count : List ℕ → ℕ
block_count disk = length disk / block_length

-- a disk has 8 to 65,536 whole blocks
abbrev pub least_disk : ℕ
least_disk = 8

abbrev pub most_disk : ℕ
most_disk = 65536

pub record IsDisk (disk : List ℕ) : Type 0 where
  pub whole : length disk ≡ block_length * block_count disk
  pub least : least_disk ≤ block_count disk
  pub most : block_count disk ≤ most_disk

-- what becomes of one command: status and sense, the data for the initiator, and the disk afterwards
pub record Served : Type 0 where
  pub answer : DiskAnswer
  pub read : List ℕ
  pub disk : List ℕ

-- a command that is refused sends nothing and changes nothing
abbrev pub refused : List ℕ → ℕ → Served
refused disk code = record { answer = illegal_request code; read = []; disk = disk }

-- GOOD, with these data
abbrev pub sent : List ℕ → List ℕ → Served
sent disk bytes = record { answer = good; read = bytes; disk = disk }

-- the disk with these bytes in place of those from a place on
abbrev pub overwritten : List ℕ → ℕ → List ℕ → List ℕ
overwritten disk from bytes = take from disk ++ bytes ++ drop (from + length bytes) disk

-- READ: the bytes of its blocks
abbrev pub read_served : List ℕ → ℕ → ℕ → Served
read_served disk lba blocks =
    if nat_lt (block_count disk) (lba + blocks) then refused disk address_past_end
    else sent disk (slice_range disk (block_length * lba) (block_length * lba + block_length * blocks))

-- WRITE: its data stand in its blocks; data of another length have no effect
abbrev pub write_served : List ℕ → ℕ → ℕ → List ℕ → Served
write_served disk lba blocks payload =
    if nat_lt (block_count disk) (lba + blocks) then refused disk address_past_end
    else (if length payload == block_length * blocks
    then record { answer = good; read = []; disk = overwritten disk (block_length * lba) payload }
    else refused disk bad_field)

-- standard INQUIRY data (SPC-4, section 6.6.2): a disk, SPC-3, fixed format, 31 more bytes; vendor, product and revision
abbrev pub inquiry_data : List ℕ
inquiry_data = 0x00 ∷ 0x00 ∷ 0x05 ∷ 0x02 ∷ 0x1f ∷ 0x00 ∷ 0x00 ∷ 0x00 ∷ codes "OPENISCSTEST DISK       0001"

-- READ CAPACITY(10) (SBC-3, section 5.15): the last block's address and the length of a block
abbrev pub capacity_data : List ℕ → List ℕ
capacity_data disk = to_be_bytes w32 (block_count disk - 1) ++ to_be_bytes w32 block_length

abbrev pub served_by : List ℕ → Command → List ℕ → Served
served_by disk (Read lba blocks) payload = read_served disk lba blocks
served_by disk (Write lba blocks) payload = write_served disk lba blocks payload
served_by disk Ready payload = sent disk []
served_by disk Sync payload = sent disk []
served_by disk Inquiry payload = sent disk inquiry_data
served_by disk Capacity payload = sent disk (capacity_data disk)
served_by disk Unknown payload = refused disk unknown_opcode

-- the bytes of the disk that a READ within its end is sent
abbrev pub lent_read : List ℕ → ℕ → ℕ → Option (List ℕ)
lent_read disk lba blocks =
    if nat_lt (block_count disk) (lba + blocks) then None
    else Some (slice_range disk (block_length * lba) (block_length * lba + block_length * blocks))

abbrev pub lent_by : List ℕ → Command → Option (List ℕ)
lent_by disk (Read lba blocks) = lent_read disk lba blocks
lent_by disk c = None

abbrev pub lent : List ℕ → List ℕ → Option (List ℕ)
lent disk cdb = lent_by disk (command_of cdb)

-- a command is its CDB and its data
abbrev pub disk_answer : List ℕ → List ℕ → List ℕ → Served
disk_answer disk cdb payload = served_by disk (command_of cdb) payload

-- commands one after another, each on the disk that the one before left
abbrev pub disk_answers : List ℕ → List (List ℕ × List ℕ) → List Served
disk_answers disk [] = []
disk_answers disk (c ∷ cs) = disk_answer disk c.0 c.1 ∷ disk_answers (disk_answer disk c.0 c.1).disk cs

-- the disk after them
abbrev pub disk_after : List ℕ → List (List ℕ × List ℕ) → List ℕ
disk_after disk [] = disk
disk_after disk (c ∷ cs) = disk_after (disk_answer disk c.0 c.1).disk cs
