-- Requests to a logical unit: whether they read or write, and how many bytes.
use Rattle.std.specs.Prelude.{ℕ, Bool, true, false, ◌≡◌, ◌+◌, ◌*◌, ◌<◌, ◌≤◌, List, [], ◌++◌, length, replicate}
use Rattle.std.specs.Int.{to_be_bytes, w64}
use Rattle.oi_base.specs.Limits.{most_blocks, block_length, address_end}
use Rattle.oi_scsi.specs.declared.request.Kind.{Kind}
use Rattle.oi_scsi.specs.declared.request.Kind.TheVariants.{Read, Write, Unit as TestUnit, Inquiry, Capacity, Luns, Sync, ReserveOut, ReserveIn}

-- bytes of an INQUIRY, a READ CAPACITY(10), a REPORT LUNS, and of the two reservation commands
abbrev pub inquiry_length : ℕ
inquiry_length = 36

abbrev pub capacity_length : ℕ
capacity_length = 8

abbrev pub luns_length : ℕ
luns_length = 264

abbrev pub reserve_out_length : ℕ
reserve_out_length = 24

abbrev pub reserve_in_length : ℕ
reserve_in_length = 264

-- how many bytes the request moves, in either direction
abbrev pub transfer_length : Kind → ℕ
transfer_length (Read lba blocks) = block_length * blocks
transfer_length (Write lba blocks payload) = block_length * blocks
transfer_length TestUnit = 0
transfer_length Inquiry = inquiry_length
transfer_length Capacity = capacity_length
transfer_length Luns = luns_length
transfer_length Sync = 0
transfer_length (ReserveOut action form key new_key) = reserve_out_length
transfer_length (ReserveIn action) = reserve_in_length

-- the target sends data
abbrev pub reads : Kind → Bool
reads (Read lba blocks) = true
reads (Write lba blocks payload) = false
reads TestUnit = false
reads Inquiry = true
reads Capacity = true
reads Luns = true
reads Sync = false
reads (ReserveOut action form key new_key) = false
reads (ReserveIn action) = true

-- the initiator sends data
abbrev pub writes : Kind → Bool
writes (Read lba blocks) = false
writes (Write lba blocks payload) = true
writes TestUnit = false
writes Inquiry = false
writes Capacity = false
writes Luns = false
writes Sync = false
writes (ReserveOut action form key new_key) = true
writes (ReserveIn action) = false

-- what the initiator sends: a write's payload; the parameter list of PERSISTENT RESERVE OUT (SPC-4, section 6.16.3),
-- which is the two keys and eight zero bytes
abbrev pub written_data : Kind → List ℕ
written_data (Read lba blocks) = []
written_data (Write lba blocks payload) = payload
written_data TestUnit = []
written_data Inquiry = []
written_data Capacity = []
written_data Luns = []
written_data Sync = []
written_data (ReserveOut action form key new_key) = to_be_bytes w64 key ++ to_be_bytes w64 new_key ++ replicate 8 0
written_data (ReserveIn action) = []

-- blocks that one request may name
abbrev pub AreBlocks : ℕ → ℕ → Type 0
AreBlocks lba blocks = (1 ≤ blocks) × (blocks ≤ most_blocks) × (lba + blocks ≤ address_end)

-- the request can be made
abbrev pub IsValid : Kind → Type 0
IsValid (Read lba blocks) = AreBlocks lba blocks
IsValid (Write lba blocks payload) = AreBlocks lba blocks × (length payload ≡ block_length * blocks)
IsValid TestUnit = Unit {0}
IsValid Inquiry = Unit {0}
IsValid Capacity = Unit {0}
IsValid Luns = Unit {0}
IsValid Sync = Unit {0}
IsValid (ReserveOut action form key new_key) = (action < 32) × (form < 16)
IsValid (ReserveIn action) = action < 32
