-- Command descriptor blocks of 16 bytes (SBC-3, section 5; SPC-4, section 6), and logical unit numbers (SAM-5, section 4.7).
use Rattle.std.specs.Prelude.{ℕ, ◌^◌, List, [], ◌∷◌, slice_index, nat_lt, if◌then◌else◌}
use Rattle.std.specs.Int.{to_be_bytes, w16, w32, w64}
use Rattle.oi_scsi.specs.Requests.{inquiry_length, luns_length, reserve_in_length, reserve_out_length}
use Rattle.oi_scsi.specs.declared.request.Kind.{Kind}
use Rattle.oi_scsi.specs.declared.request.Kind.TheVariants.{Read, Write, Unit as TestUnit, Inquiry, Capacity, Luns, Sync, ReserveOut, ReserveIn}

-- the k-th byte of a number of 2, 4 or 8 bytes, the highest first
abbrev pub half : ℕ → ℕ → ℕ
half n k = slice_index (to_be_bytes w16 n) k

abbrev pub word : ℕ → ℕ → ℕ
word n k = slice_index (to_be_bytes w32 n) k

abbrev pub long : ℕ → ℕ → ℕ
long n k = slice_index (to_be_bytes w64 n) k

-- READ(10), WRITE(10): address in bytes 2 to 5, blocks in 7 and 8
abbrev pub short_form : ℕ → ℕ → ℕ → List ℕ
short_form op lba blocks =
    op ∷ 0 ∷ word lba 0 ∷ word lba 1 ∷ word lba 2 ∷ word lba 3 ∷ 0 ∷ half blocks 0 ∷ half blocks 1 ∷ 0 ∷ 0 ∷ 0 ∷ 0 ∷ 0 ∷ 0 ∷ 0 ∷ []

-- READ(16), WRITE(16): address in bytes 2 to 9, blocks in 10 to 13
abbrev pub long_form : ℕ → ℕ → ℕ → List ℕ
long_form op lba blocks =
    op ∷ 0 ∷ long lba 0 ∷ long lba 1 ∷ long lba 2 ∷ long lba 3 ∷ long lba 4 ∷ long lba 5 ∷ long lba 6 ∷ long lba 7
    ∷ word blocks 0 ∷ word blocks 1 ∷ word blocks 2 ∷ word blocks 3 ∷ 0 ∷ 0 ∷ []

-- an address below 2^32 has the short form
abbrev pub block_command : ℕ → ℕ → ℕ → ℕ → List ℕ
block_command short op lba blocks = if nat_lt lba (2 ^ 32) then short_form short lba blocks else long_form op lba blocks

-- an opcode and zeros
abbrev pub plain : ℕ → List ℕ
plain op = op ∷ 0 ∷ 0 ∷ 0 ∷ 0 ∷ 0 ∷ 0 ∷ 0 ∷ 0 ∷ 0 ∷ 0 ∷ 0 ∷ 0 ∷ 0 ∷ 0 ∷ 0 ∷ []

-- the allocation length is in bytes 3 and 4 of INQUIRY, 6 to 9 of REPORT LUNS, 5 to 8 of PERSISTENT RESERVE OUT and 7 and 8
-- of PERSISTENT RESERVE IN
abbrev pub cdb_of : Kind → List ℕ
cdb_of (Read lba blocks) = block_command 0x28 0x88 lba blocks
cdb_of (Write lba blocks payload) = block_command 0x2a 0x8a lba blocks
cdb_of TestUnit = plain 0x00
cdb_of Inquiry = 0x12 ∷ 0 ∷ 0 ∷ half inquiry_length 0 ∷ half inquiry_length 1 ∷ 0 ∷ 0 ∷ 0 ∷ 0 ∷ 0 ∷ 0 ∷ 0 ∷ 0 ∷ 0 ∷ 0 ∷ 0 ∷ []
cdb_of Capacity = plain 0x25
cdb_of Luns = 0xa0 ∷ 0 ∷ 0 ∷ 0 ∷ 0 ∷ 0 ∷ word luns_length 0 ∷ word luns_length 1 ∷ word luns_length 2 ∷ word luns_length 3 ∷ 0 ∷ 0 ∷ 0 ∷ 0 ∷ 0 ∷ 0 ∷ []
cdb_of Sync = plain 0x35
cdb_of (ReserveOut action form key new_key) =
    0x5f ∷ action ∷ form ∷ 0 ∷ 0 ∷ word reserve_out_length 0 ∷ word reserve_out_length 1 ∷ word reserve_out_length 2 ∷ word reserve_out_length 3
    ∷ 0 ∷ 0 ∷ 0 ∷ 0 ∷ 0 ∷ 0 ∷ 0 ∷ []
cdb_of (ReserveIn action) = 0x5e ∷ action ∷ 0 ∷ 0 ∷ 0 ∷ 0 ∷ 0 ∷ half reserve_in_length 0 ∷ half reserve_in_length 1 ∷ 0 ∷ 0 ∷ 0 ∷ 0 ∷ 0 ∷ 0 ∷ 0 ∷ []

-- the single level form: the number in byte 1
abbrev pub lun_of : ℕ → List ℕ
lun_of lun = 0 ∷ lun ∷ 0 ∷ 0 ∷ 0 ∷ 0 ∷ 0 ∷ 0 ∷ []
