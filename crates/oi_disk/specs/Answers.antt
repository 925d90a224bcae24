-- Status and sense data of a command (SAM-5, section 5.3; SPC-4, section 4.5.3).
use Rattle.std.specs.Prelude.{ℕ, List, [], ◌∷◌}
use Rattle.oi_disk.specs.declared.answer.DiskAnswer.{DiskAnswer}

-- GOOD, which has no sense data
abbrev pub good : DiskAnswer
good = record { status = 0x00; sense = [] }

-- fixed sense data, current: the sense key in byte 2, ten more bytes behind byte 7, the additional sense code in byte 12
abbrev pub sense_data : ℕ → ℕ → List ℕ
sense_data key code = 0x70 ∷ 0 ∷ key ∷ 0 ∷ 0 ∷ 0 ∷ 0 ∷ 0x0a ∷ 0 ∷ 0 ∷ 0 ∷ 0 ∷ code ∷ 0 ∷ 0 ∷ 0 ∷ 0 ∷ 0 ∷ []

-- CHECK CONDITION with the sense key ILLEGAL REQUEST
abbrev pub illegal_request : ℕ → DiskAnswer
illegal_request code = record { status = 0x02; sense = sense_data 0x05 code }

-- the additional sense codes: an opcode that is not known, an address past the end, a field of the CDB that does not fit
abbrev pub unknown_opcode : ℕ
unknown_opcode = 0x20

abbrev pub address_past_end : ℕ
address_past_end = 0x21

abbrev pub bad_field : ℕ
bad_field = 0x24
