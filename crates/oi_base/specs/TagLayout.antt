-- The bits of an initiator task tag: the age in bits 28 to 31, bit 27 for management PDUs.
use Rattle.std.specs.Prelude.{ℕ, ◌+◌, ◌-◌, ◌*◌, ◌/◌, ◌%◌, ◌^◌, ◌==◌, ◌&&◌, nat_lt, nat_le, if◌then◌else◌}
use Rattle.oi_base.specs.declared.tag.TagKind.{TagKind}
use Rattle.oi_base.specs.declared.tag.TagKind.TheVariants.{Reserved, Command, Management, Other}

-- ffffffff, the tag of no task
abbrev pub reserved_tag : ℕ
reserved_tag = 2 ^ 32 - 1

abbrev pub command_tag : ℕ → ℕ → ℕ
command_tag age index = age * 2 ^ 28 + index

abbrev pub management_tag : ℕ → ℕ → ℕ
management_tag age n = age * 2 ^ 28 + 2 ^ 27 + n

-- the age of a connection's tags
abbrev pub age_after : ℕ → ℕ
age_after generation = (generation - 1) % 16

abbrev pub kind_of : ℕ → TagKind
kind_of t =
    if t == reserved_tag then Reserved
    else (if nat_lt (t % 2 ^ 28) 2048 then Command (t / 2 ^ 28) (t % 2 ^ 28)
    else (if nat_le (2 ^ 27) (t % 2 ^ 28) && nat_lt (t % 2 ^ 28) (2 ^ 27 + 1000000) then Management (t / 2 ^ 28) (t % 2 ^ 28 - 2 ^ 27)
    else Other))
