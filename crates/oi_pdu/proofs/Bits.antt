-- The bits of the flags, read back.
use Rattle.std.proofs.Common.{◌≡◌, ℕ, Bool, true, false, ◌+◌, ◌*◌, ◌/◌, ◌%◌, ◌<◌, refl, ap, arith, ◌==◌}
use Rattle.oi_pdu.specs.Segments.{flag, is_set}

set_true : (n mask : ℕ) → n / mask % 2 ≡ 1 → is_set n mask ≡ true
set_true n mask e = ap (λ k. k == 1) e

set_false : (n mask : ℕ) → n / mask % 2 ≡ 0 → is_set n mask ≡ false
set_false n mask e = ap (λ k. k == 1) e

-- the opcode and the I bit of byte 0
pub opcode_below : (i : Bool) (op : ℕ) → op < 64 → (flag i 0x40 + op) % 0x40 ≡ op
opcode_below true op h = omega arith
opcode_below false op h = omega arith

pub immediate_above : (i : Bool) (op : ℕ) → op < 64 → is_set (flag i 0x40 + op) 0x40 ≡ i
immediate_above true op h = set_true (0x40 + op) 0x40 (omega arith)
immediate_above false op h = set_false (0 + op) 0x40 (omega arith)

pub record IsCommandFlags (p80 p40 p20 : Bool) (attr : ℕ) (byte : ℕ) : Type 0 where
  pub b80 : is_set byte 0x80 ≡ p80
  pub b40 : is_set byte 0x40 ≡ p40
  pub b20 : is_set byte 0x20 ≡ p20
  pub attr_part : byte % 8 ≡ attr

pub command_flags : (p80 p40 p20 : Bool) (attr : ℕ) → attr < 8 → IsCommandFlags p80 p40 p20 attr (flag p80 0x80 + flag p40 0x40 + flag p20 0x20 + attr % 8)
command_flags true true true attr attr_below = record { b80 = set_true (224 + attr % 8) 128 (omega arith); b40 = set_true (224 + attr % 8) 64 (omega arith); b20 = set_true (224 + attr % 8) 32 (omega arith); attr_part = omega arith }
command_flags true true false attr attr_below = record { b80 = set_true (192 + attr % 8) 128 (omega arith); b40 = set_true (192 + attr % 8) 64 (omega arith); b20 = set_false (192 + attr % 8) 32 (omega arith); attr_part = omega arith }
command_flags true false true attr attr_below = record { b80 = set_true (160 + attr % 8) 128 (omega arith); b40 = set_false (160 + attr % 8) 64 (omega arith); b20 = set_true (160 + attr % 8) 32 (omega arith); attr_part = omega arith }
command_flags true false false attr attr_below = record { b80 = set_true (128 + attr % 8) 128 (omega arith); b40 = set_false (128 + attr % 8) 64 (omega arith); b20 = set_false (128 + attr % 8) 32 (omega arith); attr_part = omega arith }
command_flags false true true attr attr_below = record { b80 = set_false (96 + attr % 8) 128 (omega arith); b40 = set_true (96 + attr % 8) 64 (omega arith); b20 = set_true (96 + attr % 8) 32 (omega arith); attr_part = omega arith }
command_flags false true false attr attr_below = record { b80 = set_false (64 + attr % 8) 128 (omega arith); b40 = set_true (64 + attr % 8) 64 (omega arith); b20 = set_false (64 + attr % 8) 32 (omega arith); attr_part = omega arith }
command_flags false false true attr attr_below = record { b80 = set_false (32 + attr % 8) 128 (omega arith); b40 = set_false (32 + attr % 8) 64 (omega arith); b20 = set_true (32 + attr % 8) 32 (omega arith); attr_part = omega arith }
command_flags false false false attr attr_below = record { b80 = set_false (0 + attr % 8) 128 (omega arith); b40 = set_false (0 + attr % 8) 64 (omega arith); b20 = set_false (0 + attr % 8) 32 (omega arith); attr_part = omega arith }

pub record IsStageFlags (p80 p40 : Bool) (csg nsg : ℕ) (byte : ℕ) : Type 0 where
  pub b80 : is_set byte 0x80 ≡ p80
  pub b40 : is_set byte 0x40 ≡ p40
  pub csg_part : byte / 4 % 4 ≡ csg
  pub nsg_part : byte % 4 ≡ nsg

pub stage_flags : (p80 p40 : Bool) (csg nsg : ℕ) → csg < 4 → nsg < 4 → IsStageFlags p80 p40 csg nsg (flag p80 0x80 + flag p40 0x40 + csg % 4 * 4 + nsg % 4)
stage_flags true true csg nsg csg_below nsg_below = record { b80 = set_true (192 + csg % 4 * 4 + nsg % 4) 128 (omega arith); b40 = set_true (192 + csg % 4 * 4 + nsg % 4) 64 (omega arith); csg_part = omega arith; nsg_part = omega arith }
stage_flags true false csg nsg csg_below nsg_below = record { b80 = set_true (128 + csg % 4 * 4 + nsg % 4) 128 (omega arith); b40 = set_false (128 + csg % 4 * 4 + nsg % 4) 64 (omega arith); csg_part = omega arith; nsg_part = omega arith }
stage_flags false true csg nsg csg_below nsg_below = record { b80 = set_false (64 + csg % 4 * 4 + nsg % 4) 128 (omega arith); b40 = set_true (64 + csg % 4 * 4 + nsg % 4) 64 (omega arith); csg_part = omega arith; nsg_part = omega arith }
stage_flags false false csg nsg csg_below nsg_below = record { b80 = set_false (0 + csg % 4 * 4 + nsg % 4) 128 (omega arith); b40 = set_false (0 + csg % 4 * 4 + nsg % 4) 64 (omega arith); csg_part = omega arith; nsg_part = omega arith }

pub record IsLastMore (p80 p40 : Bool) (byte : ℕ) : Type 0 where
  pub b80 : is_set byte 0x80 ≡ p80
  pub b40 : is_set byte 0x40 ≡ p40

pub last_more : (p80 p40 : Bool) → IsLastMore p80 p40 (flag p80 0x80 + flag p40 0x40)
last_more true true = record { b80 = refl; b40 = refl }
last_more true false = record { b80 = refl; b40 = refl }
last_more false true = record { b80 = refl; b40 = refl }
last_more false false = record { b80 = refl; b40 = refl }

pub record IsLastAlone (p80 : Bool) (byte : ℕ) : Type 0 where
  pub b80 : is_set byte 0x80 ≡ p80

pub last_alone : (p80 : Bool) → IsLastAlone p80 (flag p80 0x80)
last_alone true = record { b80 = refl }
last_alone false = record { b80 = refl }

pub record IsResidualFlags (p04 p02 : Bool) (byte : ℕ) : Type 0 where
  pub b04 : is_set byte 0x04 ≡ p04
  pub b02 : is_set byte 0x02 ≡ p02

pub residual_flags : (p04 p02 : Bool) → IsResidualFlags p04 p02 (0x80 + flag p04 0x04 + flag p02 0x02)
residual_flags true true = record { b04 = refl; b02 = refl }
residual_flags true false = record { b04 = refl; b02 = refl }
residual_flags false true = record { b04 = refl; b02 = refl }
residual_flags false false = record { b04 = refl; b02 = refl }

pub record IsDataInFlags (p80 p04 p02 p01 : Bool) (byte : ℕ) : Type 0 where
  pub b80 : is_set byte 0x80 ≡ p80
  pub b04 : is_set byte 0x04 ≡ p04
  pub b02 : is_set byte 0x02 ≡ p02
  pub b01 : is_set byte 0x01 ≡ p01

pub data_in_flags : (p80 p04 p02 p01 : Bool) → IsDataInFlags p80 p04 p02 p01 (flag p80 0x80 + flag p04 0x04 + flag p02 0x02 + flag p01 0x01)
data_in_flags true true true true = record { b80 = refl; b04 = refl; b02 = refl; b01 = refl }
data_in_flags true true true false = record { b80 = refl; b04 = refl; b02 = refl; b01 = refl }
data_in_flags true true false true = record { b80 = refl; b04 = refl; b02 = refl; b01 = refl }
data_in_flags true true false false = record { b80 = refl; b04 = refl; b02 = refl; b01 = refl }
data_in_flags true false true true = record { b80 = refl; b04 = refl; b02 = refl; b01 = refl }
data_in_flags true false true false = record { b80 = refl; b04 = refl; b02 = refl; b01 = refl }
data_in_flags true false false true = record { b80 = refl; b04 = refl; b02 = refl; b01 = refl }
data_in_flags true false false false = record { b80 = refl; b04 = refl; b02 = refl; b01 = refl }
data_in_flags false true true true = record { b80 = refl; b04 = refl; b02 = refl; b01 = refl }
data_in_flags false true true false = record { b80 = refl; b04 = refl; b02 = refl; b01 = refl }
data_in_flags false true false true = record { b80 = refl; b04 = refl; b02 = refl; b01 = refl }
data_in_flags false true false false = record { b80 = refl; b04 = refl; b02 = refl; b01 = refl }
data_in_flags false false true true = record { b80 = refl; b04 = refl; b02 = refl; b01 = refl }
data_in_flags false false true false = record { b80 = refl; b04 = refl; b02 = refl; b01 = refl }
data_in_flags false false false true = record { b80 = refl; b04 = refl; b02 = refl; b01 = refl }
data_in_flags false false false false = record { b80 = refl; b04 = refl; b02 = refl; b01 = refl }

-- a number of 7 bits below bit 80
pub seven_below : (n : ℕ) → n < 128 → (0x80 + n % 128) % 128 ≡ n
seven_below n h = omega arith
