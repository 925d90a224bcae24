-- The reservations of a logical unit: who is registered with which key, who holds, and the generation (SPC-4, section 5.13).
use Rattle.std.specs.Prelude.{ℕ, ◌+◌, ◌%◌, ◌^◌, Bool, false, Option, Some, None, option_map, unwrap_or, List, [], bytes_eq, ◌==◌}
use Rattle.std.specs.List.{find, list_any}
use Rattle.oi_reserve.specs.declared.entry.Holder.{Holder}
use Rattle.oi_reserve.specs.declared.entry.Registration.{Registration}

-- registrations in the order in which they came, at most one holder with the type of its reservation, and a number of
-- 32 bits that counts the changes of registrations
pub record Table : Type 0 where
  pub registered : List Registration
  pub holder : Option Holder
  pub generation : ℕ

abbrev pub empty_table : Table
empty_table = record { registered = []; holder = None; generation = 0 }

abbrev pub most_registered : ℕ
most_registered = 32

-- the key of a nexus, if it is registered
abbrev pub key_of : List Registration → List ℕ → Option ℕ
key_of registered nexus = option_map (λ r. r.key) (find (λ r. bytes_eq r.nexus nexus) registered)

-- the key of a nexus, 0 without one
abbrev pub key_or_zero : List Registration → List ℕ → ℕ
key_or_zero registered nexus = unwrap_or (key_of registered nexus) 0

-- a key is the stated one
abbrev pub is_key : Option ℕ → ℕ → Bool
is_key None key = false
is_key (Some k) key = k == key

-- somebody has the key
abbrev pub has_key : List Registration → ℕ → Bool
has_key registered key = list_any (λ r. r.key == key) registered

-- the next generation
abbrev pub grown : ℕ → ℕ
grown generation = (generation + 1) % 2 ^ 32
