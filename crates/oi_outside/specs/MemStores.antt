-- Stores of records over memory.
use Rattle.std.specs.Prelude.{ℕ, List, map, refl, Result, Ok, Err, if◌then◌else◌}
use Rattle.std.specs.Coded.{Coded, code_by, coded×, coded_list, coded_ℕ}
use Rattle.std.specs.FinMap.{code, from_entries}
use Rattle.std.specs.Ordering.{nat_cmp}
use Rattle.std.specs.Cmp.Lexicographic.{slice_cmp}
use Rattle.std.specs.String.{string_bytes}
use Rattle.std.specs.declared.string.String.{String}
use Rattle.oi_outside.specs.declared.store_error.StoreError.{StoreError}
use Rattle.oi_outside.specs.Calls.{one_more, is_to_fail}
use Rattle.oi_outside.specs.Records.{Records}

-- a store over memory: its records, the number of its next call, the numbers of the calls that fail, and how many did
pub record MemRecords : Type 0 where
  pub records : Records
  pub calls : ℕ
  pub fails : List ℕ
  pub faults : ℕ

abbrev pub records_code : Coded Records
records_code = code {R = slice_cmp nat_cmp} (coded_list coded_ℕ) (coded_list coded_ℕ)

-- it is stored as its fields in pairs
abbrev pub mem_records_code : Coded MemRecords
mem_records_code =
    code_by (Records × ((ℕ × ℕ) × List ℕ)) (coded× records_code (coded× (coded× coded_ℕ coded_ℕ) (coded_list coded_ℕ)))
    (λ s. (s.records, ((s.calls, s.faults), s.fails))) (λ p. record { records = p.0; calls = p.1.0.0; fails = p.1.1; faults = p.1.0.1 }) (λ _. refl)

-- a call is numbered, and counted where it fails
abbrev pub numbered : MemRecords → MemRecords
numbered s = record s { calls = one_more s.calls; faults = if is_to_fail s.fails s.calls then one_more s.faults else s.faults }

-- a call that changes the records exactly where it is Ok
abbrev pub after_change : {T : Type 0} → Result T StoreError → Records → MemRecords → MemRecords
after_change (Ok x) changed s = record (numbered s) { records = changed }
after_change (Err e) changed s = numbered s

-- entries whose paths are strings, by the bytes of their paths
abbrev pub by_bytes : {A : Type 0} → List (String A × List ℕ) → List (List ℕ × List ℕ)
by_bytes entries = map (λ e. (string_bytes e.0, e.1)) entries

-- the records that such entries make
abbrev pub records_of : {A : Type 0} → List (String A × List ℕ) → Records
records_of entries = from_entries (by_bytes entries)
