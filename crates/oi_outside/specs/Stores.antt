-- What a call of a store of records does, and its count of faults.
use Rattle.std.specs.Prelude.{◌≡◌, ℕ, Bool, true, false, List, ◌⊎◌, Option, Some, Result, Ok, Err}
use Rattle.std.specs.List.{All}
use Rattle.std.specs.Option.{option_map}
use Rattle.std.specs.Str.{IsUtf8}
use Rattle.oi_base.specs.Counts.{Rose}
use Rattle.oi_outside.specs.declared.store_error.StoreError.{StoreError}
use Rattle.oi_outside.specs.declared.store_error.StoreError.TheVariants.{Failed, Memory}
use Rattle.oi_outside.specs.Records.{Records, Ascends, lookup, has_path, with_path, without_path, paths}

-- what is told, with this text at the path
abbrev pub told_with : Option Records → List ℕ → List ℕ → Option Records
told_with o path text = option_map (λ records. with_path records path text) o

-- what is told, with none at the path
abbrev pub told_without : Option Records → List ℕ → Option Records
told_without o path = option_map (λ records. without_path records path) o

-- what is told of the text at a path
abbrev pub told_at : Option Records → List ℕ → Option (Option (List ℕ))
told_at o path = option_map (λ records. lookup records path) o

-- where the records are told, this is what they have at the path
abbrev pub IsToldAt : Option Records → List ℕ → Option (List ℕ) → Type 0
IsToldAt o path text = (records : Records) → o ≡ Some records → lookup records path ≡ text

-- a list gives the paths, which are texts, in ascending order; no list changes the records
abbrev pub Lists : Result (List (List ℕ)) StoreError → Option Records → Option Records → Type 0
Lists (Ok found) old new = (new ≡ old) × Ascends found × All IsUtf8 found × ((records : Records) → old ≡ Some records → found ≡ paths records)
Lists (Err e) old new = new ≡ old

-- a read gives the text at the path; no read changes the records
abbrev pub Finds : Result (Option (List ℕ)) StoreError → List ℕ → Option Records → Option Records → Type 0
Finds (Ok found) path old new = (new ≡ old) × ((records : Records) → old ≡ Some records → found ≡ lookup records path)
Finds (Err e) path old new = new ≡ old

-- a write puts the text at the path; a failed one did it or did nothing; want of memory does nothing
abbrev pub Puts : Result (Unit {0}) StoreError → List ℕ → List ℕ → Option Records → Option Records → Type 0
Puts (Ok x) path text old new = new ≡ told_with old path text
Puts (Err Failed) path text old new = (new ≡ old) ⊎ (new ≡ told_with old path text)
Puts (Err Memory) path text old new = new ≡ old

-- a removal takes the text at the path away, and tells whether there was one; a failed one did it or did nothing; want of memory does nothing
abbrev pub Removes : Result Bool StoreError → List ℕ → Option Records → Option Records → Type 0
Removes (Ok was) path old new = (new ≡ told_without old path) × ((records : Records) → old ≡ Some records → was ≡ has_path records path)
Removes (Err Failed) path old new = (new ≡ old) ⊎ (new ≡ told_without old path)
Removes (Err Memory) path old new = new ≡ old

-- the count of faults rose exactly where the call failed; want of memory is no fault
abbrev pub IsTallied : {T : Type 0} → Result T StoreError → ℕ → ℕ → Type 0
IsTallied (Ok x) before now = now ≡ before
IsTallied (Err Failed) before now = Rose before now
IsTallied (Err Memory) before now = now ≡ before

-- the call failed
abbrev pub has_failed : {T : Type 0} → Result T StoreError → Bool
has_failed (Ok x) = false
has_failed (Err Failed) = true
has_failed (Err Memory) = false
