-- What a call of a source or a sink moves, and its count of faults.
use Rattle.std.specs.Prelude.{◌≡◌, ℕ, List, [], ◌++◌, ◌<◌, ◌≤◌, Option, Some, Result, Ok, Err, length, take}
use Rattle.std.specs.Option.{option_map}
use Rattle.oi_base.specs.Counts.{Rose}
use Rattle.oi_outside.specs.declared.failed.Failed.{Failed}

-- the bytes, and what is told behind them
abbrev pub in_front : List ℕ → Option (List ℕ) → Option (List ℕ)
in_front bytes o = option_map (λ rest. bytes ++ rest) o

-- what is told, and the bytes behind it
abbrev pub behind : Option (List ℕ) → List ℕ → Option (List ℕ)
behind o bytes = option_map (λ front. front ++ bytes) o

-- a read moved the front of what was left into the buffer, nothing only at the end; a failed one left it
abbrev pub Reads : Result ℕ Failed → List ℕ → Option (List ℕ) → Option (List ℕ) → Type 0
Reads (Ok n) buffer old new = (n ≤ length buffer) × (old ≡ in_front (take n buffer) new) × (n ≡ 0 → (rest : List ℕ) → old ≡ Some rest → rest ≡ [])
Reads (Err e) buffer old new = new ≡ old

-- a write moved a front of the piece behind what was held, at least one byte; a failed one left it
abbrev pub Writes : Result ℕ Failed → List ℕ → Option (List ℕ) → Option (List ℕ) → Type 0
Writes (Ok n) piece old new = (0 < n) × (n ≤ length piece) × (new ≡ behind old (take n piece))
Writes (Err e) piece old new = new ≡ old

-- the count of faults rose exactly where the call failed
abbrev pub IsCounted : {T : Type 0} → Result T Failed → ℕ → ℕ → Type 0
IsCounted (Ok x) before now = now ≡ before
IsCounted (Err e) before now = Rose before now

-- a front of the text was taken
pub record IsFront (text : List ℕ) (held0 held : Option (List ℕ)) : Type 0 where
  pub count : ℕ
  pub is : held ≡ behind held0 (take count text)

-- a front of the text was taken, and not all of it
pub record IsCutShort (text : List ℕ) (held0 held : Option (List ℕ)) : Type 0 where
  pub count : ℕ
  pub short : count < length text
  pub is : held ≡ behind held0 (take count text)
