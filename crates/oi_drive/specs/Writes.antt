-- What a step that prints leaves: the sink with its text, or why it broke.
use Rattle.std.specs.Prelude.{◌≡◌, ℕ, List, Option, Result, Ok, Err}
use Rattle.oi_base.specs.Counts.{Rose}
use Rattle.oi_drive.specs.declared.runner.Broken.{Broken}
use Rattle.oi_drive.specs.declared.runner.Broken.TheVariants.{Memory, Read, Write}
use Rattle.oi_outside.specs.Streams.{IsCutShort, behind}

abbrev pub Prints : Result (Unit {0}) Broken → List ℕ → Option (List ℕ) → Option (List ℕ) → ℕ → ℕ → Type 0
Prints (Ok u) text held0 held faults0 faults = (held ≡ behind held0 text) × (faults ≡ faults0)
Prints (Err Write) text held0 held faults0 faults = Rose faults0 faults × IsCutShort text held0 held
Prints (Err Memory) text held0 held faults0 faults = (faults ≡ faults0) × (held ≡ held0)
Prints (Err Read) text held0 held faults0 faults = ⊥

-- the same without what stands after a break
abbrev pub Counts : Result (Unit {0}) Broken → List ℕ → Option (List ℕ) → Option (List ℕ) → ℕ → ℕ → Type 0
Counts (Ok u) text held0 held faults0 faults = (held ≡ behind held0 text) × (faults ≡ faults0)
Counts (Err Write) text held0 held faults0 faults = Rose faults0 faults
Counts (Err Memory) text held0 held faults0 faults = faults ≡ faults0
Counts (Err Read) text held0 held faults0 faults = ⊥
