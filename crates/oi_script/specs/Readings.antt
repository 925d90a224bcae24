-- What the reader of a line answers.
use Rattle.std.specs.Prelude.{◌≡◌, Option, Some, None, Result, Ok, Err}
use Rattle.oi_script.specs.declared.line.DriveLine.{DriveLine}
use Rattle.oi_script.specs.declared.line.LineFault.{LineFault}
use Rattle.oi_script.specs.declared.line.LineFault.TheVariants.{Bad, Memory}

-- exactly what the definition says; want of memory is free
abbrev pub IsReading : Option DriveLine → Result DriveLine LineFault → Type 0
IsReading o (Ok line) = o ≡ Some line
IsReading o (Err Bad) = o ≡ None
IsReading o (Err Memory) = Unit {0}
