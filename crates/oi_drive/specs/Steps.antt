-- What a line's own part leaves of a run: all that its deed says, and its links; without memory a first part of its entries.
use Rattle.std.specs.Prelude.{◌≡◌, ℕ, ◌++◌, List, Result, Ok, Err}
use Rattle.oi_base.specs.declared.memory.NoMemory.{NoMemory}
use Rattle.oi_drive.specs.Parts.{IsBetween}
use Rattle.oi_drive.specs.Worlds.{World, acted, base, deed_of}
use Rattle.oi_drive.specs.declared.answer.Answer.{Answer}
use Rattle.oi_script.specs.declared.line.DriveLine.{DriveLine}

abbrev pub Acts : World → DriveLine → List ℕ → Result Answer NoMemory → World → List ℕ → Type 0
Acts w l before (Ok answer) v after = (v ≡ acted w l) × (after ≡ before ++ (deed_of w l).text) × (answer ≡ (deed_of w l).answer)
Acts w l before (Err e) v after = IsBetween w.session (base w l) (deed_of w l).entries v.session
