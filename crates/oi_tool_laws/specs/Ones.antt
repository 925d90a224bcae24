-- What words and stored records come to is one.
use Rattle.std.specs.Prelude.{◌≡◌, ℕ, List}
use Rattle.oi_outside.specs.Records.{Records}
use Rattle.oi_settings.specs.Texts.{Node}
use Rattle.oi_nodedb.specs.Databases.{Ascends}
use Rattle.oi_nodedb.specs.Loads.{IsFirstBad, IsLoaded}
use Rattle.oi_admin.specs.declared.command.AdminCommand.{AdminCommand}
use Rattle.oi_tool.specs.Asking.{Ask}
use Rattle.oi_tool.specs.Outcomes.{Outcome}
use Rattle.oi_tool.specs.Runs.{IsRun}

-- words ask for one command at most
abbrev pub OneCommand : Type 0
OneCommand = (words : List (List ℕ)) (a b : AdminCommand) → Ask words a → Ask words b → a ≡ b

-- the first path with a bad text is one, and so is its line
abbrev pub OneFirstBad : Type 0
OneFirstBad =
    (records : Records) (a b : List ℕ) (line other : ℕ) → IsFirstBad records a line → IsFirstBad records b other → (a ≡ b) × (line ≡ other)

-- no text is the first bad one where the records are those of a list
abbrev pub LoadIsSound : Type 0
LoadIsSound = (records : Records) (path : List ℕ) (line : ℕ) (nodes : List Node) → IsFirstBad records path line → IsLoaded records nodes → ⊥

-- the list, in the order of its keys, is one
abbrev pub OneLoad : Type 0
OneLoad = (records : Records) (a b : List Node) → Ascends a → Ascends b → IsLoaded records a → IsLoaded records b → a ≡ b

-- words over stored records have one outcome at most
abbrev pub OneOutcome : Type 0
OneOutcome = (words : List (List ℕ)) (records : Records) (a b : Outcome) → IsRun words records a → IsRun words records b → a ≡ b
