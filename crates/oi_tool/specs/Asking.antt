-- Which commands the tool carries out by itself.
use Rattle.std.specs.Prelude.{◌≡◌, ℕ, false, List, Option, Some, None}
use Rattle.oi_nodedb.specs.Answers.{IsSetting}
use Rattle.oi_admin.specs.declared.command.AdminCommand.{AdminCommand}
use Rattle.oi_admin.specs.declared.command.AdminCommand.TheVariants.{Update}
use Rattle.oi_admin.specs.Applies.{needs_daemon}
use Rattle.oi_admin.specs.Commands.{AreWordsOf}

-- the name and the value that a command gives
abbrev pub setting_of : AdminCommand → Option (List ℕ × List ℕ)
setting_of (Update f name value) = Some (name, value)
setting_of other = None

abbrev pub IsKnown : Option (List ℕ × List ℕ) → Type 0
IsKnown None = Unit {0}
IsKnown (Some s) = IsSetting s.0 s.1

-- no daemon is needed, and a name and a value are those of a setting
pub record IsFit (command : AdminCommand) : Type 0 where
  pub alone : needs_daemon command ≡ false
  pub known : IsKnown (setting_of command)

-- the words ask for the command, and it is such a one
abbrev pub Ask : List (List ℕ) → AdminCommand → Type 0
Ask words command = AreWordsOf words command × IsFit command

abbrev pub AreRefused : List (List ℕ) → Type 0
AreRefused words = (command : AdminCommand) → Ask words command → ⊥
