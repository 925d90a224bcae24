-- The command of the tool, as `clap` has it: each letter is the long name of an option with a value.
use Rattle.std.specs.Prelude.{◌≡◌, ◌++◌, ℕ, true, List, [], ◌∷◌, Some, codes, map}
use Rattle.std.specs.List.{fold}
use Rattle.clap.specs.Walk.{Rule}
use Rattle.clap.specs.Simple.{App, new_app, new_rule, on_top, with_rule}
use Rattle.oi_words.specs.Words.{Item, Text}

abbrev pub letters : List ℕ
letters = 109 ∷ 116 ∷ 112 ∷ 84 ∷ 73 ∷ 111 ∷ 110 ∷ 118 ∷ 108 ∷ 117 ∷ []

-- the name of an option
abbrev pub name_of : ℕ → Text
name_of c = c ∷ []

abbrev pub option_rule : Text → Rule
option_rule name = record (new_rule name) { long = Some name }

-- the words begin behind the program's name, and no option asks for help
abbrev pub bare : App
bare = on_top (λ s. record s { no_binary_name = true; disable_help_flag = true }) (new_app (codes "iscsiadm"))

abbrev pub with_options : App → List Text → App
with_options app names = fold (λ a name. with_rule a (option_rule name)) app names

abbrev pub tool : App
tool = with_options bare (map name_of letters)

-- the one form of an item: `--c=VALUE`
abbrev pub form_of : Item → Text
form_of i = 45 ∷ 45 ∷ i.letter ∷ 61 ∷ i.value
