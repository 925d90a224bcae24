-- The options that words give, each at most once.
use Rattle.std.specs.Prelude.{◌≡◌, ◌==◌, ◌&&◌, ℕ, Bool, true, false, not, List, [], ◌∷◌, ◌++◌, Option, Some, None, Result, Ok, Err, is_some, if◌then◌else◌, option_and_then, option_map}
use Rattle.std.specs.List.{find, list_any}
use Rattle.oi_words.specs.Words.{Item, Text, items_of}
use Rattle.oi_words.specs.declared.options.Options.{Options}
use Rattle.oi_words.specs.declared.fault.WordsFault.{WordsFault}
use Rattle.oi_words.specs.declared.fault.WordsFault.TheVariants.{Invalid, Memory}

abbrev pub has_letter : ℕ → List Item → Bool
has_letter c items = list_any (λ i. i.letter == c) items

-- no letter stands twice, nor among those before
abbrev pub all_new : List Item → List Item → Bool
all_new before [] = true
all_new before (i ∷ items) = not (has_letter i.letter before) && all_new (before ++ i ∷ []) items

-- the value of a letter
abbrev pub value_of : ℕ → List Item → Option Text
value_of c items = option_map (λ i. i.value) (find (λ i. i.letter == c) items)

-- the options of items, by their letters: m t p T I o n v, and l u
abbrev pub fields_of : List Item → Options
fields_of items = record {
  mode = value_of 109 items;
  discovery = value_of 116 items;
  portal = value_of 112 items;
  target = value_of 84 items;
  iface = value_of 73 items;
  operation = value_of 111 items;
  name = value_of 110 items;
  value = value_of 118 items;
  login = is_some (value_of 108 items);
  logout = is_some (value_of 117 items);
}

abbrev pub once : List Item → Option Options
once items = if all_new [] items then Some (fields_of items) else None

-- the options of words; none where the words are outside the grammar, or a letter stands twice
abbrev pub options_of : List Text → Option Options
options_of words = option_and_then once (items_of words)

-- a reader answers what is told, and refuses exactly where nothing is
abbrev pub IsReading : Option Options → Result Options WordsFault → Type 0
IsReading o (Ok options) = o ≡ Some options
IsReading o (Err Invalid) = o ≡ None
IsReading o (Err Memory) = Unit {0}
