-- What the steps of the reader answer.
use Rattle.std.specs.Prelude.{◌≡◌, ◌++◌, ℕ, Bool, true, false, List, [], ◌∷◌, Option, Some, None, Result, Ok, Err, map}
use Rattle.std.specs.List.{list_all}
use Rattle.clap.specs.Matches.{found_of, first_value}
use Rattle.clap.specs.declared.parser.matches.ArgMatches.{ArgMatches}
use Rattle.oi_words.specs.Options.{all_new, value_of}
use Rattle.oi_words.specs.Tool.{form_of, letters}
use Rattle.oi_words.specs.Words.{Front, bad, ended, wants, Item, Text, ahead, is_one_of, items_from}
use Rattle.oi_words.specs.declared.fault.WordsFault.{WordsFault}
use Rattle.oi_words.specs.declared.fault.WordsFault.TheVariants.{Invalid, Memory}

abbrev pub is_known : Item → Bool
is_known i = is_one_of letters i.letter

abbrev pub AreKnown : List Item → Type 0
AreKnown items = list_all is_known items ≡ true

-- the forms are those of items with known letters
pub record AreForms (items : List Item) (forms : List Text) : Type 0 where
  pub known : AreKnown items
  pub same : forms ≡ map form_of items

-- the parser refuses exactly the items of which a letter stands twice, and finds the value of each letter
abbrev pub IsParsed : List Item → Result ArgMatches WordsFault → Type 0
IsParsed items (Ok m) = (all_new [] items ≡ true) × ((c : ℕ) → first_value (found_of m) (c ∷ []) ≡ value_of c items)
IsParsed items (Err Invalid) = all_new [] items ≡ false
IsParsed items (Err Memory) = Unit {0}

-- a word was brought into forms, behind those of the words before it
abbrev pub IsWordRead : Front → Result (Option ℕ) WordsFault → List Text → List Text → Type 0
IsWordRead front (Ok None) old new = (items : List Item) × (front ≡ ended items) × AreKnown items × (new ≡ old ++ map form_of items)
IsWordRead front (Ok (Some c)) old new =
    (items : List Item) × (front ≡ wants items c) × AreKnown items × (new ≡ old ++ map form_of items) × (is_one_of letters c ≡ true)
IsWordRead front (Err Invalid) old new = front ≡ bad
IsWordRead front (Err Memory) old new = Unit {0}

-- the option that waits is one of the tool's
abbrev pub MayWait : Option ℕ → Type 0
MayWait None = Unit {0}
MayWait (Some c) = is_one_of letters c ≡ true

-- a word was taken in: its items stand behind those before it, and those of the words that follow behind them
abbrev pub IsStep : Option ℕ → Text → Result (Option ℕ) WordsFault → List Text → List Text → Type 0
IsStep waiting word (Ok next) old new =
    (items : List Item) × AreKnown items × (new ≡ old ++ map form_of items) × MayWait next
    × ((ws : List Text) → items_from waiting (word ∷ ws) ≡ ahead items (items_from next ws))
IsStep waiting word (Err Invalid) old new = (ws : List Text) → items_from waiting (word ∷ ws) ≡ None
IsStep waiting word (Err Memory) old new = Unit {0}
