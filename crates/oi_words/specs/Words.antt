-- The words of iscsiadm: options and flags of one letter each.
use Rattle.std.specs.Prelude.{ℕ, Bool, ◌==◌, List, [], ◌∷◌, ◌++◌, Option, Some, None, if◌then◌else◌, option_map}
use Rattle.std.specs.List.{list_any}

abbrev pub Text : Type 0
Text = List ℕ

-- the letters of options, which take a value: m t p T I o n v
abbrev pub option_letters : List ℕ
option_letters = 109 ∷ 116 ∷ 112 ∷ 84 ∷ 73 ∷ 111 ∷ 110 ∷ 118 ∷ []

-- the letters of flags: l u
abbrev pub flag_letters : List ℕ
flag_letters = 108 ∷ 117 ∷ []

abbrev pub is_one_of : List ℕ → ℕ → Bool
is_one_of letters c = list_any (λ x. x == c) letters

abbrev pub is_option : ℕ → Bool
is_option c = is_one_of option_letters c

abbrev pub is_flag : ℕ → Bool
is_flag c = is_one_of flag_letters c

-- an option with its value, or a flag, whose value is empty
pub record Item : Type 0 where
  pub letter : ℕ
  pub value : Text

abbrev pub item : ℕ → Text → Item
item c value = record { letter = c; value = value }

-- what a word comes to: it is outside the grammar; it is these items; or behind them stands an option whose value is the
-- next word
pub data Front : Type 0 where
  bad : Front
  ended : List Item → Front
  wants : List Item → ℕ → Front

-- the same behind these items
abbrev pub led : List Item → Front → Front
led before bad = bad
led before (ended items) = ended (before ++ items)
led before (wants items c) = wants (before ++ items) c

-- an option: the rest of its word is its value, unless it is empty
abbrev pub valued : ℕ → Text → Front
valued c [] = wants [] c
valued c (x ∷ xs) = ended (item c (x ∷ xs) ∷ [])

-- the letters of a word
abbrev pub letters_front : Text → Front
letters_front [] = ended []
letters_front (c ∷ rest) =
    if is_flag c then led (item c [] ∷ []) (letters_front rest) else (if is_option c then valued c rest else bad)

-- a word is a hyphen and letters, of which there is one
abbrev pub word_front : Text → Front
word_front [] = bad
word_front (h ∷ []) = bad
word_front (h ∷ c ∷ rest) = if h == 45 then letters_front (c ∷ rest) else bad

-- the items that follow, behind these
abbrev pub ahead : List Item → Option (List Item) → Option (List Item)
ahead before o = option_map (λ items. before ++ items) o

abbrev pub items_after : Front → (Option ℕ → Option (List Item)) → Option (List Item)
items_after bad next = None
items_after (ended items) next = ahead items (next None)
items_after (wants items c) next = ahead items (next (Some c))

-- the items of the words, where an option may wait for its value
abbrev pub items_from : Option ℕ → List Text → Option (List Item)
items_from None [] = Some []
items_from (Some c) [] = None
items_from None (w ∷ ws) = items_after (word_front w) (λ o. items_from o ws)
items_from (Some c) (w ∷ ws) = ahead (item c w ∷ []) (items_from None ws)

abbrev pub items_of : List Text → Option (List Item)
items_of words = items_from None words
