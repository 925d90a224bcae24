-- What the command makes of the forms of items.
use Rattle.std.proofs.Common.{◌≡◌, ◌⊎◌, inl, inr, ◌∙◌, ◌==◌, ◌&&◌, ◌||◌, ◌++◌, ℕ, Bool, true, false, not, cond, List, [], ◌∷◌, Option, Some, None, map, refl, sym, ap, ap₂, subst, append_assoc, append-nil, true≢false, eqb-true, arith}
use Rattle.std.specs.List.{find, list_all, fold, list_any}
use Rattle.std.specs.Option.{option_and_then, option_map, is_some}
use Rattle.std.specs.Str.{bytes_eq}
use Rattle.clap.specs.Lexer.{long_of}
use Rattle.clap.specs.Walk.{Held, Row, Rule, Walk, more_values, with_values, without, after_flag, after_step, arg_by_long, at_row, finished, first_of, has_row, idle, long_met, long_or_other, nothing_held, reading_by, settled, walk, walk_from, walked, with_default}
use Rattle.clap.specs.Simple.{App, Shape, built, entered, filled, is_simple, matches_of, HasMatchesOf}
use Rattle.clap.specs.Kinds.{IsAmong, Kinds, or_else}
use Rattle.clap.specs.Matches.{found_of, first_value}
use Rattle.clap.proofs.WalkLemmas.{first_value-rows}
use Rattle.clap.specs.declared.error.kind.ErrorKind.{ErrorKind}
use Rattle.clap.specs.declared.parser.matches.ArgMatches.{ArgMatches}
use Rattle.clap.specs.Faults.{check_fault, default_fault, defaults_fault, entered_fault, fault_of, flag_word_fault, is_simple_and_free, long_fault, settle_fault, step_fault, turn_fault, walk_fault}
use Rattle.clap.specs.declared.builder.value_parser.Reading.{Reading}
use Rattle.std.proofs.lemmas.List.{map-append}
use Rattle.clap.specs.declared.error.kind.ErrorKind.TheVariants as kind
use Rattle.clap.specs.declared.parser.matches.ValueSource.TheVariants.{CommandLine}
use Rattle.oi_words.specs.Words.{Item, Text, is_one_of}
use Rattle.oi_words.specs.Options.{all_new, has_letter, value_of}
use Rattle.oi_words.specs.Tool.{form_of, letters, option_rule, tool}
use Rattle.oi_words.specs.Parses.{AreForms, AreKnown, is_known}

abbrev rule : ℕ → Rule
rule c = filled (option_rule (c ∷ []))

abbrev rules : List Rule
rules = map rule letters

abbrev top : Shape
top = (built tool).top

pub tool_simple : is_simple tool ≡ true
tool_simple = refl

pub tool_free : is_simple_and_free tool ≡ true
tool_free = refl

rules_built : top.rules ≡ rules
rules_built = refl

-- where the walk stands between two words
abbrev standing : List Row → Walk
standing rows = walk_from (record { rows = rows; pending = None; skip = 0 })

abbrev row_of_item : Item → Row
row_of_item i = record { id = i.letter ∷ []; values = i.value ∷ []; count = None; source = Some CommandLine; reading = reading_by (rule i.letter) }

-- ---- letters

known_is_no_equals : (c : ℕ) → is_one_of letters c ≡ true → (c == 61) ≡ false
known_is_no_equals c known = go (c == 61) refl
  where
    go : (b : Bool) → (c == 61) ≡ b → b ≡ false
    go false e = refl
    go true e = absurd (true≢false (sym (subst (λ (x : ℕ). is_one_of letters x ≡ true) (eqb-true c 61 e) known)))

and_true : (b : Bool) → (b && true) ≡ b
and_true true = refl
and_true false = refl

or_false : (b : Bool) → (b || false) ≡ b
or_false true = refl
or_false false = refl

or_true : (b : Bool) → (b || true) ≡ true
or_true true = refl
or_true false = refl

long_of-form : (c : ℕ) (v : Text) → (c == 61) ≡ false → long_of (45 ∷ 45 ∷ c ∷ 61 ∷ v) ≡ Some (c ∷ [], Some v)
long_of-form c v no_equals = rw no_equals refl

by_long : (cs : List ℕ) (c : ℕ) → is_one_of cs c ≡ true → arg_by_long (map rule cs) (c ∷ []) ≡ Some (rule c)
by_long [] c known = absurd (true≢false (sym known))
by_long (x ∷ xs) c known = go (x == c) refl (by_long xs c)
  where
    go : (b : Bool) → (x == c) ≡ b → (is_one_of xs c ≡ true → arg_by_long (map rule xs) (c ∷ []) ≡ Some (rule c)) → arg_by_long (map rule (x ∷ xs)) (c ∷ []) ≡ Some (rule c)
    go true e more = rw e (ap (λ (n : ℕ). Some (rule n)) (eqb-true x c e))
    go false e more = rw e (more (rw e at known))

and_parts : (a b : Bool) → (a && b) ≡ true → (a ≡ true) × (b ≡ true)
and_parts true b e = (refl, e)
and_parts false b e = absurd (true≢false (sym e))

not_true : (b : Bool) → not b ≡ true → b ≡ false
not_true false e = refl
not_true true e = absurd (true≢false (sym e))

-- ---- rows

no_row : (id : Text) (change : Row → List Row) (missing rows : List Row) → has_row id rows ≡ false → at_row id change missing rows ≡ rows ++ missing
no_row id change missing [] none = refl
no_row id change missing (r ∷ rs) none = go (bytes_eq r.id id) refl (no_row id change missing rs)
  where
    go : (b : Bool) → bytes_eq r.id id ≡ b → (has_row id rs ≡ false → at_row id change missing rs ≡ rs ++ missing) → at_row id change missing (r ∷ rs) ≡ r ∷ (rs ++ missing)
    go true e more = absurd (true≢false (rw e at none))
    go false e more = rw e (ap (λ (xs : List Row). r ∷ xs) (more (rw e at none)))

has_row-items : (c : ℕ) (items : List Item) → has_row (c ∷ []) (map row_of_item items) ≡ has_letter c items
has_row-items c [] = refl
has_row-items c (i ∷ is) = ap₂ (λ (a b : Bool). a || b) (and_true (i.letter == c)) (has_row-items c is)

-- ---- one word

walked_by : List Row → Text → Option (Text × Option Text) → Walk
walked_by rows word p =
    after_step rules word (standing rows) (long_or_other rules idle word p (standing rows).held).0 (long_or_other rules idle word p (standing rows).held).1

long_walked : List Row → Text → Text → Option Rule → Walk
long_walked rows word v found =
    after_step rules word (standing rows) (after_flag rules idle word (long_met rules found (Some v) (standing rows).held).0 (long_met rules found (Some v) (standing rows).held).1).0
    (after_flag rules idle word (long_met rules found (Some v) (standing rows).held).0 (long_met rules found (Some v) (standing rows).held).1).1

one_walked : (rows : List Row) (i : Item) → is_one_of letters i.letter ≡ true → has_row (i.letter ∷ []) rows ≡ false
    → walked rules [] (standing rows) (form_of i) ≡ standing (rows ++ row_of_item i ∷ [])
unfolding walked walked_by long_walked
one_walked rows i known none =
    let word : Text = form_of i in
    let first : walked_by rows word (long_of word) ≡ walked_by rows word (Some (i.letter ∷ [], Some i.value)) =
    ap (λ (p : Option (Text × Option Text)). walked_by rows word p) (long_of-form i.letter i.value (known_is_no_equals i.letter known)) in
    let second : long_walked rows word i.value (arg_by_long rules (i.letter ∷ [])) ≡ long_walked rows word i.value (Some (rule i.letter)) =
    ap (λ (a : Option Rule). long_walked rows word i.value a) (by_long letters i.letter known) in
    let id : Text = i.letter ∷ [] in
    let how : Reading = reading_by (rule i.letter) in
    let third : without id rows ≡ rows = no_row id (λ r. []) [] rows none ∙ append-nil rows in
    let fourth : with_values id how CommandLine (i.value ∷ []) rows ≡ rows ++ row_of_item i ∷ [] = no_row id (more_values CommandLine (i.value ∷ [])) (row_of_item i ∷ []) rows none in
    first ∙ second ∙ ap standing (ap (λ (rs : List Row). with_values id how CommandLine (i.value ∷ []) rs) third ∙ fourth)

-- the fault of one word
fault_by : List Row → Text → Option (Text × Option Text) → Kinds
fault_by rows word p =
    or_else (flag_word_fault rules false p word (standing rows).held)
    (step_fault top 1 (long_or_other rules idle word p (standing rows).held).0 (long_or_other rules idle word p (standing rows).held).1)

long_fault_by : List Row → Text → Text → Option Rule → Kinds
long_fault_by rows word v found =
    or_else (long_fault rules false found (Some v) (standing rows).held)
    (step_fault top 1 (after_flag rules idle word (long_met rules found (Some v) (standing rows).held).0 (long_met rules found (Some v) (standing rows).held).1).0
    (after_flag rules idle word (long_met rules found (Some v) (standing rows).held).0 (long_met rules found (Some v) (standing rows).held).1).1)

conflict : Bool → Kinds
conflict again = cond again (kind.ArgumentConflict ∷ []) []

used_fault : (rows : List Row) (i : Item) (again : Bool) → has_row (i.letter ∷ []) rows ≡ again
    → long_fault_by rows (form_of i) i.value (Some (rule i.letter)) ≡ conflict again
unfolding long_fault_by conflict
used_fault rows i true there = rw there refl
used_fault rows i false there = rw there refl

one_fault : (rows : List Row) (i : Item) (again : Bool) → is_one_of letters i.letter ≡ true → has_row (i.letter ∷ []) rows ≡ again
    → turn_fault top [] (standing rows) (form_of i) ≡ conflict again
unfolding fault_by long_fault_by
one_fault rows i again known there =
    let word : Text = form_of i in
    let first : fault_by rows word (long_of word) ≡ fault_by rows word (Some (i.letter ∷ [], Some i.value)) =
    ap (λ (p : Option (Text × Option Text)). fault_by rows word p) (long_of-form i.letter i.value (known_is_no_equals i.letter known)) in
    let second : long_fault_by rows word i.value (arg_by_long rules (i.letter ∷ [])) ≡ long_fault_by rows word i.value (Some (rule i.letter)) =
    ap (λ (a : Option Rule). long_fault_by rows word i.value a) (by_long letters i.letter known) in
    first ∙ second ∙ used_fault rows i again there

-- ---- all the words

abbrev forms : List Item → List Text
forms items = map form_of items

abbrev rows_of_items : List Item → List Row
rows_of_items items = map row_of_item items

-- the walk takes an item more
one_more : (before : List Item) (i : Item) → rows_of_items before ++ row_of_item i ∷ [] ≡ rows_of_items (before ++ i ∷ [])
one_more before i = sym (map-append row_of_item before (i ∷ []))

walk_over : (before items : List Item) → AreKnown items → all_new before items ≡ true
    → fold (walked rules []) (standing (rows_of_items before)) (forms items) ≡ standing (rows_of_items (before ++ items))
walk_over before [] known new = ap (λ (is : List Item). standing (rows_of_items is)) (sym (append-nil before))
walk_over before (i ∷ items) known new =
    let seen = and_parts (is_known i) (list_all is_known items) known in
    let parts = and_parts (not (has_letter i.letter before)) (all_new (before ++ i ∷ []) items) new in
    let none : has_row (i.letter ∷ []) (rows_of_items before) ≡ false = has_row-items i.letter before ∙ not_true (has_letter i.letter before) parts.0 in
    ap (λ (w : Walk). fold (walked rules []) w (forms items)) (one_walked (rows_of_items before) i seen.0 none ∙ ap standing (one_more before i))
    ∙ walk_over (before ++ i ∷ []) items seen.1 parts.1
    ∙ ap (λ (is : List Item). standing (rows_of_items is)) (append_assoc before (i ∷ []) items)

-- the fault of the walk
fault_over : (before items : List Item) → AreKnown items → walk_fault top [] (standing (rows_of_items before)) (forms items) ≡ conflict (not (all_new before items))
unfolding walk_fault conflict
fault_over before [] known = refl
fault_over before (i ∷ items) known = go (has_letter i.letter before) refl (fault_over (before ++ i ∷ []) items (and_parts (is_known i) (list_all is_known items) known).1)
  where
    seen : is_known i ≡ true
    seen = (and_parts (is_known i) (list_all is_known items) known).0

    go : (b : Bool) → has_letter i.letter before ≡ b
        → walk_fault top [] (standing (rows_of_items (before ++ i ∷ []))) (forms items) ≡ conflict (not (all_new (before ++ i ∷ []) items))
        → walk_fault top [] (standing (rows_of_items before)) (forms (i ∷ items)) ≡ conflict (not (all_new before (i ∷ items)))
    go true is more =
        ap (λ (k : Kinds). or_else k (walk_fault top [] (walked rules [] (standing (rows_of_items before)) (form_of i)) (forms items)))
        (one_fault (rows_of_items before) i true seen (has_row-items i.letter before ∙ is))
        ∙ rw is refl
    go false is more =
        ap (λ (k : Kinds). or_else k (walk_fault top [] (walked rules [] (standing (rows_of_items before)) (form_of i)) (forms items)))
        (one_fault (rows_of_items before) i false seen (has_row-items i.letter before ∙ is))
        ∙ ap (λ (w : Walk). walk_fault top [] w (forms items)) (one_walked (rows_of_items before) i seen (has_row-items i.letter before ∙ is) ∙ ap standing (one_more before i))
        ∙ more ∙ rw is refl

-- ---- behind the words: no option has a default, and none is required

same_both : {A : Type 0} (b : Bool) (x : A) → cond b x x ≡ x
same_both true x = refl
same_both false x = refl

no_defaults : (rows : List Row) (cs : List ℕ) → fold with_default rows (map rule cs) ≡ rows
no_defaults rows [] = refl
no_defaults rows (c ∷ cs) =
    ap (λ (rs : List Row). fold with_default rs (map rule cs)) (same_both (has_row (c ∷ []) rows) rows) ∙ no_defaults rows cs

no_default_faults : (rows : List Row) (cs : List ℕ) → defaults_fault rows (map rule cs) ≡ []
unfolding defaults_fault
no_default_faults rows [] = refl
no_default_faults rows (c ∷ cs) =
    let none : default_fault rows (rule c) ≡ [] = rw (or_true (has_row (c ∷ []) rows)) refl in
    ap₂ (λ (k : Kinds) (rs : List Row). or_else k (defaults_fault rs (map rule cs))) none (same_both (has_row (c ∷ []) rows) rows)
    ∙ no_default_faults rows cs

abbrev after_walk : Kinds → Walk → Kinds
after_walk k w =
    or_else k (or_else (entered_fault (built tool) w.stopped)
    (or_else (settle_fault rules false w.held)
    (or_else (defaults_fault (settled rules w.held).rows rules)
    (check_fault top (finished rules w.held) (is_some (entered (built tool) w.stopped))))))

by_walk : (words : List Text) → fault_of tool words ≡ after_walk (walk_fault top [] (walk_from nothing_held) words) (walk rules [] nothing_held words)
by_walk words = refl

after_items : (items : List Item) → after_walk [] (standing (rows_of_items items)) ≡ []
after_items items = ap (λ (k : Kinds). or_else k (check_fault top (finished rules (standing (rows_of_items items)).held) false)) (no_default_faults (rows_of_items items) letters)

pub fault-once : (items : List Item) → AreKnown items → all_new [] items ≡ true → fault_of tool (forms items) ≡ []
unfolding conflict
fault-once items known new =
    by_walk (forms items)
    ∙ ap₂ after_walk (fault_over [] items known ∙ ap (λ (b : Bool). conflict (not b)) new) (walk_over [] items known new)
    ∙ after_items items

pub fault-twice : (items : List Item) → AreKnown items → all_new [] items ≡ false → fault_of tool (forms items) ≡ kind.ArgumentConflict ∷ []
unfolding conflict
fault-twice items known twice =
    by_walk (forms items)
    ∙ ap (λ (k : Kinds). after_walk k (walk rules [] nothing_held (forms items))) (fault_over [] items known ∙ ap (λ (b : Bool). conflict (not b)) twice)

pub matches-items : (items : List Item) → AreKnown items → all_new [] items ≡ true → matches_of tool (forms items) ≡ rows_of_items items
matches-items items known new =
    ap (λ (w : Walk). finished rules w.held) (walk_over [] items known new) ∙ no_defaults (rows_of_items items) letters

pub first_of-items : (c : ℕ) (items : List Item) → first_of (c ∷ []) (rows_of_items items) ≡ value_of c items
first_of-items c [] = refl
first_of-items c (i ∷ items) = go (i.letter == c) refl (first_of-items c items)
  where
    go : (b : Bool) → (i.letter == c) ≡ b → first_of (c ∷ []) (rows_of_items items) ≡ value_of c items
        → first_of (c ∷ []) (rows_of_items (i ∷ items)) ≡ value_of c (i ∷ items)
    go true e more = rw e refl
    go false e more = rw e more

-- ---- what a parse tells

pub once_told : (app : App) (words : List Text) (items : List Item) → app ≡ tool → AreForms items words → fault_of app words ≡ [] → all_new [] items ≡ true
once_told app words items is are none = go (all_new [] items) refl
  where
    go : (b : Bool) → all_new [] items ≡ b → b ≡ true
    go true new = refl
    go false new =
        let some : fault_of app words ≡ kind.ArgumentConflict ∷ [] = ap₂ fault_of is are.same ∙ fault-twice items are.known new in
        let bad : kind.ArgumentConflict ∷ [] ≡ [] = sym some ∙ none in
        cc

among_none : (P : Type 0) (k : ErrorKind) (ks : Kinds) → ks ≡ [] → P ⊎ IsAmong k ks → (P → ⊥) → ⊥
among_none P k ks none (inl p) other = other p
among_none P k ks none (inr among) other = subst (λ (xs : Kinds). IsAmong k xs) none among

pub twice_told : (app : App) (words : List Text) (items : List Item) (k : ErrorKind) → app ≡ tool → AreForms items words
    → (k ≡ kind.OutOfMemory) ⊎ IsAmong k (fault_of app words) → (k ≡ kind.OutOfMemory → ⊥) → all_new [] items ≡ false
twice_told app words items k is are among other = go (all_new [] items) refl
  where
    go : (b : Bool) → all_new [] items ≡ b → b ≡ false
    go false new = refl
    go true new = absurd (among_none (k ≡ kind.OutOfMemory) k (fault_of app words) (ap₂ fault_of is are.same ∙ fault-once items are.known new) among other)

pub values_told : (app : App) (words : List Text) (items : List Item) (m : ArgMatches) (c : ℕ) → app ≡ tool → AreForms items words → all_new [] items ≡ true
    → HasMatchesOf app words m → first_value (found_of m) (c ∷ []) ≡ value_of c items
values_told app words items m c is are new has =
    first_value-rows (found_of m) (c ∷ []) ∙ ap (λ (rows : List Row). first_of (c ∷ []) rows)
    ((has (ap is_simple is ∙ tool_simple)).0 ∙ ap₂ matches_of is are.same ∙ matches-items items are.known new)
    ∙ first_of-items c items
