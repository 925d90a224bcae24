-- What the fronts of words come to.
use Rattle.std.proofs.Common.{◌≡◌, ◌∙◌, ◌&&◌, ◌||◌, ◌++◌, ◌==◌, ℕ, Bool, true, false, cond, List, [], ◌∷◌, Option, Some, None, Result, Ok, Err, length, drop, get_or, zero, suc, ◌<◌, ◌+◌, map, refl, sym, ap, ap₂, append_assoc, append-nil, true≢false, eqb-true, subst, arith}
use Rattle.std.specs.List.{list_any, list_all}
use Rattle.std.specs.Bool.{if◌then◌else◌}
use Rattle.std.proofs.lemmas.List.{map-append}
use Rattle.oi_words.specs.Parses.{AreForms, AreKnown, IsStep, IsWordRead, MayWait, is_known}
use Rattle.clap.specs.Simple.{App, with_rule}
use Rattle.oi_words.specs.Tool.{form_of, letters, option_rule, with_options}
use Rattle.oi_words.specs.Words.{Front, bad, ended, wants, led, Item, Text, ahead, is_flag, is_one_of, is_option, item, items_after, items_from, items_of, letters_front, valued, word_front}
use Rattle.oi_words.specs.declared.fault.WordsFault.{WordsFault}
use Rattle.oi_words.specs.declared.fault.WordsFault.TheVariants.{Invalid, Memory}

-- a letter of one list is one of a longer list
any_more : (xs ys : List ℕ) (c : ℕ) → is_one_of xs c ≡ true → is_one_of (xs ++ ys) c ≡ true
any_more [] ys c e = absurd (true≢false (sym e))
any_more (x ∷ xs) ys c e = go (x == c) refl (any_more xs ys c)
  where
    go : (b : Bool) → (x == c) ≡ b → (is_one_of xs c ≡ true → is_one_of (xs ++ ys) c ≡ true) → is_one_of (x ∷ (xs ++ ys)) c ≡ true
    go true is more = rw is refl
    go false is more = rw is (more (rw is at e))

any_behind : (xs ys : List ℕ) (c : ℕ) → is_one_of ys c ≡ true → is_one_of (xs ++ ys) c ≡ true
any_behind [] ys c e = e
any_behind (x ∷ xs) ys c e = go (x == c) refl (any_behind xs ys c e)
  where
    go : (b : Bool) → (x == c) ≡ b → is_one_of (xs ++ ys) c ≡ true → is_one_of (x ∷ (xs ++ ys)) c ≡ true
    go true is more = rw is refl
    go false is more = rw is more

pub option_known : (c : ℕ) → is_option c ≡ true → is_one_of letters c ≡ true
option_known c e = any_more (109 ∷ 116 ∷ 112 ∷ 84 ∷ 73 ∷ 111 ∷ 110 ∷ 118 ∷ []) (108 ∷ 117 ∷ []) c e

pub flag_known : (c : ℕ) → is_flag c ≡ true → is_one_of letters c ≡ true
flag_known c e = any_behind (109 ∷ 116 ∷ 112 ∷ 84 ∷ 73 ∷ 111 ∷ 110 ∷ 118 ∷ []) (108 ∷ 117 ∷ []) c e

known_more : (c : ℕ) (v : Text) (items : List Item) → is_one_of letters c ≡ true → AreKnown items → AreKnown (item c v ∷ items)
known_more c v items known all = rw known all

pub known_join : (before items : List Item) → AreKnown before → AreKnown items → AreKnown (before ++ items)
known_join [] items known more = more
known_join (i ∷ before) items known more = go (is_known i) refl (known_join before items)
  where
    go : (b : Bool) → is_known i ≡ b → (AreKnown before → AreKnown items → AreKnown (before ++ items)) → AreKnown (i ∷ (before ++ items))
    go true e join = rw e (join (rw e at known) more)
    go false e join = absurd (true≢false (sym (rw e at known)))

-- an option with the rest of its word
pub option_read : (c : ℕ) (rest : Text) (old : List Text) → is_option c ≡ true → (rest ≡ [] → ⊥)
    → IsWordRead (if is_option c then valued c rest else bad) (Ok None) old (old ++ form_of (item c rest) ∷ [])
option_read c [] old is some = absurd (some refl)
option_read c (x ∷ xs) old is some = (item c (x ∷ xs) ∷ [], rw is refl, known_more c (x ∷ xs) [] (option_known c is) refl, refl)

-- an option without its value
pub option_waits : (c : ℕ) (rest : Text) (old : List Text) → is_option c ≡ true → rest ≡ []
    → IsWordRead (if is_option c then valued c rest else bad) (Ok (Some c)) old old
option_waits c [] old is none = ([], rw is refl, refl, sym (append-nil old), option_known c is)
option_waits c (x ∷ xs) old is none = cc

-- a flag before what follows it
pub flag_read : (c : ℕ) (rest : Text) → is_flag c ≡ true → (r : Result (Option ℕ) WordsFault) (old new : List Text)
    → IsWordRead (letters_front rest) r (old ++ form_of (item c []) ∷ []) new → IsWordRead (letters_front (c ∷ rest)) r old new
flag_read c rest is (Ok None) old new (items, front, known, more) = (
  item c [] ∷ items,
  rw is (ap (λ (f : Front). led (item c [] ∷ []) f) front),
  known_more c [] items (flag_known c is) known,
  more ∙ append_assoc old (form_of (item c []) ∷ []) (map form_of items),
)
flag_read c rest is (Ok (Some x)) old new (items, front, known, more, waits) = (
  item c [] ∷ items,
  rw is (ap (λ (f : Front). led (item c [] ∷ []) f) front),
  known_more c [] items (flag_known c is) known,
  more ∙ append_assoc old (form_of (item c []) ∷ []) (map form_of items),
  waits,
)
flag_read c rest is (Err Invalid) old new front = rw is (ap (λ (f : Front). led (item c [] ∷ []) f) front)
flag_read c rest is (Err Memory) old new front = tt

-- an option is no flag
pub option_front : (c : ℕ) (rest : Text) → is_flag c ≡ false → letters_front (c ∷ rest) ≡ (if is_option c then valued c rest else bad)
option_front c rest is = rw is refl

-- a word behind those before it
pub ahead-ahead : (before items : List Item) (o : Option (List Item)) → ahead before (ahead items o) ≡ ahead (before ++ items) o
ahead-ahead before items None = refl
ahead-ahead before items (Some more) = ap (λ (is : List Item). Some is) (sym (append_assoc before items more))

pub word_step : (word : Text) (r : Result (Option ℕ) WordsFault) (old new : List Text) → IsWordRead (word_front word) r old new → IsStep None word r old new
word_step word (Ok None) old new (items, front, known, more) = (items, known, more, tt, λ ws. rw front refl)
word_step word (Ok (Some c)) old new (items, front, known, more, waits) = (items, known, more, waits, λ ws. rw front refl)
word_step word (Err Invalid) old new front = λ ws. rw front refl
word_step word (Err Memory) old new front = tt

-- nothing is left
pub done_read : (rest : Text) (old : List Text) → (length rest == 0) ≡ true → IsWordRead (letters_front rest) (Ok None) old old
done_read [] old none = ([], refl, refl, sym (append-nil old))
done_read (x ∷ xs) old none = absurd (omega (arith, eqb-true _ _ none))

-- an option that waited has its value
pub value_step : (c : ℕ) (word : Text) (old new : List Text) → is_one_of letters c ≡ true → new ≡ old ++ form_of (item c word) ∷ [] → IsStep (Some c) word (Ok None) old new
value_step c word old new known more = (item c word ∷ [], known_more c word [] known refl, more, tt, λ ws. refl)

-- the words before the place were taken in, and an option may wait for its value
pub record IsTaken (words : List Text) (at : ℕ) (forms : List Text) (waiting : Option ℕ) : Type 0 where
  pub before : List Item
  pub forms_are : AreForms before forms
  pub waits : MayWait waiting
  pub whole : items_of words ≡ ahead before (items_from waiting (drop at words))

ahead-none : (o : Option (List Item)) → ahead [] o ≡ o
ahead-none None = refl
ahead-none (Some items) = refl

pub none_taken : (words : List Text) → IsTaken words 0 [] None
none_taken words = record {
  before = [];
  forms_are = record { known = refl; same = refl };
  waits = tt;
  whole = sym (ahead-none (items_of words));
}

-- one word more
pub step_on : (words : List Text) (at : ℕ) (forms new : List Text) (waiting next : Option ℕ) (word : Text) → drop at words ≡ word ∷ drop (at + 1) words
    → IsTaken words at forms waiting → IsStep waiting word (Ok next) forms new → IsTaken words (at + 1) new next
step_on words at forms new waiting next word here taken (items, known, more, waits, follow) = record {
  before = taken.before ++ items;
  forms_are = record {
    known = known_join taken.before items taken.forms_are.known known;
    same = more ∙ ap (λ (xs : List Text). xs ++ map form_of items) taken.forms_are.same ∙ sym (map-append form_of taken.before items);
  };
  waits = waits;
  whole = taken.whole ∙ ap (λ (xs : List Text). ahead taken.before (items_from waiting xs)) here
      ∙ ap (λ (o : Option (List Item)). ahead taken.before o) (follow (drop (at + 1) words))
      ∙ ahead-ahead taken.before items (items_from next (drop (at + 1) words));
}

-- a word that is none of the grammar
pub step_bad : (words : List Text) (at : ℕ) (forms new : List Text) (waiting : Option ℕ) (word : Text) → drop at words ≡ word ∷ drop (at + 1) words
    → IsTaken words at forms waiting → IsStep waiting word (Err Invalid) forms new → items_of words ≡ None
step_bad words at forms new waiting word here taken refused =
    taken.whole ∙ ap (λ (xs : List Text). ahead taken.before (items_from waiting xs)) here ∙ ap (λ (o : Option (List Item)). ahead taken.before o) (refused (drop (at + 1) words))

-- behind the last word
pub all_taken : (words : List Text) (at : ℕ) (forms : List Text) → drop at words ≡ [] → IsTaken words at forms None
    → (items : List Item) × (items_of words ≡ Some items) × AreForms items forms
all_taken words at forms end taken = (
  taken.before,
  taken.whole ∙ ap (λ (xs : List Text). ahead taken.before (items_from None xs)) end ∙ ap (λ (is : List Item). Some is) (append-nil taken.before),
  taken.forms_are,
)

pub still_waits : (words : List Text) (at : ℕ) (forms : List Text) (c : ℕ) → drop at words ≡ [] → IsTaken words at forms (Some c) → items_of words ≡ None
still_waits words at forms c end taken = taken.whole ∙ ap (λ (xs : List Text). ahead taken.before (items_from (Some c) xs)) end

drop_here : {X Y : Type 0} (f : X → Y) (xs : List X) (i : ℕ) (x : X) → i < length xs → x ≡ get_or xs i x → drop i (map f xs) ≡ f x ∷ drop (suc i) (map f xs)
drop_here f [] i x lt at = absurd (omega arith)
drop_here f (y ∷ ys) zero x lt at = ap (λ z. f z ∷ map f ys) (sym at)
drop_here f (y ∷ ys) (suc i) x lt at = drop_here f ys i x (omega arith) at

-- the word at a place is the first of those from there on
pub drop_at : {X Y : Type 0} (f : X → Y) (xs : List X) (i : ℕ) (x : X) → i < length xs → x ≡ get_or xs i x → drop i (map f xs) ≡ f x ∷ drop (i + 1) (map f xs)
drop_at f xs i x lt at =
    let next : suc i ≡ i + 1 = omega arith in
    drop_here f xs i x lt at ∙ ap (λ n. f x ∷ drop n (map f xs)) next

drop_get : {X Y : Type 0} (f : X → Y) (xs : List X) (i : ℕ) (d : X) → i < length xs → drop i (map f xs) ≡ f (get_or xs i d) ∷ drop (suc i) (map f xs)
drop_get f [] i d lt = absurd (omega arith)
drop_get f (y ∷ ys) zero d lt = refl
drop_get f (y ∷ ys) (suc i) d lt = drop_get f ys i d (omega arith)

-- one option more
pub options_on : {X : Type 0} (name : X → Text) (xs : List X) (i : ℕ) (d : X) (app new : App) → i < length xs → new ≡ with_rule app (option_rule (name (get_or xs i d)))
    → with_options new (drop (i + 1) (map name xs)) ≡ with_options app (drop i (map name xs))
options_on name xs i d app new lt is =
    let next : i + 1 ≡ suc i = omega arith in
    ap₂ (λ (a : App) (n : ℕ). with_options a (drop n (map name xs))) is next ∙ sym (ap (λ (ws : List Text). with_options app ws) (drop_get name xs i d lt))
