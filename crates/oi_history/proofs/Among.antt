-- Tags and data that lie in two pieces.
use Rattle.std.proofs.Common.{◌≡◌, ◌∙◌, ◌==◌, ◌||◌, ◌&&◌, ℕ, Bool, true, false, List, [], ◌∷◌, ◌++◌, length, ap, sym, refl}
use Rattle.std.proofs.lemmas.List.FromFn.{length-map-range_with_len}
use Rattle.oi_base.specs.TagLayout.{command_tag}
use Rattle.oi_base.specs.declared.tag.Tag.{Tag}
use Rattle.oi_history.specs.Judging.{are_over, is_over}
use Rattle.oi_history.specs.Tags.{fresh_tags}
use Rattle.oi_history.specs.declared.owed.Queued.{Queued}

either : (a b c : Bool) → (a || (b || c)) ≡ ((a || b) || c)
either true b c = refl
either false b c = refl

both : (a b c : Bool) → (a && (b && c)) ≡ ((a && b) && c)
both true b c = refl
both false b c = refl

over-append : (xs ys : List Tag) (tag : ℕ) → is_over (xs ++ ys) tag ≡ (is_over xs tag || is_over ys tag)
over-append [] ys tag = refl
over-append (x ∷ xs) ys tag = ap (λ (b : Bool). tag == x.0 || b) (over-append xs ys tag) ∙ either (tag == x.0) (is_over xs tag) (is_over ys tag)

are-append : (ended : List Tag) (xs ys : List Queued) → are_over ended (xs ++ ys) ≡ (are_over ended xs && are_over ended ys)
are-append ended [] ys = refl
are-append ended (x ∷ xs) ys = ap (λ (b : Bool). is_over ended x.tag.0 && b) (are-append ended xs ys) ∙ both (is_over ended x.tag.0) (are_over ended xs) (are_over ended ys)

pub among-first : (xs ys all : List Tag) (tag : ℕ) (b : Bool) → xs ++ ys ≡ all → b ≡ is_over xs tag → b ≡ true → b ≡ is_over all tag
among-first xs ys all tag b is has holds = holds ∙ (ap (λ (a : Bool). a || is_over ys tag) (sym holds ∙ has) ∙ (sym (over-append xs ys tag) ∙ ap (λ (z : List Tag). is_over z tag) is))

pub among-later : (xs ys all : List Tag) (tag : ℕ) (b r : Bool) → xs ++ ys ≡ all → b ≡ is_over xs tag → b ≡ false → r ≡ is_over ys tag → r ≡ is_over all tag
among-later xs ys all tag b r is has fails later = later ∙ (ap (λ (a : Bool). a || is_over ys tag) (sym fails ∙ has) ∙ (sym (over-append xs ys tag) ∙ ap (λ (z : List Tag). is_over z tag) is))

pub all-later : (ended : List Tag) (xs ys all : List Queued) (b r : Bool) → xs ++ ys ≡ all → b ≡ are_over ended xs → b ≡ true → r ≡ are_over ended ys → r ≡ are_over ended all
all-later ended xs ys all b r is has holds later = later ∙ (ap (λ (a : Bool). a && are_over ended ys) (sym holds ∙ has) ∙ (sym (are-append ended xs ys) ∙ ap (are_over ended) is))

pub all-first : (ended : List Tag) (xs ys all : List Queued) (b : Bool) → xs ++ ys ≡ all → b ≡ are_over ended xs → b ≡ false → b ≡ are_over ended all
all-first ended xs ys all b is has fails = fails ∙ (ap (λ (a : Bool). a && are_over ended ys) (sym fails ∙ has) ∙ (sym (are-append ended xs ys) ∙ ap (are_over ended) is))

abbrev tag_at : ℕ → ℕ → Tag
tag_at age i = record { 0 = command_tag age i }

pub length-fresh : (age count : ℕ) → length (fresh_tags age count) ≡ count
length-fresh age count = length-map-range_with_len (tag_at age) 0 count
