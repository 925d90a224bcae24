-- How far a text goes in the addresses and numbers of portals.
use Rattle.std.proofs.Common.{◌≡◌, ◌<◌, ◌≤◌, ◌+◌, ◌-◌, ◌^◌, ℕ, suc, zero, List, [], ◌∷◌, ◌++◌, length, take, subst, sym, ap, refl, arith, length-append, true, false, ltb, get_or}
use Rattle.std.specs.Fmt.{decimal}
use Rattle.std.proofs.lemmas.Bool.{ltb-true}
use Rattle.std.proofs.lemmas.Bool.Decides.{nat_tests}
use Rattle.std.proofs.lemmas.Fmt.{decimal_nonempty}
use Rattle.std.proofs.lemmas.List.{length-take-le}
use Rattle.oi_base.specs.Decimal.{IsNumber}
use Rattle.oi_base.specs.Fronts.{IsPlace}
use Rattle.oi_names.specs.Grammars.{IsJoined}
use Rattle.oi_names.specs.Portals.{IsDotted, IsEmpty}
use Rattle.oi_names.specs.Reaches.{IsReach}
use Rattle.oi_names.specs.declared.reach.Reach.{Reach}
use Rattle.oi_names.proofs.Alphabets.{apart_octet}
use Rattle.oi_names.proofs.Places.{joined_at, joined_here}

lt_test : (a b : ℕ) → a < b → ltb a b ≡ true
lt_test a b h = grind (arith, nat_tests)

number_some : (low high p : ℕ) (text : List ℕ) → high < 2 ^ 64 → p ≤ length text → IsNumber low high (take p text) → 0 < p
number_some low high p text small within (n, from, to, is) = omega (arith, ap length is, length-take-le p text within, decimal_nonempty n (omega arith))

pub number_reaches : (low high : ℕ) → high < 2 ^ 64 → (text : List ℕ) (p : ℕ) → IsPlace (IsNumber low high) text p → (0 < p → IsNumber low high (take p text)) → IsReach (IsNumber low high) text record { place = p; whole = ltb 0 p }
number_reaches low high small text p is word = record { at = is; word = λ e. word (ltb-true 0 p e); only = λ w. lt_test 0 p (number_some low high p text small is.within w) }

pub empty_reach : (text : List ℕ) → IsReach IsEmpty text record { place = 0; whole = true }
empty_reach text = record {
  at = record { within = omega arith; begins = ([], refl); longest = λ n past within b. omega (arith, ap length b.1, length-append (take n text) b.0, length-take-le n text within) };
  word = λ e. refl;
  only = λ e. refl;
}

-- some word of numbers and dots
pub dotted_word : (dots : ℕ) → (w : List ℕ) × IsDotted dots w
dotted_word zero = (decimal 0, (0, omega arith, omega arith, refl))
dotted_word (suc dots) = let more = dotted_word dots in (decimal 0 ++ 46 ∷ more.0, (decimal 0, more.0, refl, (0, omega arith, omega arith, refl), more.1))

dotted_more : (dots : ℕ) (text : List ℕ) (r : Reach) → 0 < dots → IsReach (IsJoined (IsNumber 0 255) 46 (IsDotted (dots - 1))) text r → IsReach (IsDotted dots) text r
dotted_more zero text r some is = absurd (omega arith)
dotted_more (suc dots) text r some is =
    let less : suc dots - 1 ≡ dots = omega arith in
    subst (λ (n : ℕ). IsReach (IsJoined (IsNumber 0 255) 46 (IsDotted n)) text r) less is

pub dotted_past : (dots : ℕ) (text rest : List ℕ) (a b : Reach) → 0 < dots → IsReach (IsNumber 0 255) text a → a.whole ≡ true → text ≡ take a.place text ++ 46 ∷ rest → IsReach (IsDotted (dots - 1)) rest b
    → IsReach (IsDotted dots) text record { place = a.place + 1 + b.place; whole = b.whole }
dotted_past dots text rest a b some is whole e more =
    dotted_more dots text _ some (joined_at (IsNumber 0 255) (IsDotted (dots - 1)) 46 apart_octet text rest a b is whole e more (a.place + 1 + b.place) refl)

pub dotted_here : (dots : ℕ) (text : List ℕ) (a : Reach) → 0 < dots → IsReach (IsNumber 0 255) text a → (a.whole ≡ true → a.place < length text → get_or text a.place 0 ≡ 46 → ⊥) → IsReach (IsDotted dots) text record { place = a.place; whole = false }
dotted_here dots text a some is none =
    let word = dotted_word (dots - 1) in
    dotted_more dots text _ some (joined_here (IsNumber 0 255) (IsDotted (dots - 1)) 46 apart_octet word.0 word.1 text a is none)

pub dotted_alone : (dots : ℕ) (text : List ℕ) (a : Reach) → dots ≡ 0 → IsReach (IsNumber 0 255) text a → IsReach (IsDotted dots) text a
dotted_alone dots text a none is = subst (λ (n : ℕ). IsReach (IsDotted n) text a) (sym none) is
