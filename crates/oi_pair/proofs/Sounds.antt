-- The rule of a pair's table: what follows from it, and when a step is allowed.
use Rattle.std.proofs.Common.{◌≡◌, ◌≢◌, ◌⊎◌, ◌≤◌, ◌<◌, nat_lt, ◌||◌, ℕ, List, [], ◌++◌, set, Some, Bool, true, false, refl, sym, ap, ◌∙◌, subst, ⊎_elim, inl, inr, arith, length-append}
use Rattle.std.specs.Prelude.{slice_index}
use mathlib.Core.Option.{none, some}
use mathlib.Core.Logic.{dite}
use native.Mathlib.Decide.{dec_lt}
use lib.ListN.{get_elem?}
use Rattle.atomic_table.specs.Table.{State, Me, Step, step, Act, stepped, Valid, carried_after, Allows}
use Rattle.atomic_table.proofs.Lists.{at_set}
use Rattle.oi_base.specs.Counts.{bit}
use Rattle.oi_pair.specs.declared.view.View.{View}
use Rattle.oi_pair.specs.Lists.{Has, numbers_of, times}
use Rattle.oi_pair.specs.Views.{drawn_after, IsWhole}
use Rattle.oi_pair.specs.Kept.{Slot, table_of, total, Joint, Fits, IsPlaced, Sound, Keep, Kept}
use Rattle.oi_pair.proofs.Lists.{off, bit_small, bit_below, bit_past, bit_same, bit_apart, total_set, total_one, total_two, total_alone, times_append, times_end, has_times, times_has, has_of, numbers_length, pigeons}
use Rattle.oi_pair.proofs.Places.{tied_keep}

module _ {E X : Type 0} where
  -- each seat's view fits after one has changed
  pub fits_set : (p : Joint E X) (views : List (View E X)) (id : ℕ) (w : View E X)
      → ((j : ℕ) (u : View E X) → j ≢ id → get_elem? views j ≡ some u → Fits p u) → Fits p w
      → (j : ℕ) (u : View E X) → get_elem? (set views id w) j ≡ some u → Fits p u
  fits_set p views id w others mine j u e =
      ⊎_elim
      (λ (x : (j ≡ id) × (w ≡ u)). subst (Fits p) x.1 mine)
      (λ (x : (j ≢ id) × (get_elem? views j ≡ some u)). others j u x.0 x.1)
      (at_set views id j w u e)

  -- a change of one view in which its numbers stay keeps the account of numbers
  pub once_keep : (n : ℕ) (views : List (View E X)) (id : ℕ) (v w : View E X) → get_elem? views id ≡ some v → w.numbers ≡ v.numbers
      → ((k : ℕ) → total (λ (v : View E X). times k v.numbers) views ≡ bit (nat_lt k n)) → (k : ℕ) → total (λ (v : View E X). times k v.numbers) (set views id w) ≡ bit (nat_lt k n)
  once_keep n views id v w at same h k =
      let t = total_set (λ (x : View E X). times k x.numbers) views id v w at in
      let e = ap (times k) same in
      let o = h k in
      omega arith

  pub parts_keep : (views : List (View E X)) (id : ℕ) (v w : View E X) → get_elem? views id ≡ some v → w.parts ≡ v.parts
      → total (λ (v : View E X). v.parts) views ≡ 65536 → total (λ (v : View E X). v.parts) (set views id w) ≡ 65536
  parts_keep views id v w at same h = let t = total_set (λ (x : View E X). x.parts) views id v w at in omega arith

  -- a number that a seat carries is below the counter
  pub own_below : (ahead behind : Bool) (p : Joint E X) (views : List (View E X)) (id : ℕ) (v : View E X) → Sound ahead behind p views → get_elem? views id ≡ some v → (k : ℕ) → 0 < times k v.numbers → k < p.counter
  own_below ahead behind p views id v h at k has =
      let t = total_one (λ (x : View E X). times k x.numbers) views id v at in
      let o = h.once k in
      dite (dec_lt k p.counter) (λ below. below) (λ past. absurd (let b = bit_past k p.counter (omega arith) in omega arith))

  -- no number is carried by two seats
  pub carried_once : (ahead behind : Bool) (p : Joint E X) (views : List (View E X)) (i j : ℕ) (v u : View E X) → Sound ahead behind p views → i ≢ j → get_elem? views i ≡ some v → get_elem? views j ≡ some u
      → (k : ℕ) → 0 < times k v.numbers → 0 < times k u.numbers → ⊥
  carried_once ahead behind p views i j v u h apart at there k a b =
      let t = total_two (λ (x : View E X). times k x.numbers) views i j v u apart at there in
      let o = h.once k in
      let s = bit_small (nat_lt k p.counter) in
      omega arith

  -- where one seat has all parts and no number waits, its numbers are those of the two lists
  pub whole_of : (ahead behind : Bool) (p : Joint E X) (views : List (View E X)) (id : ℕ) (v : View E X) → Sound ahead behind p views → get_elem? views id ≡ some v → v.parts ≡ 65536 → p.forward.drawn ≡ [] → p.back.drawn ≡ []
      → IsWhole v.numbers p.forward.list p.back.list
  whole_of ahead behind p views id v h at all no_forward no_back =
      let once : (k : ℕ) → times k v.numbers ≡ bit (nat_lt k p.counter) = λ k.
      sym (total_alone (λ (x : View E X). x.parts) (λ (x : View E X). times k x.numbers) views id v (λ j u e none. ap (times k) ((h.each j u e).idle none).0) at (h.parts ∙ sym all)) ∙ h.once k in
      let carried : (k : ℕ) → k < p.counter → Has v.numbers k = λ k below. times_has v.numbers k (let o = once k in let b = bit_below k p.counter below in omega arith) in record {
        counter = p.counter;
        once = once;
        listed = λ k has. has_of (numbers_of p.forward.list) (numbers_of p.back.list) k
            (let placed : IsPlaced p k = h.placed k (own_below ahead behind p views id v h at k (has_times v.numbers k has)) in
            let a = ap (times k) no_forward in
            let b = ap (times k) no_back in
            omega arith);
        in_forward = λ k has. carried k (h.forward.below k has);
        in_back = λ k has. carried k (h.back.below k has);
        alike = h.agree;
      }

  -- the counter is small, since each number below it is placed
  pub counter_small : (ahead behind : Bool) (p : Joint E X) (views : List (View E X)) → Sound ahead behind p views → p.counter ≤ 4000000
  counter_small ahead behind p views h =
      let forward = numbers_of p.forward.list ++ p.forward.drawn in
      let back = numbers_of p.back.list ++ p.back.drawn in
      let all = pigeons p.counter (forward ++ back) (λ k below.
      let placed : IsPlaced p k = h.placed k below in
      let a = times_append k forward back in
      let b = times_append k (numbers_of p.forward.list) p.forward.drawn in
      let c = times_append k (numbers_of p.back.list) p.back.drawn in
      omega arith) in
      let x = h.forward.few in
      let y = h.back.few in
      let a = length-append forward back in
      let b = length-append (numbers_of p.forward.list) p.forward.drawn in
      let c = length-append (numbers_of p.back.list) p.back.drawn in
      let d = numbers_length p.forward.list in
      let e = numbers_length p.back.list in
      omega arith

pub drawn_more : (h : Bool) (ns : List ℕ) (n k : ℕ) → times k ns ≤ times k (drawn_after h ns n)
drawn_more true ns n k = let t = times_end k ns n in omega arith
drawn_more false ns n k = omega arith

pub drawn_new : (h : Bool) (ns : List ℕ) (n : ℕ) → h ≡ true → 0 < times n (drawn_after h ns n)
drawn_new true ns n is = let t = times_end n ns n in let b = bit_same n in omega arith
drawn_new false ns n is = absurd (off is)

pub drawn_old : (h : Bool) (ns : List ℕ) (n k : ℕ) → k ≢ n → times k (drawn_after h ns n) ≡ times k ns
drawn_old true ns n k apart = let t = times_end k ns n in let b = bit_apart n k (λ e. apart (sym e)) in omega arith
drawn_old false ns n k apart = refl

pub drawn_both : (h i : Bool) (ms ns : List ℕ) (n k : ℕ) → h ≡ true → i ≡ true → times k ms ≤ times k ns → times k (drawn_after h ms n) ≤ times k (drawn_after i ns n)
drawn_both true true ms ns n k x y le = let a = times_end k ms n in let b = times_end k ns n in omega arith
drawn_both false i ms ns n k x y le = absurd (off x)
drawn_both true false ms ns n k x y le = absurd (off y)

pub either_true : (h i : Bool) → (h || i) ≡ true → (h ≡ true) ⊎ (i ≡ true)
either_true true i e = inl refl
either_true false i e = inr e

pub is_false : (b : Bool) → (b ≡ true → ⊥) → b ≡ false
is_false true h = absurd (h refl)
is_false false h = refl

pub same_some : {A : Type 0} (x y : A) → Some x ≡ Some y → x ≡ y
same_some x y e = cc

-- no step's telling depends on the step's own record
module _ {S : Type 0} where
  abbrev pub any : Step S
  any = step 0 0 0 0 none

module _ {E X F B : Type 0} (fe : F → List (ℕ × E)) (fs : F → X) (be : B → List (ℕ × E)) (bs : B → X) where
  -- the seat can make the step in this table
  abbrev pub Steps : ℕ → Me (Slot F B) (View E X) → ℕ → (ℕ → ℕ) → (ℕ → Me (Slot F B) (View E X) → Type 0) → State (Slot F B) (View E X) → Type 0
  Steps id m i f tells t = (w : View E X) × (a : Act (Slot F B)) × Valid t.homes m.1 a × Kept fe fs be bs (stepped t i (f (slice_index t.words i)) id m.1 w a) × tells (slice_index t.words i) (w, carried_after m.1 a)

  -- a step is allowed where it can be made in each table that the rule lets be
  pub allows : (slots id : ℕ) (m : Me (Slot F B) (View E X)) (i : ℕ) (f : ℕ → ℕ) (tells : ℕ → Me (Slot F B) (View E X) → Type 0)
      → ((ahead behind : Bool) (p : Joint E X) (h : F) (b : B) (views : List (View E X)) → Keep fe fs be bs ahead behind p h b → Sound ahead behind p views → get_elem? views id ≡ some m.0 → Steps id m i f tells (table_of ahead behind p.counter h b views))
      → Allows (Kept fe fs be bs) slots id m i f tells
  allows slots id m i f tells can s h len at fits = subst (Steps id m i f tells) (sym h.5) (can h.0 h.1 h.2 h.3 h.4 s.views h.6 h.7 at)

  -- a try that fails
  pub fails : (id : ℕ) (v w : View E X) (ahead behind : Bool) (p : Joint E X) (views : List (View E X)) → Sound ahead behind p views → get_elem? views id ≡ some v
      → w.forward ≡ v.forward → w.back ≡ v.back → w.numbers ≡ v.numbers → w.parts ≡ v.parts → Fits p w → Sound ahead behind p (set views id w)
  fails id v w ahead behind p views h at forward back numbers parts mine = record {
    forward = tied_keep (λ (x : View E X). x.forward) ahead p.counter p.forward views id v w h.forward at forward (λ k. let e = ap (times k) numbers in omega arith);
    back = tied_keep (λ (x : View E X). x.back) behind p.counter p.back views id v w h.back at back (λ k. let e = ap (times k) numbers in omega arith);
    each = fits_set p views id w (λ j u apart e. h.each j u e) mine;
    placed = h.placed;
    once = once_keep p.counter views id v w at numbers h.once;
    agree = h.agree;
    parts = parts_keep views id v w at parts h.parts;
  }
