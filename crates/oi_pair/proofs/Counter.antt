-- The draw keeps the rule, and tells what it says.
use Rattle.std.proofs.Common.{◌≡◌, ◌⊎◌, ◌<◌, ◌+◌, ◌%◌, ◌^◌, ℕ, suc, List, [], ◌∷◌, length, set, Some, Bool, true, refl, ap, subst, ⊎_elim, arith}
use mathlib.Core.Option.{some}
use mathlib.Core.Logic.{dite}
use native.Mathlib.Decide.{ℕ_discrete}
use lib.ListN.{get_elem?}
use Rattle.atomic_table.specs.Table.{State, Me, keeps, Allows}
use Rattle.oi_base.specs.Counts.{bit}
use Rattle.oi_pair.specs.declared.half.Half.TheVariants.{Forward, Back}
use Rattle.oi_pair.specs.declared.view.View.{View}
use Rattle.oi_pair.specs.Lists.{Has, numbers_of, times}
use Rattle.oi_pair.specs.Views.{drawn_after, drew, MayDraw}
use Rattle.oi_pair.specs.Kept.{Slot, at_home, table_of, Sits, Joint, Fits, IsPlaced, Sound, Keep, Kept, Draws}
use Rattle.oi_pair.proofs.Lists.{bit_more, total_set, times_end, has_times, one_of_three, has_number}
use Rattle.oi_pair.proofs.Places.{tied_draws}
use Rattle.oi_pair.proofs.Sounds.{fits_set, parts_keep, own_below, counter_small, drawn_more, drawn_new, drawn_old, drawn_both, either_true, any, Steps, allows}

module _ {E X F B : Type 0} (fe : F → List (ℕ × E)) (fs : F → X) (be : B → List (ℕ × E)) (bs : B → X) where
  -- with both halves held, a number that is placed stands in one of them, or was drawn since
  placed_of : (ahead behind : Bool) (p : Joint E X) (id : ℕ) (v : View E X) → Sits ahead p.forward id v.forward v.numbers → Sits behind p.back id v.back v.numbers → Fits p v
      → v.forward.holds ≡ true → v.back.holds ≡ true → (k : ℕ) → IsPlaced p k → Has (numbers_of v.forward.kept) k ⊎ (Has (numbers_of v.back.kept) k ⊎ Has v.forward.drawn k)
  placed_of ahead behind p id v front rear fits x y k placed =
      let is : IsPlaced p k = placed in
      let a = ap (λ (l : List (ℕ × E)). times k (numbers_of l)) (front.holder x).2 in
      let b = ap (λ (l : List (ℕ × E)). times k (numbers_of l)) (rear.holder y).2 in
      let c = ap (times k) (front.holder x).3 in
      let d = ap (times k) (rear.holder y).3 in
      let e = fits.both x y k in
      one_of_three (numbers_of v.forward.kept) (numbers_of v.back.kept) v.forward.drawn k (omega arith)

  -- the draw
  draws_at : (id : ℕ) (v : View E X) (c : List (ℕ × Slot F B)) → 0 < v.parts → MayDraw v → (ahead behind : Bool) (p : Joint E X) (f : F) (b : B) (views : List (View E X)) → Keep fe fs be bs ahead behind p f b → Sound ahead behind p views → get_elem? views id ≡ some v
      → Steps fe fs be bs id (v, c) 2 (λ n. (n + 1) % 2 ^ 64) (Draws any (v, c)) (table_of ahead behind p.counter f b views)
  draws_at id v c alive may ahead behind p f b views k h at =
      let n = p.counter in
      let w = drew v n in
      let fits = h.each id v at in
      let front = h.forward.each id v at in
      let rear = h.back.each id v at in
      let small = counter_small ahead behind p views h in
      let next : (n + 1) % 2 ^ 64 ≡ suc n = omega arith in
      let q = record p { forward = record (p.forward) { drawn = drawn_after v.forward.holds p.forward.drawn n }; back = record (p.back) { drawn = drawn_after v.back.holds p.back.drawn n }; counter = suc n } in
      let own = own_below ahead behind p views id v h at in
      let table : ℕ → State (Slot F B) (View E X) = λ m. record { words = bit ahead ∷ bit behind ∷ m ∷ []; homes = at_home ahead (Some (Forward f)) ∷ at_home behind (Some (Back b)) ∷ []; views = set views id w } in
      let mine : Fits q w = record {
        told_forward = fits.told_forward;
        told_back = fits.told_back;
        both = λ x y k. drawn_both v.back.holds v.forward.holds v.back.drawn v.forward.drawn n k y x (fits.both x y k);
        left_there = fits.left_there;
        left_all = λ x k e has new. fits.left_all x k e has (let b = h.back.below k (has_number p.back.list k e has) in let o = drawn_old v.forward.holds v.forward.drawn n k (λ s. absurd (omega arith)) in omega arith);
        new_forward = λ x k new has. fits.new_forward x k (let b = h.forward.below k has in let o = drawn_old v.back.holds v.back.drawn n k (λ s. absurd (omega arith)) in omega arith) has;
        idle = λ none. absurd (omega arith);
      } in (
        w,
        keeps,
        tt,
        (
          ahead,
          behind,
          q,
          f,
          b,
          ap table next,
          record { forward = k.forward; back = k.back; forward_shared = k.forward_shared; back_shared = k.back_shared },
          record {
            forward = tied_draws (λ (x : View E X). x.forward) ahead n p.forward views id v w h.forward at refl refl
                (λ x. let r = may.forward x in let a = ap length (front.holder x).2 in let d = ap length (front.holder x).3 in omega arith) own;
            back = tied_draws (λ (x : View E X). x.back) behind n p.back views id v w h.back at refl refl
                (λ x. let r = may.back x in let a = ap length (rear.holder x).2 in let d = ap length (rear.holder x).3 in omega arith) own;
            each = fits_set q views id w (λ j u apart e. let g = h.each j u e in record { told_forward = g.told_forward; told_back = g.told_back; both = g.both; left_there = g.left_there; left_all = g.left_all; new_forward = g.new_forward; idle = g.idle }) mine;
            placed = λ k below. dite (ℕ_discrete k n)
                (λ (same : k ≡ n). ⊎_elim
                (λ (x : v.forward.holds ≡ true). let d = drawn_new v.forward.holds p.forward.drawn n x in let e = ap (λ (j : ℕ). times j (drawn_after v.forward.holds p.forward.drawn n)) same in omega arith)
                (λ (x : v.back.holds ≡ true). let d = drawn_new v.back.holds p.back.drawn n x in let e = ap (λ (j : ℕ). times j (drawn_after v.back.holds p.back.drawn n)) same in omega arith)
                (either_true v.forward.holds v.back.holds may.holds))
                (λ apart.
                let placed : IsPlaced p k = h.placed k (omega arith) in
                let x = drawn_more v.forward.holds p.forward.drawn n k in
                let y = drawn_more v.back.holds p.back.drawn n k in
                omega arith);
            once = λ k.
                let t = total_set (λ (x : View E X). times k x.numbers) views id v w at in
                let a = times_end k v.numbers n in
                let o = h.once k in
                let m = bit_more k n in
                omega arith;
            agree = h.agree;
            parts = parts_keep views id v w at refl h.parts;
          },
        ),
        (
          refl,
          record {
            own = λ k has. own k (has_times v.numbers k has);
            forward = λ x k has. h.forward.below k (subst (λ (l : List (ℕ × E)). Has (numbers_of l) k) (front.holder x).2 has);
            back = λ x k has. h.back.below k (subst (λ (l : List (ℕ × E)). Has (numbers_of l) k) (rear.holder x).2 has);
            both = λ x y k below. placed_of ahead behind p id v front rear fits x y k (h.placed k below);
          },
        ),
      )

  pub draws : (slots id : ℕ) (m : Me (Slot F B) (View E X)) → 0 < m.0.parts → MayDraw m.0 → Allows (Kept fe fs be bs) slots id m 2 (λ n. (n + 1) % 2 ^ 64) (Draws any m)
  draws slots id m alive may = allows fe fs be bs slots id m 2 (λ n. (n + 1) % 2 ^ 64) (Draws any m) (draws_at id m.0 m.1 alive may)
