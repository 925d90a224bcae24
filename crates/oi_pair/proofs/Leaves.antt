-- The leaves keep the rule, and tell what they say.
use Rattle.std.proofs.Common.{◌≡◌, ◌⊎◌, ◌≤◌, ◌<◌, ◌+◌, ℕ, List, [], ◌∷◌, ◌++◌, Some, Bool, true, false, refl, sym, ap, ◌∙◌, subst, ⊎_elim, arith}
use mathlib.Core.Option.{some}
use mathlib.Core.Logic.{dite}
use native.Mathlib.Decide.{dec_lt}
use lib.ListN.{get_elem?}
use Rattle.atomic_table.specs.Table.{Me, gives, Allows}
use Rattle.oi_pair.specs.declared.half.Half.TheVariants.{Forward, Back}
use Rattle.oi_pair.specs.declared.view.View.{View}
use Rattle.oi_pair.specs.Lists.{Has, numbers_of, times}
use Rattle.oi_pair.specs.Views.{outside, added, left_back, left_forward, HoldsForward, MayLeaveBack, MayLeaveForward}
use Rattle.oi_pair.specs.Kept.{Slot, table_of, Joint, Fits, IsPlaced, Sound, Keep, Kept, LeavesForward, LeavesBack}
use Rattle.oi_pair.proofs.Lists.{off, has_append, has_left, has_right, times_append, has_times, times_has, part_times, numbers_append, has_number, number_left, number_right, number_of}
use Rattle.oi_pair.proofs.Places.{tied_keep, tied_leaves}
use Rattle.oi_pair.proofs.Sounds.{fits_set, once_keep, parts_keep, own_below, carried_once, is_false, same_some, any, Steps, allows}

-- what is placed after a leave
module _ {E X : Type 0} where
  -- a number that was drawn with the back half stands in it, or waits with the forward half
  placed_back_at : (h : Bool) (p : Joint E X) (v : View E X) (more : List (ℕ × E)) (k : ℕ) → v.forward.holds ≡ h
      → (v.forward.holds ≡ true → times k v.forward.drawn ≡ times k p.forward.drawn) → times k v.back.drawn ≡ times k p.back.drawn → (v.forward.holds ≡ true → times k v.back.drawn ≤ times k v.forward.drawn)
      → (v.forward.holds ≡ false → Has v.back.drawn k → Has (numbers_of (p.back.list ++ more)) k)
      → IsPlaced p k → 0 < times k (numbers_of p.forward.list) + times k p.forward.drawn + times k (numbers_of (p.back.list ++ more)) + 0
  placed_back_at true p v more k x front rear both stands placed =
      let is : IsPlaced p k = placed in
      let a = front x in
      let b = both x in
      let c = ap (times k) (numbers_append p.back.list more) in
      let d = times_append k (numbers_of p.back.list) (numbers_of more) in
      omega arith
  placed_back_at false p v more k x front rear both stands placed =
      let is : IsPlaced p k = placed in
      let c = ap (times k) (numbers_append p.back.list more) in
      let d = times_append k (numbers_of p.back.list) (numbers_of more) in
      dite (dec_lt 0 (times k v.back.drawn))
      (λ new. let t = has_times (numbers_of (p.back.list ++ more)) k (stands x (times_has v.back.drawn k new)) in omega arith)
      (λ old. omega arith)

  -- a number that was drawn with the forward half stands in it, or was added to the back half
  placed_forward : (p : Joint E X) (v : View E X) (more : List (ℕ × E)) (k : ℕ) → v.forward.drawn ≡ p.forward.drawn
      → (Has v.forward.drawn k → Has (numbers_of more) k ⊎ Has (numbers_of v.left) k) → (Has (numbers_of v.left) k → Has (numbers_of p.back.list) k)
      → IsPlaced p k → 0 < times k (numbers_of (p.forward.list ++ more)) + 0 + times k (numbers_of p.back.list) + times k p.back.drawn
  placed_forward p v more k drawn stands there placed =
      let is : IsPlaced p k = placed in
      let c = ap (times k) (numbers_append p.forward.list more) in
      let d = times_append k (numbers_of p.forward.list) (numbers_of more) in
      let e = ap (times k) drawn in
      dite (dec_lt 0 (times k v.forward.drawn))
      (λ new. ⊎_elim
      (λ (a : Has (numbers_of more) k). let t = has_times (numbers_of more) k a in omega arith)
      (λ (a : Has (numbers_of v.left) k). let t = has_times (numbers_of p.back.list) k (there a) in omega arith)
      (stands (times_has v.forward.drawn k new)))
      (λ old. omega arith)

module _ {E X F B : Type 0} (fe : F → List (ℕ × E)) (fs : F → X) (be : B → List (ℕ × E)) (bs : B → X) where
  -- the leave of the back half
  leaves_back_at : (id : ℕ) (v : View E X) (c : List (ℕ × Slot F B)) (b' : B) → 0 < v.parts → v.back.holds ≡ true → MayLeaveBack v (be b') (bs b')
      → (ahead behind : Bool) (p : Joint E X) (f : F) (b : B) (views : List (View E X)) → Keep fe fs be bs ahead behind p f b → Sound ahead behind p views → get_elem? views id ≡ some v
      → Steps fe fs be bs id (v, (1, Some (Back b')) ∷ c) 1 (λ _. 0) (LeavesBack fe be bs any (v, (1, Some (Back b')) ∷ c)) (table_of ahead behind p.counter f b views)
  leaves_back_at id v c b' alive has may ahead false p f b views k h at = absurd (off ((h.back.each id v at).holder has).1)
  leaves_back_at id v c b' alive has may ahead true p f b views k h at =
      let more = added v.back (be b') in
      let w = left_back v (be b') (Some (bs b')) in
      let q = record p { back = record (p.back) { list = p.back.list ++ more; drawn = [] }; shared = bs b' } in
      let fits = h.each id v at in
      let front = h.forward.each id v at in
      let rear = h.back.each id v at in
      let kept : v.back.kept ≡ p.back.list = (rear.holder has).2 in
      let drawn : v.back.drawn ≡ p.back.drawn = (rear.holder has).3 in
      let list : be b' ≡ p.back.list ++ more = may.grown.behind ∙ ap (λ (l : List (ℕ × E)). l ++ more) kept in
      let own = own_below ahead true p views id v h at in
      let in_drawn : (k : ℕ) → Has (numbers_of more) k → 0 < times k v.back.drawn = λ k x. (let a = has_times (numbers_of more) k x in let e = part_times (numbers_of more) v.back.drawn k may.grown.numbers in omega arith) in
      let in_own : (k : ℕ) → Has (numbers_of more) k → 0 < times k v.numbers = λ k x. (let a = in_drawn k x in let e = rear.carried k in omega arith) in
      let alone : v.forward.holds ≡ false → bs b' ≡ p.shared = λ x. same_some (bs b') p.shared (sym (may.same x) ∙ fits.told_back has) in
      let mine : Fits q w = record {
        told_forward = λ _. refl;
        told_back = λ no. absurd (off no);
        both = λ _ no. absurd (off no);
        left_there = λ x k there. ⊎_elim
            (λ (a : Has (numbers_of v.left) k). number_left p.back.list more k (fits.left_there x k a))
            (λ (a : Has (numbers_of more) k). number_right p.back.list more k a)
            (number_of v.left more k there);
        left_all = λ x k e there new. ⊎_elim
            (λ (a : Has p.back.list (k, e)). has_left v.left more (k, e) (fits.left_all x k e a new))
            (λ (a : Has more (k, e)). has_right v.left more (k, e) a)
            (has_append p.back.list more (k, e) there);
        new_forward = λ no. absurd (off no);
        idle = λ none. absurd (omega arith);
      } in (
        w,
        gives,
        tt,
        (
          ahead,
          false,
          q,
          f,
          b',
          refl,
          record {
            forward = k.forward;
            back = list;
            forward_shared = λ x. k.forward_shared x ∙ sym (alone (is_false v.forward.holds (λ y. off (sym x ∙ (front.holder y).1))));
            back_shared = λ _. refl;
          },
          record {
            forward = tied_keep (λ (x : View E X). x.forward) ahead p.counter p.forward views id v w h.forward at refl (λ k. omega arith);
            back = tied_leaves (λ (x : View E X). x.back) p.counter p.back more views id v w h.back at has may.grown.numbers (λ k x. own k (in_own k x)) (ap outside list);
            each = fits_set q views id w
                (λ j u apart e.
                let g = h.each j u e in
                let others = h.back.each j u e in
                let not_back : u.back.holds ≡ true → ⊥ = λ y. apart ((others.holder y).0 ∙ sym (rear.holder has).0) in
                let not_forward : u.forward.holds ≡ true → v.forward.holds ≡ true → ⊥ = λ y z. apart (((h.forward.each j u e).holder y).0 ∙ sym (front.holder z).0) in record {
                  told_forward = λ y. g.told_forward y ∙ ap Some (sym (alone (is_false v.forward.holds (not_forward y))));
                  told_back = λ y. absurd (not_back y);
                  both = λ _ y. absurd (not_back y);
                  left_there = λ y k there. number_left p.back.list more k (g.left_there y k there);
                  left_all = λ y k i there new. ⊎_elim
                      (λ (a : Has p.back.list (k, i)). g.left_all y k i a new)
                      (λ (a : Has more (k, i)). absurd (carried_once ahead true p views id j v u h (λ s. apart (sym s)) at e k (in_own k (has_number more k i a)) (let t = (h.forward.each j u e).carried k in omega arith)))
                      (has_append p.back.list more (k, i) there);
                  new_forward = λ y. absurd (not_back y);
                  idle = g.idle;
                })
                mine;
            placed = λ k below. placed_back_at v.forward.holds p v more k refl (λ x. ap (times k) (front.holder x).3) (ap (times k) drawn) (λ x. fits.both x has k)
                (λ x there. number_right p.back.list more k (may.placed x k there)) (h.placed k below);
            once = once_keep p.counter views id v w at refl h.once;
            agree = λ k x y one two. ⊎_elim
                (λ (a : Has p.back.list (k, y)). h.agree k x y one a)
                (λ (a : Has more (k, y)). absurd (fits.new_forward has k (in_drawn k (has_number more k y a)) (has_number p.forward.list k x one)))
                (has_append p.back.list more (k, y) two);
            parts = parts_keep views id v w at refl h.parts;
          },
        ),
        refl,
      )

  pub leaves_back : (slots id : ℕ) (m : Me (Slot F B) (View E X)) (v : View E X) (c : List (ℕ × Slot F B)) (b : B) → m ≡ (v, (1, Some (Back b)) ∷ c) → 0 < v.parts → v.back.holds ≡ true → MayLeaveBack v (be b) (bs b)
      → Allows (Kept fe fs be bs) slots id m 1 (λ _. 0) (LeavesBack fe be bs any m)
  leaves_back slots id m v c b is alive has may =
      let d : Me (Slot F B) (View E X) = (v, (1, Some (Back b)) ∷ c) in
      subst (λ (n : Me (Slot F B) (View E X)). Allows (Kept fe fs be bs) slots id n 1 (λ _. 0) (LeavesBack fe be bs any n)) (sym is)
      (allows fe fs be bs slots id d 1 (λ _. 0) (LeavesBack fe be bs any d) (leaves_back_at id v c b alive has may))

  -- the leave of the forward half
  leaves_forward_at : (id : ℕ) (v : View E X) (c : List (ℕ × Slot F B)) (f' : F) → 0 < v.parts → HoldsForward v → MayLeaveForward v (fe f') (fs f')
      → (ahead behind : Bool) (p : Joint E X) (f : F) (b : B) (views : List (View E X)) → Keep fe fs be bs ahead behind p f b → Sound ahead behind p views → get_elem? views id ≡ some v
      → Steps fe fs be bs id (v, (0, Some (Forward f')) ∷ c) 0 (λ _. 0) (LeavesForward fe be any (v, (0, Some (Forward f')) ∷ c)) (table_of ahead behind p.counter f b views)
  leaves_forward_at id v c f' alive has may false behind p f b views k h at = absurd (off ((h.forward.each id v at).holder has.forward).1)
  leaves_forward_at id v c f' alive has may true behind p f b views k h at =
      let more = added v.forward (fe f') in
      let w = left_forward v (fe f') in
      let q = record p { forward = record (p.forward) { list = p.forward.list ++ more; drawn = [] } } in
      let fits = h.each id v at in
      let front = h.forward.each id v at in
      let rear = h.back.each id v at in
      let holder = front.holder has.forward in
      let list : fe f' ≡ p.forward.list ++ more = may.grown.behind ∙ ap (λ (l : List (ℕ × E)). l ++ more) holder.2 in
      let own = own_below true behind p views id v h at in
      let in_drawn : (k : ℕ) → Has (numbers_of more) k → 0 < times k v.forward.drawn = λ k x. (let a = has_times (numbers_of more) k x in let e = part_times (numbers_of more) v.forward.drawn k may.grown.numbers in omega arith) in
      let in_own : (k : ℕ) → Has (numbers_of more) k → 0 < times k v.numbers = λ k x. (let a = in_drawn k x in let e = front.carried k in omega arith) in
      let mine : Fits q w = record {
        told_forward = λ no. absurd (off no);
        told_back = λ no. absurd (off (sym has.back ∙ no));
        both = λ no. absurd (off no);
        left_there = λ no. absurd (off no);
        left_all = λ no. absurd (off no);
        new_forward = λ no. absurd (off (sym has.back ∙ no));
        idle = λ none. absurd (omega arith);
      } in (
        w,
        gives,
        tt,
        (
          false,
          behind,
          q,
          f',
          b,
          refl,
          record { forward = list; back = k.back; forward_shared = λ _. same_some (fs f') p.shared (sym may.same ∙ fits.told_forward has.forward); back_shared = k.back_shared },
          record {
            forward = tied_leaves (λ (x : View E X). x.forward) p.counter p.forward more views id v w h.forward at has.forward may.grown.numbers (λ k x. own k (in_own k x)) (ap outside list);
            back = tied_keep (λ (x : View E X). x.back) behind p.counter p.back views id v w h.back at refl (λ k. omega arith);
            each = fits_set q views id w
                (λ j u apart e.
                let g = h.each j u e in
                let not_forward : u.forward.holds ≡ true → ⊥ = λ y. apart (((h.forward.each j u e).holder y).0 ∙ sym holder.0) in record {
                  told_forward = λ y. absurd (not_forward y);
                  told_back = g.told_back;
                  both = λ y. absurd (not_forward y);
                  left_there = λ y. absurd (not_forward y);
                  left_all = λ y. absurd (not_forward y);
                  new_forward = λ y k new there. ⊎_elim
                      (λ (a : Has (numbers_of p.forward.list) k). g.new_forward y k new a)
                      (λ (a : Has (numbers_of more) k). carried_once true behind p views id j v u h (λ s. apart (sym s)) at e k (in_own k a) (let t = (h.back.each j u e).carried k in omega arith))
                      (number_of p.forward.list more k there);
                  idle = g.idle;
                })
                mine;
            placed = λ k below. placed_forward p v more k holder.3 (λ there. may.placed k there) (λ a. fits.left_there has.forward k a) (h.placed k below);
            once = once_keep p.counter views id v w at refl h.once;
            agree = λ k x y one two. ⊎_elim
                (λ (a : Has p.forward.list (k, x)). h.agree k x y a two)
                (λ (a : Has more (k, x)). may.alike k x y a (fits.left_all has.forward k y two (in_drawn k (has_number more k x a))))
                (has_append p.forward.list more (k, x) one);
            parts = parts_keep views id v w at refl h.parts;
          },
        ),
        refl,
      )

  pub leaves_forward : (slots id : ℕ) (m : Me (Slot F B) (View E X)) (v : View E X) (c : List (ℕ × Slot F B)) (f : F) → m ≡ (v, (0, Some (Forward f)) ∷ c) → 0 < v.parts → HoldsForward v → MayLeaveForward v (fe f) (fs f)
      → Allows (Kept fe fs be bs) slots id m 0 (λ _. 0) (LeavesForward fe be any m)
  leaves_forward slots id m v c f is alive has may =
      let d : Me (Slot F B) (View E X) = (v, (0, Some (Forward f)) ∷ c) in
      subst (λ (n : Me (Slot F B) (View E X)). Allows (Kept fe fs be bs) slots id n 0 (λ _. 0) (LeavesForward fe be any n)) (sym is)
      (allows fe fs be bs slots id d 0 (λ _. 0) (LeavesForward fe be any d) (leaves_forward_at id v c f alive has may))
