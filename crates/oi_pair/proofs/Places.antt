-- The rule of one half, whichever it is: how each kind of step keeps it.
use Rattle.std.proofs.Common.{◌≡◌, ◌≢◌, ◌≤◌, ◌<◌, ◌+◌, ℕ, suc, List, [], ◌∷◌, ◌++◌, length, set, Bool, true, false, refl, sym, ap, ◌∙◌, subst, ⊎_elim, arith, append_assoc, length-append}
use Rattle.std.proofs.lemmas.List.{append-nil}
use mathlib.Core.Option.{some, some-injective}
use mathlib.Core.Logic.{dite}
use native.Mathlib.Decide.{ℕ_discrete}
use lib.ListN.{get_elem?}
use Rattle.atomic_table.proofs.Lists.{at_set, set_here, set_else, at_longer}
use Rattle.oi_pair.specs.declared.view.Side.{Side}
use Rattle.oi_pair.specs.declared.view.View.{View}
use Rattle.oi_pair.specs.Lists.{Has, numbers_of, times, IsPart, IsRising}
use Rattle.oi_pair.specs.Views.{outside, inside, drawn_after, drew_beside, beside, met_side}
use Rattle.oi_pair.specs.Kept.{Place, Sits, IsHolder, Tied}
use Rattle.oi_pair.proofs.Lists.{off, in_range, at_end, starts_self, starts_nil, starts_more, longer_starts, times_append, has_append, has_times, part_length, rising_part, rising_end, numbers_append, numbers_length, number_of}

module _ {E X : Type 0} (s : View E X → Side E) where
  -- each seat's part is so after one view has changed
  sits_set : (held : Bool) (q : Place E) (views : List (View E X)) (id : ℕ) (w : View E X)
      → ((j : ℕ) (u : View E X) → j ≢ id → get_elem? views j ≡ some u → Sits held q j (s u) u.numbers) → Sits held q id (s w) w.numbers
      → (j : ℕ) (u : View E X) → get_elem? (set views id w) j ≡ some u → Sits held q j (s u) u.numbers
  sits_set held q views id w others mine j u e =
      ⊎_elim
      (λ (x : (j ≡ id) × (w ≡ u)). subst (λ (y : ℕ × View E X). Sits held q y.0 (s y.1) y.1.numbers) (λ i. (sym x.0 i, x.1 i)) mine)
      (λ (x : (j ≢ id) × (get_elem? views j ≡ some u)). others j u x.0 x.1)
      (at_set views id j w u e)

  -- the holder stays so
  holder_set : (views : List (View E X)) (id : ℕ) (v w : View E X) (k : ℕ) → get_elem? views id ≡ some v → ((s v).holds ≡ true → (s w).holds ≡ true) → IsHolder s views k → IsHolder s (set views id w) k
  holder_set views id v w k at stays h =
      dite (ℕ_discrete k id)
      (λ (same : k ≡ id). (
        w,
        subst (λ (j : ℕ). get_elem? (set views id w) j ≡ some w) (sym same) (set_here views id w (in_range views id v at)),
        stays (subst (λ (x : View E X). (s x).holds ≡ true) (some-injective h.0 v (sym h.1 ∙ (ap (λ (j : ℕ). get_elem? views j) same ∙ at))) h.2),
      ))
      (λ (apart : k ≢ id). (h.0, set_else views id k w apart ∙ h.1, h.2))

  -- two seats that hold the half are one
  pub one_holder : (held : Bool) (q : Place E) (i j : ℕ) (d e : Side E) (m n : List ℕ) → Sits held q i d m → Sits held q j e n → d.holds ≡ true → e.holds ≡ true → i ≡ j
  one_holder held q i j d e m n a b x y = (a.holder x).0 ∙ sym (b.holder y).0

  -- one view has changed, and its part is so
  pub tied_set : (held : Bool) (counter : ℕ) (q : Place E) (views : List (View E X)) (id : ℕ) (v w : View E X)
      → Tied s held counter q views → get_elem? views id ≡ some v → ((s v).holds ≡ true → (s w).holds ≡ true) → Sits held q id (s w) w.numbers
      → Tied s held counter q (set views id w)
  tied_set held counter q views id v w h at stays mine = record {
    each = sits_set held q views id w (λ j u apart e. h.each j u e) mine;
    held_by = λ is. holder_set views id v w q.holder at stays (h.held_by is);
    idle = h.idle;
    rising = h.rising;
    below = h.below;
    few = h.few;
  }

  -- one view has changed, but not in this half, and carries no less
  pub tied_keep : (held : Bool) (counter : ℕ) (q : Place E) (views : List (View E X)) (id : ℕ) (v w : View E X)
      → Tied s held counter q views → get_elem? views id ≡ some v → s w ≡ s v → ((k : ℕ) → times k v.numbers ≤ times k w.numbers)
      → Tied s held counter q (set views id w)
  tied_keep held counter q views id v w h at same more =
      let f = h.each id v at in
      let g : Sits held q id (s v) w.numbers = record { seen = f.seen; kept = f.kept; holder = f.holder; carried = λ k. (let a = f.carried k in let b = more k in omega arith) } in
      tied_set held counter q views id v w h at (λ x. ap (λ (d : Side E). d.holds) same ∙ x) (subst (λ (d : Side E). Sits held q id d w.numbers) (sym same) g)

  -- the counter has risen
  pub tied_count : (held : Bool) (counter more : ℕ) (q : Place E) (views : List (View E X)) → counter ≤ more → Tied s held counter q views → Tied s held more q views
  tied_count held counter more q views le h = record { each = h.each; held_by = h.held_by; idle = h.idle; rising = h.rising; below = λ k has. (let b = h.below k has in omega arith); few = h.few }

  -- a seat takes the half
  pub tied_takes : (counter : ℕ) (q : Place E) (views : List (View E X)) (id : ℕ) (v w : View E X)
      → Tied s false counter q views → get_elem? views id ≡ some v → s w ≡ inside (s v) q.list → w.numbers ≡ v.numbers
      → Tied s true counter record q { holder = id } (set views id w)
  tied_takes counter q views id v w h at took same =
      let p = record q { holder = id } in
      let f = h.each id v at in
      let none : q.drawn ≡ [] = h.idle refl in
      let mine : Sits true p id (inside (s v) q.list) w.numbers = record { seen = f.seen; kept = starts_self q.list; holder = λ _. (refl, refl, refl, sym none); carried = λ k. omega arith } in record {
        each = sits_set true p views id w
            (λ j u apart e. let g = h.each j u e in record { seen = g.seen; kept = g.kept; holder = λ holds. absurd (off (g.holder holds).1); carried = g.carried })
            (subst (λ (d : Side E). Sits true p id d w.numbers) (sym took) mine);
        held_by = λ _. (w, set_here views id w (in_range views id v at), ap (λ (d : Side E). d.holds) took);
        idle = λ no. absurd (off (sym no));
        rising = h.rising;
        below = h.below;
        few = h.few;
      }

  -- its holder leaves it, with these entries more
  pub tied_leaves : (counter : ℕ) (q : Place E) (more : List (ℕ × E)) (views : List (View E X)) (id : ℕ) (v w : View E X)
      → Tied s true counter q views → get_elem? views id ≡ some v → (s v).holds ≡ true → IsPart (numbers_of more) (s v).drawn
      → ((k : ℕ) → Has (numbers_of more) k → k < counter) → s w ≡ outside (q.list ++ more)
      → Tied s false counter record q { list = q.list ++ more; drawn = [] } (set views id w)
  tied_leaves counter q more views id v w h at holds part small left =
      let p = record q { list = q.list ++ more; drawn = [] } in
      let f = h.each id v at in
      let drawn : (s v).drawn ≡ q.drawn = (f.holder holds).3 in
      let parted : IsPart (numbers_of more) q.drawn = subst (λ (ns : List ℕ). IsPart (numbers_of more) ns) drawn part in
      let mine : Sits false p id (outside (q.list ++ more)) w.numbers = record { seen = starts_self (q.list ++ more); kept = starts_nil (q.list ++ more); holder = λ no. absurd (off no); carried = λ k. omega arith } in record {
        each = sits_set false p views id w
            (λ j u apart e. let g = h.each j u e in record {
              seen = starts_more q.list more (s u).seen g.seen;
              kept = starts_more q.list more (s u).kept g.kept;
              holder = λ too. absurd (apart ((g.holder too).0 ∙ sym (f.holder holds).0));
              carried = g.carried;
            })
            (subst (λ (d : Side E). Sits false p id d w.numbers) (sym left) mine);
        held_by = λ no. absurd (off no);
        idle = λ _. refl;
        rising = subst IsRising (sym (numbers_append q.list more) ∙ sym (append-nil (numbers_of (q.list ++ more)))) (rising_part (numbers_of q.list) (numbers_of more) q.drawn parted h.rising);
        below = λ k has. ⊎_elim (λ (a : Has (numbers_of q.list) k). h.below k a) (λ (b : Has (numbers_of more) k). small k b) (number_of q.list more k has);
        few = (let a = h.few in let b = part_length (numbers_of more) q.drawn parted in omega (arith, length-append q.list more, numbers_length more));
      }

  -- a seat draws the next number, and counts it in this half where it holds it
  tied_draws_at : (h held : Bool) (n : ℕ) (q : Place E) (views : List (View E X)) (id : ℕ) (v w : View E X)
      → Tied s held n q views → get_elem? views id ≡ some v → (s v).holds ≡ h → s w ≡ record (s v) { drawn = drawn_after h (s v).drawn n } → w.numbers ≡ v.numbers ++ n ∷ []
      → (h ≡ true → length q.list + length q.drawn < 2000000) → ((k : ℕ) → 0 < times k v.numbers → k < n)
      → Tied s held (suc n) record q { drawn = drawn_after h q.drawn n } (set views id w)
  tied_draws_at false held n q views id v w h at holds drew more room new =
      tied_keep held (suc n) q views id v w (tied_count held n (suc n) q views (omega arith) h) at drew (λ k. let a = ap (times k) more in let b = times_append k v.numbers (n ∷ []) in omega arith)
  tied_draws_at true held n q views id v w h at holds drew more room new =
      let p = record q { drawn = q.drawn ++ n ∷ [] } in
      let f = h.each id v at in
      let same : (s v).drawn ≡ q.drawn = (f.holder holds).3 in
      let d : Side E = record (s v) { drawn = (s v).drawn ++ n ∷ [] } in
      let mine : Sits held p id d w.numbers = record {
        seen = f.seen;
        kept = f.kept;
        holder = λ x. ((f.holder holds).0, (f.holder holds).1, (f.holder holds).2, ap (λ (ns : List ℕ). ns ++ n ∷ []) same);
        carried = λ k. (let a = f.carried k in let b = times_append k (s v).drawn (n ∷ []) in let c = times_append k v.numbers (n ∷ []) in let e = ap (times k) more in omega arith);
      } in record {
        each = sits_set held p views id w
            (λ j u apart e. let g = h.each j u e in record { seen = g.seen; kept = g.kept; holder = λ too. absurd (apart ((g.holder too).0 ∙ sym (f.holder holds).0)); carried = g.carried })
            (subst (λ (x : Side E). Sits held p id x w.numbers) (sym drew) mine);
        held_by = λ is. holder_set views id v w q.holder at (λ x. ap (λ (y : Side E). y.holds) drew ∙ holds) (h.held_by is);
        idle = λ free. absurd (off (sym free ∙ (f.holder holds).1));
        rising = subst IsRising (append_assoc (numbers_of q.list) q.drawn (n ∷ []))
            (rising_end (numbers_of q.list ++ q.drawn) n
            (λ k has. ⊎_elim (λ (a : Has (numbers_of q.list) k). h.below k a)
            (λ (b : Has q.drawn k). new k (let a = f.carried k in let c = has_times q.drawn k b in let e = ap (times k) same in omega arith))
            (has_append (numbers_of q.list) q.drawn k has)) h.rising);
        below = λ k has. (let b = h.below k has in omega arith);
        few = (let a = room refl in omega (arith, length-append q.drawn (n ∷ [])));
      }

  pub tied_draws : (held : Bool) (n : ℕ) (q : Place E) (views : List (View E X)) (id : ℕ) (v w : View E X)
      → Tied s held n q views → get_elem? views id ≡ some v → s w ≡ drew_beside (s v) n → w.numbers ≡ v.numbers ++ n ∷ []
      → ((s v).holds ≡ true → length q.list + length q.drawn < 2000000) → ((k : ℕ) → 0 < times k v.numbers → k < n)
      → Tied s held (suc n) record q { drawn = drawn_after (s v).holds q.drawn n } (set views id w)
  tied_draws held n q views id v w h at drew more room new = tied_draws_at (s v).holds held n q views id v w h at refl drew more room new

  -- a seat is cut in two
  pub tied_splits : (held : Bool) (counter : ℕ) (q : Place E) (views : List (View E X)) (id : ℕ) (v w r : View E X)
      → Tied s held counter q views → get_elem? views id ≡ some v → s w ≡ s v → w.numbers ≡ v.numbers → s r ≡ outside (s v).seen
      → Tied s held counter q (set views id w ++ r ∷ [])
  tied_splits held counter q views id v w r h at same numbers apart =
      let one = set views id w in
      let f = h.each id v at in
      let t = tied_keep held counter q views id v w h at same (λ k. let e = ap (times k) numbers in omega arith) in
      let mine : Sits held q (length one) (outside (s v).seen) r.numbers = record { seen = f.seen; kept = starts_nil q.list; holder = λ no. absurd (off no); carried = λ k. omega arith } in record {
        each = λ j u e. ⊎_elim
            (λ (there : get_elem? one j ≡ some u). t.each j u there)
            (λ (x : (j ≡ length one) × (r ≡ u)). subst (λ (y : ℕ × View E X). Sits held q y.0 (s y.1) y.1.numbers) (λ i. (sym x.0 i, x.1 i)) (subst (λ (d : Side E). Sits held q (length one) d r.numbers) (sym apart) mine))
            (at_end one r u j e);
        held_by = λ is. let k = t.held_by is in (k.0, at_longer one (r ∷ []) q.holder k.0 k.1, k.2);
        idle = h.idle;
        rising = h.rising;
        below = h.below;
        few = h.few;
      }

  -- a seat that holds nothing takes in another that holds nothing
  pub tied_joins : (held : Bool) (counter : ℕ) (q : Place E) (views : List (View E X)) (id other : ℕ) (v u w none : View E X)
      → Tied s held counter q views → get_elem? views id ≡ some v → other ≢ id → get_elem? (set views id w) other ≡ some u
      → (s v).holds ≡ false → (s u).holds ≡ false → s w ≡ beside (s v) (s u) → s none ≡ outside []
      → Tied s held counter q (set (set views id w) other none)
  tied_joins held counter q views id other v u w none h at apart there free too both spent =
      let f = h.each id v at in
      let was : get_elem? views other ≡ some u = ⊎_elim (λ (x : (other ≡ id) × (w ≡ u)). absurd (apart x.0)) (λ (x : (other ≢ id) × (get_elem? views other ≡ some u)). x.1) (at_set views id other w u there) in
      let o = h.each other u was in
      let mine : Sits held q id (beside (s v) (s u)) w.numbers = record { seen = f.seen; kept = o.seen; holder = λ no. absurd (off no); carried = λ k. omega arith } in
      let t = tied_set held counter q views id v w h at (λ x. absurd (off (sym free ∙ x))) (subst (λ (d : Side E). Sits held q id d w.numbers) (sym both) mine) in
      let gone : Sits held q other (outside []) none.numbers = record { seen = starts_nil q.list; kept = starts_nil q.list; holder = λ no. absurd (off no); carried = λ k. omega arith } in
      tied_set held counter q (set views id w) other u none t there (λ x. absurd (off (sym too ∙ x))) (subst (λ (d : Side E). Sits held q other d none.numbers) (sym spent) gone)

  -- a seat that holds nothing keeps the longer of two lists
  pub tied_meets : (held : Bool) (counter : ℕ) (q : Place E) (views : List (View E X)) (id : ℕ) (v w : View E X)
      → Tied s held counter q views → get_elem? views id ≡ some v → (s v).holds ≡ false → s w ≡ met_side (s v) → Tied s held counter q (set views id w)
  tied_meets held counter q views id v w h at free met =
      let f = h.each id v at in
      let l = longer_starts q.list (s v).seen (s v).kept f.seen f.kept in
      let mine : Sits held q id (met_side (s v)) w.numbers = record { seen = l.0; kept = starts_nil q.list; holder = λ no. absurd (off no); carried = λ k. omega arith } in
      tied_set held counter q views id v w h at (λ x. absurd (off (sym free ∙ x))) (subst (λ (d : Side E). Sits held q id d w.numbers) (sym met) mine)
