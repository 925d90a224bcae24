-- Seats: the split, the join and the look after it keep the rule, it holds of a new pair, and what a pair is at its end.
use Rattle.std.proofs.Common.{◌≡◌, ◌≢◌, ◌≤◌, ◌<◌, nat_lt, ℕ, zero, suc, List, [], ◌∷◌, ◌++◌, length, set, Some, Bool, true, false, refl, sym, ap, ◌∙◌, subst, ⊎_elim, arith}
use Rattle.std.proofs.lemmas.List.{append-nil}
use mathlib.Core.Option.{some, some-ne-none, some-injective}
use mathlib.Core.Logic.{dite}
use native.Mathlib.Decide.{ℕ_discrete}
use lib.ListN.{get_elem?}
use Rattle.atomic_table.specs.Table.{State, Me, keeps, opening, Allows, Splits, Joins, Final, Seen}
use Rattle.oi_pair.specs.declared.half.Half.TheVariants.{Forward, Back}
use Rattle.oi_pair.specs.declared.view.Side.{Side}
use Rattle.oi_pair.specs.declared.view.View.{View}
use Rattle.oi_pair.specs.Lists.{StartsWith, numbers_of, times, IsRising}
use Rattle.oi_pair.specs.Views.{outside, opened, parted, branch, joined, met, nobody, HoldsNone, IsWhole, IsMet}
use Rattle.oi_pair.specs.Kept.{Slot, at_home, table_of, Place, Sits, Tied, Joint, Fits, Sound, Keep, Kept, Meets}
use Rattle.oi_pair.proofs.Lists.{off, bit_small, bit_past, at_end, total_set, total_end, total_one, others_none, times_append, longer_starts}
use Rattle.oi_pair.proofs.Places.{tied_splits, tied_joins, tied_meets}
use Rattle.oi_pair.proofs.Sounds.{fits_set, once_keep, parts_keep, whole_of, is_false, any, Steps, allows}

-- a new half
new_place : {E : Type 0} → Place E
new_place = record { list = []; drawn = []; holder = 0 }

module _ {E X : Type 0} where
  -- a seat that holds no half knows nothing of both
  fits_none : (p : Joint E X) (v : View E X) → HoldsNone v → (v.parts ≡ 0 → v.numbers ≡ []) → Fits p v
  fits_none p v none empty = record {
    told_forward = λ no. absurd (off (sym none.forward ∙ no));
    told_back = λ no. absurd (off (sym none.back ∙ no));
    both = λ no. absurd (off (sym none.forward ∙ no));
    left_there = λ no. absurd (off (sym none.forward ∙ no));
    left_all = λ no. absurd (off (sym none.forward ∙ no));
    new_forward = λ no. absurd (off (sym none.back ∙ no));
    idle = λ e. (empty e, none.forward, none.back);
  }

  -- the split
  split_sound : (ahead behind : Bool) (p : Joint E X) (views : List (View E X)) (id : ℕ) (v : View E X) → 2 ≤ v.parts → HoldsNone v → Sound ahead behind p views → get_elem? views id ≡ some v
      → Sound ahead behind p (set views id (parted v) ++ branch v ∷ [])
  split_sound ahead behind p views id v many none h at =
      let w = parted v in
      let r = branch v in
      let one = set views id w in record {
        forward = tied_splits (λ (x : View E X). x.forward) ahead p.counter p.forward views id v w r h.forward at refl refl refl;
        back = tied_splits (λ (x : View E X). x.back) behind p.counter p.back views id v w r h.back at refl refl refl;
        each = λ j u e. ⊎_elim
            (fits_set p views id w (λ j u apart e. h.each j u e) (fits_none p w record { forward = none.forward; back = none.back } (λ zero. absurd (omega arith))) j u)
            (λ (x : (j ≡ length one) × (r ≡ u)). subst (Fits p) x.1 (fits_none p r record { forward = refl; back = refl } (λ _. refl)))
            (at_end one r u j e);
        placed = h.placed;
        once = λ k.
            let a = total_end (λ (x : View E X). times k x.numbers) one r in
            let b = total_set (λ (x : View E X). times k x.numbers) views id v w at in
            let o = h.once k in
            omega arith;
        agree = h.agree;
        parts = (let a = total_end (λ (x : View E X). x.parts) one r in let b = total_set (λ (x : View E X). x.parts) views id v w at in let o = h.parts in omega arith);
      }

  -- the join
  join_sound : (ahead behind : Bool) (p : Joint E X) (views : List (View E X)) (id other : ℕ) (v u : View E X) → 0 < v.parts → HoldsNone v → HoldsNone u → Sound ahead behind p views → get_elem? views id ≡ some v → other ≢ id → get_elem? (set views id (joined v u)) other ≡ some u
      → Sound ahead behind p (set (set views id (joined v u)) other nobody)
  join_sound ahead behind p views id other v u alive none free h at apart there =
      let w = joined v u in
      let one = set views id w in record {
        forward = tied_joins (λ (x : View E X). x.forward) ahead p.counter p.forward views id other v u w nobody h.forward at apart there none.forward free.forward refl refl;
        back = tied_joins (λ (x : View E X). x.back) behind p.counter p.back views id other v u w nobody h.back at apart there none.back free.back refl refl;
        each = fits_set p one other nobody
            (λ j x away e. fits_set p views id w (λ i y _ d. h.each i y d) (fits_none p w record { forward = refl; back = refl } (λ zero. absurd (omega arith))) j x e)
            (fits_none p nobody record { forward = refl; back = refl } (λ _. refl));
        placed = h.placed;
        once = λ k.
            let a = total_set (λ (x : View E X). times k x.numbers) one other u nobody there in
            let b = total_set (λ (x : View E X). times k x.numbers) views id v w at in
            let c = times_append k v.numbers u.numbers in
            let o = h.once k in
            omega arith;
        agree = h.agree;
        parts = (let a = total_set (λ (x : View E X). x.parts) one other u nobody there in let b = total_set (λ (x : View E X). x.parts) views id v w at in let o = h.parts in omega arith);
      }

  -- what a seat finds after a join
  meets_told : (ahead behind : Bool) (p : Joint E X) (views : List (View E X)) (id : ℕ) (v : View E X) → Sound ahead behind p views → get_elem? views id ≡ some v → IsMet v
  meets_told ahead behind p views id v h at =
      let f = h.forward.each id v at in
      let b = h.back.each id v at in
      let x = longer_starts p.forward.list v.forward.seen v.forward.kept f.seen f.kept in
      let y = longer_starts p.back.list v.back.seen v.back.kept b.seen b.kept in record {
        forward = (x.1, x.2);
        back = (y.1, y.2);
        once = λ k. (let t = total_one (λ (x : View E X). times k x.numbers) views id v at in let o = h.once k in let s = bit_small (nat_lt k p.counter) in omega arith);
        parts = (let t = total_one (λ (x : View E X). x.parts) views id v at in let o = h.parts in omega arith);
      }

  one_view : (P : ℕ → View E X → Type 0) → P 0 opened → (id : ℕ) (v : View E X) → get_elem? (opened ∷ []) id ≡ some v → P id v
  one_view P h zero v e = subst (P 0) (some-injective opened v e) h
  one_view P h (suc id) v e = absurd (some-ne-none v (sym e))

  tied_new : (s : View E X → Side E) → s opened ≡ outside [] → Tied s false 0 new_place (opened ∷ [])
  unfolding new_place
  tied_new s new = record {
    each = one_view (λ id v. Sits false new_place id (s v) v.numbers)
        (subst (λ (d : Side E). Sits false new_place 0 d []) (sym new) record { seen = ([], refl); kept = ([], refl); holder = λ no. absurd (off no); carried = λ k. omega arith });
    held_by = λ no. absurd (off no);
    idle = λ _. refl;
    rising = tt;
    below = λ k no. absurd no;
    few = omega arith;
  }

  -- where one seat has all parts and holds nothing, no half is held
  none_held : (s : View E X → Side E) (held : Bool) (p : Joint E X) (q : Place E) (views : List (View E X)) (id : ℕ) (v : View E X) → Tied s held p.counter q views
      → get_elem? views id ≡ some v → (s v).holds ≡ false → ((j : ℕ) (u : View E X) → j ≢ id → get_elem? views j ≡ some u → (s u).holds ≡ false) → held ≡ false
  none_held s held p q views id v h at free others = is_false held (λ is.
      let k = h.held_by is in
      dite (ℕ_discrete q.holder id)
      (λ (same : q.holder ≡ id). off (sym free ∙ subst (λ (x : View E X). (s x).holds ≡ true) (some-injective k.0 v (sym k.1 ∙ (ap (λ (j : ℕ). get_elem? views j) same ∙ at))) k.2))
      (λ (apart : q.holder ≢ id). off (sym (others q.holder k.0 apart k.1) ∙ k.2)))

module _ {E X F B : Type 0} (fe : F → List (ℕ × E)) (fs : F → X) (be : B → List (ℕ × E)) (bs : B → X) where
  pub splits : (id : ℕ) (v : View E X) → 2 ≤ v.parts → HoldsNone v → Splits (Kept fe fs be bs) id v (parted v) (branch v)
  splits id v many none s h at =
      let both : State (Slot F B) (View E X) → State (Slot F B) (View E X) = λ t. record { words = t.words; homes = t.homes; views = set s.views id (parted v) ++ branch v ∷ [] } in
      (h.0, h.1, h.2, h.3, h.4, ap both h.5, h.6, split_sound h.0 h.1 h.2 s.views id v many none h.7 at)

  pub joins : (id : ℕ) (v : View E X) (other : ℕ) (u : View E X) → 0 < v.parts → HoldsNone v → HoldsNone u → Joins (Kept fe fs be bs) id v other u (joined v u) nobody
  joins id v other u alive none free s h at apart there =
      let both : State (Slot F B) (View E X) → State (Slot F B) (View E X) = λ t. record { words = t.words; homes = t.homes; views = set (set s.views id (joined v u)) other nobody } in
      (h.0, h.1, h.2, h.3, h.4, ap both h.5, h.6, join_sound h.0 h.1 h.2 s.views id other v u alive none free h.7 at apart there)

  meets_at : (id : ℕ) (v : View E X) (c : List (ℕ × Slot F B)) → 0 < v.parts → HoldsNone v → (ahead behind : Bool) (p : Joint E X) (f : F) (b : B) (views : List (View E X)) → Keep fe fs be bs ahead behind p f b → Sound ahead behind p views → get_elem? views id ≡ some v
      → Steps fe fs be bs id (v, c) 0 (λ n. n) (Meets any (v, c)) (table_of ahead behind p.counter f b views)
  meets_at id v c alive none ahead behind p f b views k h at =
      let w = met v in (
        w,
        keeps,
        tt,
        (
          ahead,
          behind,
          p,
          f,
          b,
          refl,
          k,
          record {
            forward = tied_meets (λ (x : View E X). x.forward) ahead p.counter p.forward views id v w h.forward at none.forward refl;
            back = tied_meets (λ (x : View E X). x.back) behind p.counter p.back views id v w h.back at none.back refl;
            each = fits_set p views id w (λ j u apart e. h.each j u e) (fits_none p w record { forward = refl; back = refl } (λ zero. absurd (omega arith)));
            placed = h.placed;
            once = once_keep p.counter views id v w at refl h.once;
            agree = h.agree;
            parts = parts_keep views id v w at refl h.parts;
          },
        ),
        (refl, meets_told ahead behind p views id v h at),
      )

  pub meets : (slots id : ℕ) (m : Me (Slot F B) (View E X)) → 0 < m.0.parts → HoldsNone m.0 → Allows (Kept fe fs be bs) slots id m 0 (λ n. n) (Meets any m)
  meets slots id m alive none = allows fe fs be bs slots id m 0 (λ n. n) (Meets any m) (meets_at id m.0 m.1 alive none)

  -- the rule holds of a new pair
  pub opens : (f : F) (b : B) → fe f ≡ [] → be b ≡ [] → fs f ≡ bs b → Kept fe fs be bs (opening (0 ∷ 0 ∷ 0 ∷ []) (Some (Forward f) ∷ Some (Back b) ∷ []) opened)
  unfolding new_place
  opens f b no_forward no_back same =
      let first : Joint E X = record { forward = new_place; back = new_place; counter = 0; shared = fs f } in (
        false,
        false,
        first,
        f,
        b,
        refl,
        record { forward = no_forward; back = no_back; forward_shared = λ _. refl; back_shared = λ _. sym same },
        record {
          forward = tied_new (λ (x : View E X). x.forward) refl;
          back = tied_new (λ (x : View E X). x.back) refl;
          each = one_view (λ id v. Fits first v) (fits_none first opened record { forward = refl; back = refl } (λ _. refl));
          placed = λ k below. absurd (omega arith);
          once = λ k. sym (bit_past k 0 (omega arith));
          agree = λ k x y no. absurd no;
          parts = refl;
        },
      )

  -- what a pair is at its end, for a seat that has all parts and holds nothing
  pub record Ends (v : View E X) (f : F) (b : B) : Type 0 where
    pub shared : fs f ≡ bs b
    pub whole : IsWhole v.numbers (fe f) (be b)
    pub seen : StartsWith (fe f) v.forward.seen × StartsWith (be b) v.back.seen
    pub rising : IsRising (numbers_of (fe f)) × IsRising (numbers_of (be b))

  -- both halves are at home in the slots
  pub record Closing (v : View E X) (slots : List (Slot F B)) : Type 0 where
    pub ahead : F
    pub behind : B
    pub slot_0 : get_elem? slots 0 ≡ some (Some (Forward ahead))
    pub slot_1 : get_elem? slots 1 ≡ some (Some (Back behind))
    pub ends : Ends v ahead behind

  closes_at : (id : ℕ) (v : View E X) → v.parts ≡ 65536 → HoldsNone v → (ahead behind : Bool) (p : Joint E X) (f : F) (b : B) (views : List (View E X)) → Keep fe fs be bs ahead behind p f b → Sound ahead behind p views → get_elem? views id ≡ some v
      → (slots : List (Slot F B)) → ((k : ℕ) (y : Slot F B) → get_elem? (at_home ahead (Some (Forward f)) ∷ at_home behind (Some (Back b)) ∷ []) k ≡ some (some y) → get_elem? slots k ≡ some y)
      → ahead ≡ false → behind ≡ false → Closing v slots
  closes_at id v all rests true behind p f b views k h at slots homes x y = absurd (off (sym x))
  closes_at id v all rests false true p f b views k h at slots homes x y = absurd (off (sym y))
  closes_at id v all rests false false p f b views k h at slots homes x y =
      let f_sits = h.forward.each id v at in
      let b_sits = h.back.each id v at in
      let f_free : p.forward.drawn ≡ [] = h.forward.idle refl in
      let b_free : p.back.drawn ≡ [] = h.back.idle refl in record {
        ahead = f;
        behind = b;
        slot_0 = homes 0 (Some (Forward f)) refl;
        slot_1 = homes 1 (Some (Back b)) refl;
        ends = record {
          shared = k.forward_shared refl ∙ sym (k.back_shared refl);
          whole = subst (λ (l : List (ℕ × E) × List (ℕ × E)). IsWhole v.numbers l.0 l.1) (λ i. (sym k.forward i, sym k.back i)) (whole_of false false p views id v h at all f_free b_free);
          seen = (subst (λ (l : List (ℕ × E)). StartsWith l v.forward.seen) (sym k.forward) f_sits.seen, subst (λ (l : List (ℕ × E)). StartsWith l v.back.seen) (sym k.back) b_sits.seen);
          rising = (
            subst (λ (l : List (ℕ × E)). IsRising (numbers_of l)) (sym k.forward) (subst IsRising (ap (λ (ns : List ℕ). numbers_of p.forward.list ++ ns) f_free ∙ append-nil (numbers_of p.forward.list)) h.forward.rising),
            subst (λ (l : List (ℕ × E)). IsRising (numbers_of l)) (sym k.back) (subst IsRising (ap (λ (ns : List ℕ). numbers_of p.back.list ++ ns) b_free ∙ append-nil (numbers_of p.back.list)) h.back.rising),
          );
        };
      }

  closes_seen : (id : ℕ) (v : View E X) (words : List ℕ) (slots : List (Slot F B)) → v.parts ≡ 65536 → HoldsNone v → Final (Seen (Kept fe fs be bs) id v) words slots → Closing v slots
  closes_seen id v words slots all rests end =
      let s = end.0 in
      let h = end.1.0 in
      let at = end.1.1 in
      let sound = h.7 in
      let idle : (j : ℕ) (u : View E X) → j ≢ id → get_elem? s.views j ≡ some u → (u.forward.holds ≡ false) × (u.back.holds ≡ false) = λ j u apart e.
      let t = (sound.each j u e).idle (others_none (λ (x : View E X). x.parts) s.views id j v u (λ e. apart (sym e)) at e (sound.parts ∙ sym all)) in (t.1, t.2) in
      closes_at id v all rests h.0 h.1 h.2 h.3 h.4 s.views h.6 sound at slots
      (λ k y e. end.4 k y (ap (λ (t : State (Slot F B) (View E X)). get_elem? t.homes k) h.5 ∙ e))
      (none_held (λ (x : View E X). x.forward) h.0 h.2 h.2.forward s.views id v sound.forward at rests.forward (λ j u apart e. (idle j u apart e).0))
      (none_held (λ (x : View E X). x.back) h.1 h.2 h.2.back s.views id v sound.back at rests.back (λ j u apart e. (idle j u apart e).1))

  same_forward : (x y : F) → ◌≡◌ {A = Slot F B} (Some (Forward x)) (Some (Forward y)) → x ≡ y
  same_forward x y e = cc

  same_back : (x y : B) → ◌≡◌ {A = Slot F B} (Some (Back x)) (Some (Back y)) → x ≡ y
  same_back x y e = cc

  -- the halves that stand in the slots of a table that was closed
  pub closes : (id : ℕ) (v k : View E X) (words : List ℕ) (slots later : List (Slot F B)) → v ≡ k → k.parts ≡ 65536 → HoldsNone k → Final (Seen (Kept fe fs be bs) id v) words slots
      → (x y : Slot F B) → get_elem? slots 0 ≡ some x → later ≡ slots → get_elem? later 1 ≡ some y
      → (f : F) × (b : B) × (x ≡ Some (Forward f)) × (y ≡ Some (Back b)) × Ends k f b
  closes id v k words slots later is all rests end x y slot_0 same slot_1 =
      let c = closes_seen id k words slots all rests (subst (λ (u : View E X). Final (Seen (Kept fe fs be bs) id u) words slots) is end) in (
        c.ahead,
        c.behind,
        some-injective x (Some (Forward c.ahead)) (sym slot_0 ∙ c.slot_0),
        some-injective y (Some (Back c.behind)) (sym slot_1 ∙ (ap (λ (l : List (Slot F B)). get_elem? l 1) same ∙ c.slot_1)),
        c.ends,
      )

  pub ends_are : (k : View E X) (x y : Slot F B) (f : F) (b : B) → ((f : F) × (b : B) × (x ≡ Some (Forward f)) × (y ≡ Some (Back b)) × Ends k f b) → x ≡ Some (Forward f) → y ≡ Some (Back b) → Ends k f b
  ends_are k x y f b c one two =
      subst (λ (h : F × B). Ends k h.0 h.1) (λ i. (same_forward c.0 f (sym c.2 ∙ one) i, same_back c.1 b (sym c.3 ∙ two) i)) c.4
