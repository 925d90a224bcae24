-- The takes keep the rule, and tell what they say.
use Rattle.std.proofs.Common.{◌≡◌, ◌<◌, eqb, ℕ, List, [], ◌∷◌, ◌++◌, Some, Bool, true, false, refl, sym, ap, ◌∙◌, subst, arith}
use Rattle.std.proofs.lemmas.List.{append-nil}
use mathlib.Core.Option.{some}
use prog.Atomic.{either}
use lib.ListN.{get_elem?}
use Rattle.atomic_table.specs.Table.{Me, keeps, takes, rest, Allows}
use Rattle.oi_pair.specs.declared.half.Half.TheVariants.{Forward, Back}
use Rattle.oi_pair.specs.declared.view.View.{View}
use Rattle.oi_pair.specs.Lists.{StartsWith, numbers_of, IsRising, Agree}
use Rattle.oi_pair.specs.Views.{inside, took_forward, took_back, took_back_too, kept_out, HoldsNone, HoldsForward, IsWhole}
use Rattle.oi_pair.specs.Kept.{Slot, table_of, Joint, Fits, Sound, Keep, Kept, TookForward, TakesForward, TookBack, TakesBack, TookBackToo, TakesBackToo, TriesBack}
use Rattle.oi_pair.proofs.Lists.{off}
use Rattle.oi_pair.proofs.Places.{tied_keep, tied_takes}
use Rattle.oi_pair.proofs.Sounds.{fits_set, once_keep, parts_keep, whole_of, any, Steps, allows, fails}

module _ {E X F B : Type 0} (fe : F → List (ℕ × E)) (fs : F → X) (be : B → List (ℕ × E)) (bs : B → X) where
  -- the try for the forward half
  takes_forward_at : (id : ℕ) (v : View E X) → 0 < v.parts → HoldsNone v → (ahead behind : Bool) (p : Joint E X) (f : F) (b : B) (views : List (View E X)) → Keep fe fs be bs ahead behind p f b → Sound ahead behind p views → get_elem? views id ≡ some v
      → Steps fe fs be bs id (v, []) 0 (λ n. either (eqb n 0) 1 n) (TakesForward fe fs any (v, [])) (table_of ahead behind p.counter f b views)
  takes_forward_at id v alive free true behind p f b views k h at = (v, keeps, tt, (true, behind, p, f, b, refl, k, fails fe fs be bs id v v true behind p views h at refl refl refl refl (h.each id v at)), refl)
  takes_forward_at id v alive free false behind p f b views k h at =
      let w = took_forward v (fe f) (fs f) in
      let q = record p { forward = record (p.forward) { holder = id } } in
      let fits = h.each id v at in
      let sits = h.forward.each id v at in
      let tied = tied_takes (λ (x : View E X). x.forward) p.counter p.forward views id v w h.forward at (ap (λ (l : List (ℕ × E)). inside v.forward l) k.forward) refl in
      let mine : Fits q w = record {
        told_forward = λ _. ap Some (k.forward_shared refl);
        told_back = λ no. absurd (off (sym free.back ∙ no));
        both = λ _ no. absurd (off (sym free.back ∙ no));
        left_there = λ _ k no. absurd no;
        left_all = λ _ k e has new. absurd (omega arith);
        new_forward = λ no. absurd (off (sym free.back ∙ no));
        idle = λ none. absurd (omega arith);
      } in (
        w,
        takes 0 (Some (Forward f)),
        refl,
        (
          true,
          behind,
          q,
          f,
          b,
          refl,
          record { forward = k.forward; back = k.back; forward_shared = λ no. absurd (off (sym no)); back_shared = k.back_shared },
          record {
            forward = tied;
            back = tied_keep (λ (x : View E X). x.back) behind p.counter p.back views id v w h.back at refl (λ k. omega arith);
            each = fits_set q views id w (λ j u apart e. let g = h.each j u e in record { told_forward = g.told_forward; told_back = g.told_back; both = g.both; left_there = g.left_there; left_all = g.left_all; new_forward = g.new_forward; idle = g.idle }) mine;
            placed = h.placed;
            once = once_keep p.counter views id v w at refl h.once;
            agree = h.agree;
            parts = parts_keep views id v w at refl h.parts;
          },
        ),
        record {
          half = f;
          is = refl;
          seen = subst (λ (l : List (ℕ × E)). StartsWith l v.forward.seen) (sym k.forward) sits.seen;
          rising = subst (λ (l : List (ℕ × E)). IsRising (numbers_of l)) (sym k.forward) (subst IsRising (ap (λ (ns : List ℕ). numbers_of p.forward.list ++ ns) (h.forward.idle refl) ∙ append-nil (numbers_of p.forward.list)) h.forward.rising);
        },
      )

  -- the try for the back half alone
  takes_back_at : (id : ℕ) (v : View E X) → 0 < v.parts → HoldsNone v → (ahead behind : Bool) (p : Joint E X) (f : F) (b : B) (views : List (View E X)) → Keep fe fs be bs ahead behind p f b → Sound ahead behind p views → get_elem? views id ≡ some v
      → Steps fe fs be bs id (v, []) 1 (λ n. either (eqb n 0) 1 n) (TakesBack be bs any (v, [])) (table_of ahead behind p.counter f b views)
  takes_back_at id v alive free ahead true p f b views k h at = (v, keeps, tt, (ahead, true, p, f, b, refl, k, fails fe fs be bs id v v ahead true p views h at refl refl refl refl (h.each id v at)), refl)
  takes_back_at id v alive free ahead false p f b views k h at =
      let w = took_back v (be b) (bs b) in
      let q = record p { back = record (p.back) { holder = id } } in
      let sits = h.back.each id v at in
      let mine : Fits q w = record {
        told_forward = λ no. absurd (off (sym free.forward ∙ no));
        told_back = λ _. ap Some (k.back_shared refl);
        both = λ no. absurd (off (sym free.forward ∙ no));
        left_there = λ no. absurd (off (sym free.forward ∙ no));
        left_all = λ no. absurd (off (sym free.forward ∙ no));
        new_forward = λ _ k new. absurd (omega arith);
        idle = λ none. absurd (omega arith);
      } in (
        w,
        takes 1 (Some (Back b)),
        refl,
        (
          ahead,
          true,
          q,
          f,
          b,
          refl,
          record { forward = k.forward; back = k.back; forward_shared = k.forward_shared; back_shared = λ no. absurd (off (sym no)) },
          record {
            forward = tied_keep (λ (x : View E X). x.forward) ahead p.counter p.forward views id v w h.forward at refl (λ k. omega arith);
            back = tied_takes (λ (x : View E X). x.back) p.counter p.back views id v w h.back at (ap (λ (l : List (ℕ × E)). inside v.back l) k.back) refl;
            each = fits_set q views id w (λ j u apart e. let g = h.each j u e in record { told_forward = g.told_forward; told_back = g.told_back; both = g.both; left_there = g.left_there; left_all = g.left_all; new_forward = g.new_forward; idle = g.idle }) mine;
            placed = h.placed;
            once = once_keep p.counter views id v w at refl h.once;
            agree = h.agree;
            parts = parts_keep views id v w at refl h.parts;
          },
        ),
        record {
          half = b;
          is = refl;
          seen = subst (λ (l : List (ℕ × E)). StartsWith l v.back.seen) (sym k.back) sits.seen;
          rising = subst (λ (l : List (ℕ × E)). IsRising (numbers_of l)) (sym k.back) (subst IsRising (ap (λ (ns : List ℕ). numbers_of p.back.list ++ ns) (h.back.idle refl) ∙ append-nil (numbers_of p.back.list)) h.back.rising);
        },
      )

  -- the back half is taken beside the forward half
  takes_back_too_at : (id : ℕ) (v : View E X) (c : List (ℕ × Slot F B)) → 0 < v.parts → HoldsForward v → (ahead : Bool) (p : Joint E X) (f : F) (b : B) (views : List (View E X)) → Keep fe fs be bs ahead false p f b → Sound ahead false p views → get_elem? views id ≡ some v
      → Steps fe fs be bs id (v, c) 1 (λ n. either (eqb n 0) 1 n) (λ found n. TookBackToo be bs (v, c) n) (table_of ahead false p.counter f b views)
  takes_back_too_at id v c alive has ahead p f b views k h at =
      let w = took_back_too v (be b) in
      let q = record p { back = record (p.back) { holder = id } } in
      let fits = h.each id v at in
      let sits = h.back.each id v at in
      let front = (h.forward.each id v at).holder has.forward in
      let mine : Fits q w = record {
        told_forward = fits.told_forward;
        told_back = λ _. fits.told_forward has.forward;
        both = λ _ _ k. omega arith;
        left_there = fits.left_there;
        left_all = fits.left_all;
        new_forward = λ _ k new. absurd (omega arith);
        idle = λ none. absurd (omega arith);
      } in (
        w,
        takes 1 (Some (Back b)),
        refl,
        (
          ahead,
          true,
          q,
          f,
          b,
          refl,
          record { forward = k.forward; back = k.back; forward_shared = k.forward_shared; back_shared = λ no. absurd (off (sym no)) },
          record {
            forward = tied_keep (λ (x : View E X). x.forward) ahead p.counter p.forward views id v w h.forward at refl (λ k. omega arith);
            back = tied_takes (λ (x : View E X). x.back) p.counter p.back views id v w h.back at (ap (λ (l : List (ℕ × E)). inside v.back l) k.back) refl;
            each = fits_set q views id w (λ j u apart e. let g = h.each j u e in record { told_forward = g.told_forward; told_back = g.told_back; both = g.both; left_there = g.left_there; left_all = g.left_all; new_forward = g.new_forward; idle = g.idle }) mine;
            placed = h.placed;
            once = once_keep p.counter views id v w at refl h.once;
            agree = h.agree;
            parts = parts_keep views id v w at refl h.parts;
          },
        ),
        record {
          half = b;
          is = refl;
          found = record {
            seen = subst (λ (l : List (ℕ × E)). StartsWith l v.back.seen) (sym k.back) sits.seen;
            rising = subst (λ (l : List (ℕ × E)). IsRising (numbers_of l)) (sym k.back) (subst IsRising (ap (λ (ns : List ℕ). numbers_of p.back.list ++ ns) (h.back.idle refl) ∙ append-nil (numbers_of p.back.list)) h.back.rising);
            same = fits.told_forward has.forward ∙ ap Some (sym (k.back_shared refl));
            alike = subst (λ (l : List (ℕ × E) × List (ℕ × E)). Agree l.0 l.1) (λ i. (sym front.2 i, sym k.back i)) h.agree;
            whole = λ all none. subst (λ (l : List (ℕ × E) × List (ℕ × E)). IsWhole v.numbers l.0 l.1) (λ i. (sym front.2 i, sym k.back i)) (whole_of ahead false p views id v h at all (sym front.3 ∙ none) (h.back.idle refl));
          };
        },
      )

  pub takes_forward : (slots id : ℕ) (m : Me (Slot F B) (View E X)) → m.1 ≡ [] → 0 < m.0.parts → HoldsNone m.0 → Allows (Kept fe fs be bs) slots id m 0 (λ n. either (eqb n 0) 1 n) (TakesForward fe fs any m)
  takes_forward slots id m nothing alive free =
      subst (λ (c : List (ℕ × Slot F B)). Allows (Kept fe fs be bs) slots id (m.0, c) 0 (λ n. either (eqb n 0) 1 n) (TakesForward fe fs any (m.0, c))) (sym nothing)
      (allows fe fs be bs slots id (m.0, []) 0 (λ n. either (eqb n 0) 1 n) (TakesForward fe fs any (m.0, [])) (takes_forward_at id m.0 alive free))

  pub takes_back : (slots id : ℕ) (m : Me (Slot F B) (View E X)) → m.1 ≡ [] → 0 < m.0.parts → HoldsNone m.0 → Allows (Kept fe fs be bs) slots id m 1 (λ n. either (eqb n 0) 1 n) (TakesBack be bs any m)
  takes_back slots id m nothing alive free =
      subst (λ (c : List (ℕ × Slot F B)). Allows (Kept fe fs be bs) slots id (m.0, c) 1 (λ n. either (eqb n 0) 1 n) (TakesBack be bs any (m.0, c))) (sym nothing)
      (allows fe fs be bs slots id (m.0, []) 1 (λ n. either (eqb n 0) 1 n) (TakesBack be bs any (m.0, [])) (takes_back_at id m.0 alive free))

  waits_too : (id : ℕ) (m : Me (Slot F B) (View E X)) → 0 < m.0.parts → HoldsForward m.0 → (ahead behind : Bool) (p : Joint E X) (f : F) (b : B) (views : List (View E X)) → Keep fe fs be bs ahead behind p f b → Sound ahead behind p views → get_elem? views id ≡ some m.0
      → Steps fe fs be bs id m 1 (λ n. either (eqb n 0) 1 n) (TakesBackToo be bs any m) (table_of ahead behind p.counter f b views)
  waits_too id m alive has ahead true p f b views k h at = (m.0, keeps, tt, (ahead, true, p, f, b, refl, k, fails fe fs be bs id m.0 m.0 ahead true p views h at refl refl refl refl (h.each id m.0 at)), refl)
  waits_too id m alive has ahead false p f b views k h at = takes_back_too_at id m.0 m.1 alive has ahead p f b views k h at

  pub takes_back_too : (slots id : ℕ) (m : Me (Slot F B) (View E X)) → 0 < m.0.parts → HoldsForward m.0 → Allows (Kept fe fs be bs) slots id m 1 (λ n. either (eqb n 0) 1 n) (TakesBackToo be bs any m)
  takes_back_too slots id m alive has = allows fe fs be bs slots id m 1 (λ n. either (eqb n 0) 1 n) (TakesBackToo be bs any m) (waits_too id m alive has)

  tries_once : (id : ℕ) (m : Me (Slot F B) (View E X)) → 0 < m.0.parts → HoldsForward m.0 → (ahead behind : Bool) (p : Joint E X) (f : F) (b : B) (views : List (View E X)) → Keep fe fs be bs ahead behind p f b → Sound ahead behind p views → get_elem? views id ≡ some m.0
      → Steps fe fs be bs id m 1 (λ n. either (eqb n 0) 1 n) (TriesBack be bs any m) (table_of ahead behind p.counter f b views)
  tries_once id m alive has ahead true p f b views k h at =
      let g = h.each id m.0 at in
      let w = kept_out m.0 in
      (w, keeps, tt, (ahead, true, p, f, b, refl, k, fails fe fs be bs id m.0 w ahead true p views h at refl refl refl refl record { told_forward = g.told_forward; told_back = g.told_back; both = g.both; left_there = g.left_there; left_all = g.left_all; new_forward = g.new_forward; idle = g.idle }), refl)
  tries_once id m alive has ahead false p f b views k h at = takes_back_too_at id m.0 m.1 alive has ahead p f b views k h at

  pub tries_back : (slots id : ℕ) (m : Me (Slot F B) (View E X)) → 0 < m.0.parts → HoldsForward m.0 → Allows (Kept fe fs be bs) slots id m 1 (λ n. either (eqb n 0) 1 n) (TriesBack be bs any m)
  tries_back slots id m alive has = allows fe fs be bs slots id m 1 (λ n. either (eqb n 0) 1 n) (TriesBack be bs any m) (tries_once id m alive has)

-- the slot that a seat took
module _ {E X F B : Type 0} where
  -- a slot that was taken stands first among those that are out
  out_of : (v : View E X) (k : ℕ) (x : Slot F B) (c : List (ℕ × Slot F B)) (n : Me (Slot F B) (View E X)) → n ≡ (v, (k, x) ∷ c) → n.1 ≡ (k, x) ∷ rest n.1
  out_of v k x c n is =
      let slots : n.1 ≡ (k, x) ∷ c = ap (λ (m : Me (Slot F B) (View E X)). m.1) is in
      slots ∙ ap (λ (d : List (ℕ × Slot F B)). (k, x) ∷ rest d) (sym slots)

  pub out_forward : (fe : F → List (ℕ × E)) (fs : F → X) (m n : Me (Slot F B) (View E X)) (found : ℕ) → found ≡ 0 → TakesForward fe fs any m found n → (x : Slot F B) × (n.1 ≡ (0, x) ∷ rest n.1)
  out_forward fe fs m n found free told =
      let t : TookForward fe fs m n = subst (λ (k : ℕ). TakesForward fe fs any m k n) free told in
      (Some (Forward t.half), out_of (took_forward m.0 (fe t.half) (fs t.half)) 0 (Some (Forward t.half)) m.1 n t.is)

  pub out_back : (be : B → List (ℕ × E)) (bs : B → X) (m n : Me (Slot F B) (View E X)) (found : ℕ) → found ≡ 0 → TakesBack be bs any m found n → (x : Slot F B) × (n.1 ≡ (1, x) ∷ rest n.1)
  out_back be bs m n found free told =
      let t : TookBack be bs m n = subst (λ (k : ℕ). TakesBack be bs any m k n) free told in
      (Some (Back t.half), out_of (took_back m.0 (be t.half) (bs t.half)) 1 (Some (Back t.half)) m.1 n t.is)

  pub out_back_too : (be : B → List (ℕ × E)) (bs : B → X) (m n : Me (Slot F B) (View E X)) (found : ℕ) → found ≡ 0 → TakesBackToo be bs any m found n → (x : Slot F B) × (n.1 ≡ (1, x) ∷ rest n.1)
  out_back_too be bs m n found free told =
      let t : TookBackToo be bs m n = subst (λ (k : ℕ). TakesBackToo be bs any m k n) free told in
      (Some (Back t.half), out_of (took_back_too m.0 (be t.half)) 1 (Some (Back t.half)) m.1 n t.is)

  pub out_tried : (be : B → List (ℕ × E)) (bs : B → X) (m n : Me (Slot F B) (View E X)) (found : ℕ) → found ≡ 0 → TriesBack be bs any m found n → (x : Slot F B) × (n.1 ≡ (1, x) ∷ rest n.1)
  out_tried be bs m n found free told =
      let t : TookBackToo be bs m n = subst (λ (k : ℕ). TriesBack be bs any m k n) free told in
      (Some (Back t.half), out_of (took_back_too m.0 (be t.half)) 1 (Some (Back t.half)) m.1 n t.is)
