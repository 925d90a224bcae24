-- Each step keeps the rule of a pipe's table, and tells what it says.
use Rattle.std.proofs.Common.{◌≡◌, ◌≢◌, ◌⊎◌, ◌≤◌, ◌<◌, ◌-◌, eqb, ℕ, zero, suc, List, [], ◌∷◌, ◌++◌, length, take, drop, set, Some, Bool, true, false, true≢false, refl, sym, ap, ◌∙◌, subst, ⊎_elim, inl, inr, arith, length-append, append_assoc}
use Rattle.std.proofs.lemmas.List.{take-append-drop, length-drop, append-nil}
use Rattle.std.proofs.Math.Seq.{drop-append_seam}
use Rattle.std.specs.Prelude.{slice_index}
use mathlib.Core.Option.{none, some, some-ne-none, some-injective}
use mathlib.Core.Logic.{dite}
use native.Mathlib.Decide.{ℕ_discrete}
use prog.Atomic.{either}
use lib.ListN.{get_elem?}
use Rattle.atomic_table.specs.Table.{State, Me, Step, step, Act, keeps, takes, gives, stepped, Valid, carried_after, opening, rest, Allows, Splits, Joins}
use Rattle.atomic_table.proofs.Lists.{at_set, set_here, set_else, at_longer}
use Rattle.circular_buffer.specs.Buffer.{Buffer, buffer}
use Rattle.oi_base.specs.Counts.{bit}
use Rattle.oi_pipe.specs.declared.view.View.{View}
use Rattle.oi_pipe.specs.Views.{Slot, opened, reading, writing, met, nobody, entered, kept_out, left_full, left_read, left_written, saw_open, saw_closed, shut}
use Rattle.oi_pipe.specs.Kept.{Pipe, table_of, Fits, IsHolder, Sound, Kept, Tries, Leaves, LeavesFull, LeavesRead, LeavesWritten, Looks, Closes, Meets}

off : false ≡ true → ⊥
off e = true≢false (sym e)

is_false : (b : Bool) → (b ≡ true → ⊥) → b ≡ false
is_false true h = absurd (h refl)
is_false false h = refl

module _ {A : Type 0} where
  nil_of : (xs : List A) → length xs ≡ 0 → xs ≡ []
  nil_of [] e = refl
  nil_of (x ∷ xs) e = absurd (omega arith)

  in_range : (l : List A) (i : ℕ) (a : A) → get_elem? l i ≡ some a → i < length l
  in_range [] i a e = absurd (some-ne-none a (sym e))
  in_range (x ∷ xs) zero a e = omega arith
  in_range (x ∷ xs) (suc i) a e = let h : i < length xs = in_range xs i a e in omega arith

  at_end : (l : List A) (a b : A) (j : ℕ) → get_elem? (l ++ a ∷ []) j ≡ some b → (get_elem? l j ≡ some b) ⊎ ((j ≡ length l) × (a ≡ b))
  at_end [] a b zero e = inr (refl, some-injective a b e)
  at_end [] a b (suc j) e = absurd (some-ne-none b (sym e))
  at_end (x ∷ xs) a b zero e = inl e
  at_end (x ∷ xs) a b (suc j) e = ⊎_elim (λ t. inl t) (λ t. inr (ap suc t.0, t.1)) (at_end xs a b j e)

-- what is taken and what is left are the whole
cut : (xs over : List ℕ) (k : ℕ) → k ≤ length xs → over ≡ drop k xs → take (length xs - length over) xs ++ over ≡ xs
cut xs over k le e = let h : length xs - length over ≡ k = omega (arith, length-drop k xs, ap length e) in (λ i. take (h i) xs ++ e i) ∙ take-append-drop k xs

-- each view fits after the seat's view has changed, where each other one does, and this one
each_set : (room : ℕ) (held closed : Bool) (p : Pipe) (views : List View) (id : ℕ) (w : View)
    → ((j : ℕ) (u : View) → j ≢ id → get_elem? views j ≡ some u → Fits room held closed p j u) → Fits room held closed p id w
    → (j : ℕ) (u : View) → get_elem? (set views id w) j ≡ some u → Fits room held closed p j u
each_set room held closed p views id w others mine j u e =
    ⊎_elim
    (λ (x : (j ≡ id) × (w ≡ u)). subst (λ (y : ℕ × View). Fits room held closed p y.0 y.1) (λ i. (sym x.0 i, x.1 i)) mine)
    (λ (x : (j ≢ id) × (get_elem? views j ≡ some u)). others j u x.0 x.1)
    (at_set views id j w u e)

-- the seat that is inside stays so
holder_set : (views : List View) (id : ℕ) (v w : View) (k : ℕ) → get_elem? views id ≡ some v → (v.holds ≡ true → w.holds ≡ true) → IsHolder views k → IsHolder (set views id w) k
holder_set views id v w k at stays h =
    dite (ℕ_discrete k id)
    (λ (same : k ≡ id). (
      w,
      subst (λ (j : ℕ). get_elem? (set views id w) j ≡ some w) (sym same) (set_here views id w (in_range views id v at)),
      stays (subst (λ (x : View). x.holds ≡ true) (some-injective h.0 v (sym h.1 ∙ (ap (λ (j : ℕ). get_elem? views j) same ∙ at))) h.2),
    ))
    (λ (apart : k ≢ id). (h.0, set_else views id k w apart ∙ h.1, h.2))

-- only the seat's view has changed
stays : (room : ℕ) (held closed : Bool) (p : Pipe) (views : List View) (id : ℕ) (v w : View)
    → Sound room held closed p views → get_elem? views id ≡ some v → (v.holds ≡ true → w.holds ≡ true) → Fits room held closed p id w → Sound room held closed p (set views id w)
stays room held closed p views id v w h at keep mine = record {
  whole = h.whole;
  small = h.small;
  each = each_set room held closed p views id w (λ j u apart e. h.each j u e) mine;
  inside = λ is. holder_set views id v w p.holder at keep (h.inside is);
}

-- the seat can make the step in this table
abbrev Steps : ℕ → ℕ → Me Slot View → ℕ → (ℕ → ℕ) → (ℕ → Me Slot View → Type 0) → State Slot View → Type 0
Steps room id m i f tells t = (w : View) × (a : Act Slot) × Valid t.homes m.1 a × Kept room (stepped t i (f (slice_index t.words i)) id m.1 w a) × tells (slice_index t.words i) (w, carried_after m.1 a)

-- a step is allowed where it can be made in each table that the rule lets be
allows : (room slots id : ℕ) (m : Me Slot View) (i : ℕ) (f : ℕ → ℕ) (tells : ℕ → Me Slot View → Type 0)
    → ((held closed : Bool) (p : Pipe) (views : List View) → Sound room held closed p views → get_elem? views id ≡ some m.0 → Steps room id m i f tells (table_of room held closed p.bytes views))
    → Allows (Kept room) slots id m i f tells
allows room slots id m i f tells can s h len at fits = subst (Steps room id m i f tells) (sym h.3) (can h.0 h.1 h.2 s.views h.4 at)

-- no step's telling depends on the step's own record
abbrev any : Step Slot
any = step 0 0 0 0 none

-- the try
tries_at : (room id : ℕ) (v : View) → 0 < v.room → (held closed : Bool) (p : Pipe) (views : List View) → Sound room held closed p views → get_elem? views id ≡ some v
    → Steps room id (v, []) 0 (λ n. either (eqb n 0) 1 n) (Tries any (v, [])) (table_of room held closed p.bytes views)
tries_at room id v roomy true closed p views h at =
    let w = kept_out v in
    let f = h.each id v at in
    (w, keeps, tt, (true, closed, p, refl, stays room true closed p views id v w h at (λ x. x) record { roomy = f.roomy; reader = f.reader; writer = f.writer; holder = f.holder; ends = f.ends }), refl)
tries_at room id v roomy false closed p views h at =
    let w = entered v p.bytes in
    let q = record p { holder = id } in
    let f = h.each id v at in
    let e : v.room ≡ room = f.roomy roomy in
    let after : ℕ → Me Slot View = λ n. (w, (0, Some (buffer p.bytes n)) ∷ []) in (
      w,
      takes 0 (Some (buffer p.bytes room)),
      refl,
      (
        true,
        closed,
        q,
        refl,
        record {
          whole = h.whole;
          small = h.small;
          each = each_set room true closed q views id w
              (λ j u apart there. let g = h.each j u there in record { roomy = g.roomy; reader = g.reader; writer = g.writer; holder = λ holds. absurd (off (g.holder holds).1); ends = g.ends })
              record { roomy = f.roomy; reader = f.reader; writer = f.writer; holder = λ _. (refl, refl, refl); ends = f.ends };
          inside = λ _. (w, set_here views id w (in_range views id v at), refl);
        },
      ),
      (
        ap after (sym e),
        (let s = h.small in omega arith),
        (λ ended. (f.ends ended).1),
        (λ writes. let l = ap length ((f.writer writes).1 ∙ h.whole) in omega (arith, length-append p.taken p.bytes)),
      ),
    )

pub tries : (room slots id : ℕ) (m : Me Slot View) → m.1 ≡ [] → 0 < m.0.room → Allows (Kept room) slots id m 0 (λ n. either (eqb n 0) 1 n) (Tries any m)
tries room slots id m nothing roomy =
    subst (λ (c : List (ℕ × Slot)). Allows (Kept room) slots id (m.0, c) 0 (λ n. either (eqb n 0) 1 n) (Tries any (m.0, c))) (sym nothing)
    (allows room slots id (m.0, []) 0 (λ n. either (eqb n 0) 1 n) (Tries any (m.0, [])) (tries_at room id m.0 roomy))

-- a seat that was inside puts the bytes `over` back, and the lists become these
leave_at : (room id : ℕ) (v w : View) (over took gave : List ℕ) (closed : Bool) (p : Pipe) (views : List View)
    → Sound room true closed p views → get_elem? views id ≡ some v → v.holds ≡ true
    → gave ≡ took ++ over → length over ≤ room
    → (p.reader ≡ id) ⊎ (took ≡ p.taken) → (p.writer ≡ id) ⊎ (gave ≡ p.given) → (closed ≡ true → p.bytes ≡ [] → over ≡ [])
    → Fits room false closed record p { bytes = over; taken = took; given = gave } id w
    → Sound room false closed record p { bytes = over; taken = took; given = gave } (set views id w)
leave_at room id v w over took gave closed p views h at inside whole small reads writes ends mine =
    let q = record p { bytes = over; taken = took; given = gave } in
    let f = h.each id v at in record {
      whole = whole;
      small = small;
      each = each_set room false closed q views id w
          (λ j u apart there. let g = h.each j u there in record {
            roomy = g.roomy;
            reader = λ r. ((g.reader r).0, ⊎_elim (λ (me : p.reader ≡ id). absurd (apart ((g.reader r).0 ∙ me))) (λ (same : took ≡ p.taken). (g.reader r).1 ∙ sym same) reads);
            writer = λ r. ((g.writer r).0, ⊎_elim (λ (me : p.writer ≡ id). absurd (apart ((g.writer r).0 ∙ me))) (λ (same : gave ≡ p.given). (g.writer r).1 ∙ sym same) writes, (g.writer r).2);
            holder = λ r. absurd (apart ((g.holder r).0 ∙ sym (f.holder inside).0));
            ends = λ r. ((g.ends r).0, ends (g.ends r).0 (g.ends r).1);
          })
          mine;
      inside = λ is. absurd (off is);
    }

returned : (room id n : ℕ) (w : View) (bytes : List ℕ) (closed : Bool) (q : Pipe) (views : List View) → n ≡ room → Sound room false closed q (set views id w)
    → Kept room (stepped (table_of room true closed bytes views) 0 0 id ((0, Some (buffer q.bytes n)) ∷ []) w gives)
returned room id n w bytes closed q views e sound =
    let t : ℕ → State Slot View = λ k. record { words = 0 ∷ bit closed ∷ []; homes = some (Some (buffer q.bytes k)) ∷ []; views = set views id w } in
    (false, closed, q, ap t e, sound)

-- what a leave with the bytes as they were found makes of the view
abbrev waiting : View → ℕ → View
waiting v n = record v { holds = false; content = []; waits = n }

leaves_at : (room id n count : ℕ) (v : View) (over : List ℕ) (tells : ℕ → Me Slot View → Type 0) → ((found : ℕ) → tells found (waiting v count, [])) → 0 < v.room → n ≡ v.room → v.holds ≡ true → over ≡ v.content
    → (held closed : Bool) (p : Pipe) (views : List View) → Sound room held closed p views → get_elem? views id ≡ some v
    → Steps room id (v, (0, Some (buffer over n)) ∷ []) 0 (λ _. 0) tells (table_of room held closed p.bytes views)
leaves_at room id n count v over tells told roomy fits inside same false closed p views h at = absurd (off ((h.each id v at).holder inside).1)
leaves_at room id n count v over tells told roomy fits inside same true closed p views h at =
    let w = waiting v count in
    let f = h.each id v at in
    let e : over ≡ p.bytes = same ∙ (f.holder inside).2 in
    let q = record p { bytes = over } in (
      w,
      gives,
      tt,
      returned room id n w p.bytes closed q views (fits ∙ f.roomy roomy)
          (leave_at room id v w over p.taken p.given closed p views h at inside (h.whole ∙ ap (λ b. p.taken ++ b) (sym e)) (subst (λ (b : List ℕ). length b ≤ room) (sym e) h.small) (inr refl) (inr refl) (λ _ none. e ∙ none)
          record { roomy = f.roomy; reader = f.reader; writer = f.writer; holder = λ no. absurd (off no); ends = λ r. ((f.ends r).0, e ∙ (f.ends r).1) }),
      told 1,
    )

leaves_read_at : (room id n k : ℕ) (v : View) (over : List ℕ) → 0 < v.room → n ≡ v.room → v.holds ≡ true → v.reads ≡ true → k ≤ length v.content → over ≡ drop k v.content
    → (held closed : Bool) (p : Pipe) (views : List View) → Sound room held closed p views → get_elem? views id ≡ some v
    → Steps room id (v, (0, Some (buffer over n)) ∷ []) 0 (λ _. 0) (LeavesRead any (v, (0, Some (buffer over n)) ∷ [])) (table_of room held closed p.bytes views)
leaves_read_at room id n k v over roomy fits inside reads some_left is false closed p views h at = absurd (off ((h.each id v at).holder inside).1)
leaves_read_at room id n k v over roomy fits inside reads some_left is true closed p views h at =
    let w = left_read v over in
    let f = h.each id v at in
    let bytes : v.content ≡ p.bytes = (f.holder inside).2 in
    let part = take (length v.content - length over) v.content in
    let whole : p.given ≡ w.taken ++ over =
    h.whole ∙ (λ i. sym (f.reader reads).1 i ++ sym bytes i) ∙ ap (λ b. v.taken ++ b) (sym (cut v.content over k some_left is)) ∙ sym (append_assoc v.taken part over) in
    let shorter : length over ≤ length p.bytes = let l = ap length bytes in omega (arith, length-drop k v.content, ap length is) in
    let none_left : p.bytes ≡ [] → over ≡ [] = λ none. nil_of over (let l = ap length none in omega arith) in
    let q = record p { bytes = over; taken = w.taken } in (
      w,
      gives,
      tt,
      returned room id n w p.bytes closed q views (fits ∙ f.roomy roomy)
          (leave_at room id v w over w.taken p.given closed p views h at inside whole (let s = h.small in omega arith) (inl (sym (f.reader reads).0)) (inr refl) (λ _ none. none_left none)
          record { roomy = f.roomy; reader = λ r. ((f.reader r).0, refl); writer = f.writer; holder = λ no. absurd (off no); ends = λ r. ((f.ends r).0, none_left (f.ends r).1) }),
      refl,
    )

leaves_written_at : (room id n : ℕ) (v : View) (over added : List ℕ) → 0 < v.room → n ≡ v.room → v.holds ≡ true → v.writes ≡ true → v.closed ≡ false → over ≡ v.content ++ added → length over ≤ n
    → (held closed : Bool) (p : Pipe) (views : List View) → Sound room held closed p views → get_elem? views id ≡ some v
    → Steps room id (v, (0, Some (buffer over n)) ∷ []) 0 (λ _. 0) (LeavesWritten any (v, (0, Some (buffer over n)) ∷ [])) (table_of room held closed p.bytes views)
leaves_written_at room id n v over added roomy fits inside writes unclosed is small false closed p views h at = absurd (off ((h.each id v at).holder inside).1)
leaves_written_at room id n v over added roomy fits inside writes unclosed is small true closed p views h at =
    let w = left_written v over in
    let f = h.each id v at in
    let bytes : v.content ≡ p.bytes = (f.holder inside).2 in
    let back : drop (length v.content) over ≡ added = ap (drop (length v.content)) is ∙ drop-append_seam v.content added in
    let whole : w.given ≡ p.taken ++ over =
    (λ i. ((f.writer writes).1 ∙ h.whole) i ++ back i) ∙ append_assoc p.taken p.bytes added ∙ ap (λ b. p.taken ++ b) ((λ i. sym bytes i ++ added) ∙ sym is) in
    let still_open : closed ≡ true → ⊥ = λ shut_now. off (sym unclosed ∙ ((f.writer writes).2 ∙ shut_now)) in
    let q = record p { bytes = over; given = w.given } in
    let e : n ≡ room = fits ∙ f.roomy roomy in (
      w,
      gives,
      tt,
      returned room id n w p.bytes closed q views e
          (leave_at room id v w over p.taken w.given closed p views h at inside whole (omega arith) (inr refl) (inl (sym (f.writer writes).0)) (λ shut_now none. absurd (still_open shut_now))
          record { roomy = f.roomy; reader = f.reader; writer = λ r. ((f.writer r).0, refl, (f.writer r).2); holder = λ no. absurd (off no); ends = λ r. absurd (still_open (f.ends r).0) }),
      refl,
    )

-- the look, of a reader that is inside and has found nothing
looks_at : (room id : ℕ) (v : View) (c : List (ℕ × Slot)) → v.holds ≡ true → v.content ≡ [] → (held closed : Bool) (p : Pipe) (views : List View) → Sound room held closed p views → get_elem? views id ≡ some v
    → Steps room id (v, c) 1 (λ n. n) (Looks any (v, c)) (table_of room held closed p.bytes views)
looks_at room id v c inside empty held false p views h at =
    let w = saw_open v in
    let f = h.each id v at in
    (w, keeps, tt, (held, false, p, refl, stays room held false p views id v w h at (λ x. x) record { roomy = f.roomy; reader = f.reader; writer = f.writer; holder = f.holder; ends = f.ends }), (refl, is_false v.ended (λ r. off (f.ends r).0)))
looks_at room id v c inside empty held true p views h at =
    let w = saw_closed v in
    let f = h.each id v at in
    (w, keeps, tt, (held, true, p, refl, stays room held true p views id v w h at (λ x. x) record { roomy = f.roomy; reader = f.reader; writer = f.writer; holder = f.holder; ends = λ _. (refl, sym (f.holder inside).2 ∙ empty) }), refl)

-- the close
closes_at : (room id : ℕ) (v : View) → v.writes ≡ true → (held closed : Bool) (p : Pipe) (views : List View) → Sound room held closed p views → get_elem? views id ≡ some v
    → Steps room id (v, []) 1 (λ _. 1) (Closes any (v, [])) (table_of room held closed p.bytes views)
closes_at room id v writes held closed p views h at =
    let w = shut v in
    let f = h.each id v at in (
      w,
      keeps,
      tt,
      (
        held,
        true,
        p,
        refl,
        record {
          whole = h.whole;
          small = h.small;
          each = each_set room held true p views id w
              (λ j u apart there. let g = h.each j u there in record { roomy = g.roomy; reader = g.reader; writer = λ r. absurd (apart ((g.writer r).0 ∙ sym (f.writer writes).0)); holder = g.holder; ends = λ r. (refl, (g.ends r).1) })
              record { roomy = f.roomy; reader = f.reader; writer = λ r. ((f.writer r).0, (f.writer r).1, refl); holder = f.holder; ends = λ r. (refl, (f.ends r).1) };
          inside = λ is. holder_set views id v w p.holder at (λ x. x) (h.inside is);
        },
      ),
      refl,
    )

-- what the joined halves find: nothing was lost
meets_at : (room id : ℕ) (v : View) (c : List (ℕ × Slot)) → 0 < v.room → v.reads ≡ true → v.writes ≡ true → (held closed : Bool) (p : Pipe) (views : List View) → Sound room held closed p views → get_elem? views id ≡ some v
    → Steps room id (v, c) 0 (λ n. n) (Meets any (v, c)) (table_of room held closed p.bytes views)
meets_at room id v c roomy reads writes held closed p views h at =
    let f = h.each id v at in
    let e : v.room ≡ room = f.roomy roomy in
    let taken : v.taken ≡ p.taken = (f.reader reads).1 in
    let given : v.given ≡ p.given = (f.writer writes).1 in (
      v,
      keeps,
      tt,
      (held, closed, p, refl, stays room held closed p views id v v h at (λ x. x) f),
      (
        refl,
        record {
          inside = p.bytes;
          joined = given ∙ h.whole ∙ ap (λ t. t ++ p.bytes) (sym taken);
          few = (let s = h.small in omega arith);
          over = λ r. ((f.writer writes).2 ∙ (f.ends r).0, taken ∙ (sym (append-nil p.taken) ∙ ap (λ b. p.taken ++ b) (sym (f.ends r).1)) ∙ sym h.whole ∙ sym given);
        },
      ),
    )

-- the split
pub splits : (room id : ℕ) (v : View) → v.holds ≡ false → v.writes ≡ true → Splits (Kept room) id v (reading v) (writing v)
splits room id v outside writes s h at =
    let held = h.0 in
    let closed = h.1 in
    let p = h.2 in
    let sound = h.4 in
    let f = sound.each id v at in
    let one = set s.views id (reading v) in
    let q = record p { writer = length one } in
    let both : State Slot View → State Slot View = λ t. record { words = t.words; homes = t.homes; views = one ++ writing v ∷ [] } in (
      held,
      closed,
      q,
      ap both h.3,
      record {
        whole = sound.whole;
        small = sound.small;
        each = λ j u there. ⊎_elim
            (each_set room held closed q s.views id (reading v)
            (λ i x apart e. let g = sound.each i x e in record { roomy = g.roomy; reader = g.reader; writer = λ r. absurd (apart ((g.writer r).0 ∙ sym (f.writer writes).0)); holder = g.holder; ends = g.ends })
            record { roomy = f.roomy; reader = f.reader; writer = λ no. absurd (off no); holder = f.holder; ends = f.ends } j u)
            (λ (x : (j ≡ length one) × (writing v ≡ u)). subst (λ (y : ℕ × View). Fits room held closed q y.0 y.1) (λ i. (sym x.0 i, x.1 i))
            record { roomy = f.roomy; reader = λ no. absurd (off no); writer = λ _. (refl, (f.writer writes).1, (f.writer writes).2); holder = λ r. absurd (off (sym outside ∙ r)); ends = f.ends })
            (at_end one (writing v) u j there);
        inside = λ is. let k = holder_set s.views id v (reading v) p.holder at (λ x. x) (sound.inside is) in (k.0, at_longer one (writing v ∷ []) p.holder k.0 k.1, k.2);
      },
    )

-- the join
pub joins : (room id : ℕ) (v : View) (other : ℕ) (u : View) → u.writes ≡ true → u.holds ≡ false → Joins (Kept room) id v other u (met v u) nobody
joins room id v other u writes outside s h at apart there =
    let held = h.0 in
    let closed = h.1 in
    let p = h.2 in
    let sound = h.4 in
    let w = met v u in
    let f = sound.each id v at in
    let was : get_elem? s.views other ≡ some u = ⊎_elim (λ (x : (other ≡ id) × (w ≡ u)). absurd (apart x.0)) (λ (x : (other ≢ id) × (get_elem? s.views other ≡ some u)). x.1) (at_set s.views id other w u there) in
    let o = sound.each other u was in
    let q = record p { writer = id } in
    let one = set s.views id w in
    let both : State Slot View → State Slot View = λ t. record { words = t.words; homes = t.homes; views = set one other nobody } in (
      held,
      closed,
      q,
      ap both h.3,
      record {
        whole = sound.whole;
        small = sound.small;
        each = each_set room held closed q one other nobody
            (λ j x away e. ⊎_elim
            (λ (y : (j ≡ id) × (w ≡ x)). subst (λ (z : ℕ × View). Fits room held closed q z.0 z.1) (λ i. (sym y.0 i, y.1 i))
            record { roomy = f.roomy; reader = f.reader; writer = λ _. (refl, (o.writer writes).1, (o.writer writes).2); holder = f.holder; ends = f.ends })
            (λ (y : (j ≢ id) × (get_elem? s.views j ≡ some x)). let g = sound.each j x y.1 in record { roomy = g.roomy; reader = g.reader; writer = λ r. absurd (away ((g.writer r).0 ∙ sym (o.writer writes).0)); holder = g.holder; ends = g.ends })
            (at_set s.views id j w x e))
            record { roomy = λ none_there. absurd (omega arith); reader = λ no. absurd (off no); writer = λ no. absurd (off no); holder = λ no. absurd (off no); ends = λ no. absurd (off no) };
        inside = λ is. holder_set one other u nobody p.holder there (λ r. absurd (off (sym outside ∙ r))) (holder_set s.views id v w p.holder at (λ x. x) (sound.inside is));
      },
    )

-- the rule holds of a new table
pub opens : (room : ℕ) → Kept room (opening (0 ∷ 0 ∷ []) (Some (buffer [] room) ∷ []) (opened room))
opens room = (false, false, first, refl, record { whole = refl; small = omega arith; each = one; inside = λ is. absurd (off is) })
  where
    first : Pipe
    first = record { bytes = []; taken = []; given = []; reader = 0; writer = 0; holder = 0 }

    one : (id : ℕ) (v : View) → get_elem? (opened room ∷ []) id ≡ some v → Fits room false false first id v
    one zero v e = subst (Fits room false false first 0) (some-injective (opened room) v e) record { roomy = λ _. refl; reader = λ _. (refl, refl); writer = λ _. (refl, refl, refl); holder = λ no. absurd (off no); ends = λ no. absurd (off no) }
    one (suc id) v e = absurd (some-ne-none v (sym e))

-- The leaves, the look, the close and the last look, at a seat that is known
pub leaves : (room slots id : ℕ) (m : Me Slot View) (v : View) (b : Buffer ℕ) → m ≡ (v, (0, Some b) ∷ []) → 0 < v.room → v.holds ≡ true → b.items ≡ v.content → b.capacity ≡ v.room → Allows (Kept room) slots id m 0 (λ _. 0) (Leaves any m)
leaves room slots id m v b is roomy inside same fits =
    let c : Me Slot View = (v, (0, Some b) ∷ []) in
    subst (λ (n : Me Slot View). Allows (Kept room) slots id n 0 (λ _. 0) (Leaves any n)) (sym is)
    (allows room slots id c 0 (λ _. 0) (Leaves any c) (leaves_at room id b.capacity v.waits v b.items (Leaves any c) (λ _. refl) roomy fits inside same))

pub leaves_full : (room slots id : ℕ) (m : Me Slot View) (v : View) (b : Buffer ℕ) → m ≡ (v, (0, Some b) ∷ []) → 0 < v.room → v.holds ≡ true → b.items ≡ v.content → b.capacity ≡ v.room → Allows (Kept room) slots id m 0 (λ _. 0) (LeavesFull any m)
leaves_full room slots id m v b is roomy inside same fits =
    let c : Me Slot View = (v, (0, Some b) ∷ []) in
    subst (λ (n : Me Slot View). Allows (Kept room) slots id n 0 (λ _. 0) (LeavesFull any n)) (sym is)
    (allows room slots id c 0 (λ _. 0) (LeavesFull any c) (leaves_at room id b.capacity (left_full v).waits v b.items (LeavesFull any c) (λ _. refl) roomy fits inside same))

pub leaves_read : (room slots id k : ℕ) (m : Me Slot View) (v : View) (b : Buffer ℕ) → m ≡ (v, (0, Some b) ∷ []) → 0 < v.room → v.holds ≡ true → v.reads ≡ true → k ≤ length v.content → b.items ≡ drop k v.content → b.capacity ≡ v.room
    → Allows (Kept room) slots id m 0 (λ _. 0) (LeavesRead any m)
leaves_read room slots id k m v b is roomy inside reads within over fits =
    let c : Me Slot View = (v, (0, Some b) ∷ []) in
    subst (λ (n : Me Slot View). Allows (Kept room) slots id n 0 (λ _. 0) (LeavesRead any n)) (sym is)
    (allows room slots id c 0 (λ _. 0) (LeavesRead any c) (leaves_read_at room id b.capacity k v b.items roomy fits inside reads within over))

pub leaves_written : (room slots id : ℕ) (added : List ℕ) (m : Me Slot View) (v : View) (b : Buffer ℕ) → m ≡ (v, (0, Some b) ∷ []) → 0 < v.room → v.holds ≡ true → v.writes ≡ true → v.closed ≡ false → b.items ≡ v.content ++ added → b.capacity ≡ v.room → length b.items ≤ b.capacity
    → Allows (Kept room) slots id m 0 (λ _. 0) (LeavesWritten any m)
leaves_written room slots id added m v b is roomy inside writes unclosed more fits small =
    let c : Me Slot View = (v, (0, Some b) ∷ []) in
    subst (λ (n : Me Slot View). Allows (Kept room) slots id n 0 (λ _. 0) (LeavesWritten any n)) (sym is)
    (allows room slots id c 0 (λ _. 0) (LeavesWritten any c) (leaves_written_at room id b.capacity v b.items added roomy fits inside writes unclosed more small))

pub looks : (room slots id : ℕ) (m : Me Slot View) → m.0.holds ≡ true → m.0.content ≡ [] → Allows (Kept room) slots id m 1 (λ n. n) (Looks any m)
looks room slots id m inside empty = allows room slots id m 1 (λ n. n) (Looks any m) (looks_at room id m.0 m.1 inside empty)

pub closes : (room slots id : ℕ) (m : Me Slot View) → m.1 ≡ [] → m.0.writes ≡ true → Allows (Kept room) slots id m 1 (λ _. 1) (Closes any m)
closes room slots id m nothing writes =
    subst (λ (c : List (ℕ × Slot)). Allows (Kept room) slots id (m.0, c) 1 (λ _. 1) (Closes any (m.0, c))) (sym nothing)
    (allows room slots id (m.0, []) 1 (λ _. 1) (Closes any (m.0, [])) (closes_at room id m.0 writes))

pub meets : (room slots id : ℕ) (m : Me Slot View) → 0 < m.0.room → m.0.reads ≡ true → m.0.writes ≡ true → Allows (Kept room) slots id m 0 (λ n. n) (Meets any m)
meets room slots id m roomy reads writes = allows room slots id m 0 (λ n. n) (Meets any m) (meets_at room id m.0 m.1 roomy reads writes)

-- a seat that found the word free has the slot
pub taken_out : (m n : Me Slot View) (found : ℕ) → found ≡ 0 → Tries any m found n → (x : Slot) × (n.1 ≡ (0, x) ∷ rest n.1)
taken_out m n found free told =
    let tells : ℕ → Type 0 = λ k. Tries any m k n in
    let e : n ≡ (entered m.0 n.0.content, (0, Some (buffer n.0.content m.0.room)) ∷ []) = (subst tells free told).0 in
    let slots : n.1 ≡ (0, Some (buffer n.0.content m.0.room)) ∷ [] = ap (λ (k : Me Slot View). k.1) e in
    (Some (buffer n.0.content m.0.room), slots ∙ ap (λ (c : List (ℕ × Slot)). (0, Some (buffer n.0.content m.0.room)) ∷ rest c) (sym slots))
