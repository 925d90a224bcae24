-- That the set of pairs of time and key and the list of times by key stay alike, and what the first pair is.
use Rattle.std.proofs.Common.{ℕ, Bool, true, false, cond, ◌&&◌, ◌≡◌, ◌<◌, ◌≤◌, ◌∙◌, List, [], ◌∷◌, Option, Some, None, refl, sym, ap, arith, IsTrue, IfNone, length}
use Rattle.std.proofs.Math.Dec.{eqb}
use Rattle.std.proofs.lemmas.Bool.{eqb-true, eq-eqb}
use Rattle.std.proofs.lemmas.Map.Entries.{lookup_head}
use Rattle.std.proofs.lemmas.Map.Keys.{le_from_not_gt}
use Rattle.std.specs.List.{list_any}
use Rattle.std.specs.declared.cmp.Ordering.{Ordering}
use Rattle.std.specs.declared.cmp.Ordering.TheVariants.{Less, Equal, Greater}
use Rattle.std.specs.Ordering.{nat_cmp, ordering_then, is_gt}
use Rattle.std.specs.Cmp.{nat_cmp_is, tied_then, unsigned_ties}
use Rattle.std.specs.BTreeMap.{BTreeMap, is_at, Updates as UpdatesMap}
use Rattle.std.specs.BTreeSet.{BTreeSet, contains, Updates as UpdatesSet, IsLowerBound}
use Rattle.oi_timers.specs.Agenda.{Agree, IsFirst, NoneDue, is_time, pair_cmp, time_of}

is_at-key : (k q : ℕ) → is_at (nat_cmp k) q ≡ eqb k q
is_at-key k q = sym (unsigned_ties k q)

is_at-pair : (a k t q : ℕ) → is_at (pair_cmp (a, k)) (t, q) ≡ (eqb a t && eqb k q)
is_at-pair a k t q = sym (tied_then (nat_cmp a t) (nat_cmp k q)) ∙ (λ i. is_at-key a t i && is_at-key k q i)

-- p: it is this key; u: it is the time that comes or goes; x and y: whether the pair is there before, and has to be after
added : (p u x y : Bool) → (p ≡ true → u ≡ false → x ≡ false) → (p ≡ true → y ≡ u) → (p ≡ false → y ≡ x) → cond (u && p) true x ≡ y
added false false x y none is stays = sym (stays refl)
added false true x y none is stays = sym (stays refl)
added true true x y none is stays = sym (is refl)
added true false x y none is stays = none refl refl ∙ sym (is refl)

taken : (p u x y : Bool) → (p ≡ true → x ≡ u) → (p ≡ true → y ≡ false) → (p ≡ false → y ≡ x) → cond (u && p) false x ≡ y
taken false false x y was is stays = sym (stays refl)
taken false true x y was is stays = sym (stays refl)
taken true true x y was is stays = sym (is refl)
taken true false x y was is stays = was refl ∙ sym (is refl)

-- v: it is the time that the key had
moved : (p u v x y : Bool) → (p ≡ true → x ≡ v) → (u ≡ true → v ≡ true → false ≡ true) → (p ≡ true → y ≡ u) → (p ≡ false → y ≡ x) → cond (v && p) false (cond (u && p) true x) ≡ y
moved false false false x y was apart is stays = sym (stays refl)
moved false true false x y was apart is stays = sym (stays refl)
moved false false true x y was apart is stays = sym (stays refl)
moved false true true x y was apart is stays = sym (stays refl)
moved true true true x y was apart is stays = apart refl refl ∙ sym (is refl)
moved true true false x y was apart is stays = sym (is refl)
moved true false true x y was apart is stays = sym (is refl)
moved true false false x y was apart is stays = was refl ∙ sym (is refl)

undone : (p u x y : Bool) → (p ≡ true → x ≡ false) → y ≡ x → cond (u && p) false (cond (u && p) true x) ≡ y
undone false false x y none same = sym same
undone false true x y none same = sym same
undone true true x y none same = sym (same ∙ none refl)
undone true false x y none same = sym same

module _ (m n : BTreeMap ℕ ℕ) (s : BTreeSet (ℕ × ℕ)) (key : ℕ) where
  -- the time of a key after a change at `key`
  time_after : (w : Option ℕ) → UpdatesMap nat_cmp m n key w → (q : ℕ) → time_of n.entries q ≡ cond (eqb key q) w (time_of m.entries q)
  time_after w u q = u.0 q ∙ ap (λ b. cond b w (time_of m.entries q)) (is_at-key key q)

  -- at `key`, and at the others
  time_here : (w : Option ℕ) → UpdatesMap nat_cmp m n key w → (q t : ℕ) → eqb key q ≡ true → is_time (time_of n.entries q) t ≡ is_time w t
  time_here w u q t p = ap (λ (o : Option ℕ). is_time o t) (time_after w u q ∙ ap (λ b. cond b w (time_of m.entries q)) p)

  time_there : (w : Option ℕ) → UpdatesMap nat_cmp m n key w → (q t : ℕ) → eqb key q ≡ false → is_time (time_of n.entries q) t ≡ is_time (time_of m.entries q) t
  time_there w u q t p = ap (λ (o : Option ℕ). is_time o t) (time_after w u q ∙ ap (λ b. cond b w (time_of m.entries q)) p)

  -- what the time of `key` was
  time_was : (o : Option ℕ) → time_of m.entries key ≡ o → (q t : ℕ) → eqb key q ≡ true → is_time (time_of m.entries q) t ≡ is_time o t
  time_was o e q t p = ap (λ (k : ℕ). is_time (time_of m.entries k) t) (sym (eqb-true key q p)) ∙ ap (λ (o : Option ℕ). is_time o t) e

-- whether a pair is there after a change at another
pair_after : (s s' : BTreeSet (ℕ × ℕ)) (a k : ℕ) (b : Bool) → UpdatesSet pair_cmp s s' (a, k) b → (q t : ℕ) → contains pair_cmp s' (t, q) ≡ cond (eqb a t && eqb k q) b (contains pair_cmp s (t, q))
pair_after s s' a k b u q t = u.0 (t, q) ∙ ap (λ p. cond p b (contains pair_cmp s (t, q))) (is_at-pair a k t q)

-- the key had no time, and gets this one
pub Agree-new : (m n : BTreeMap ℕ ℕ) (s s' : BTreeSet (ℕ × ℕ)) (key at : ℕ) → Agree m.entries s → UpdatesSet pair_cmp s s' (at, key) true → UpdatesMap nat_cmp m n key (Some at) → None ≡ time_of m.entries key → Agree n.entries s'
Agree-new m n s s' key at agree pairs times none = λ q t.
    pair_after s s' at key true pairs q t
    ∙ added (eqb key q) (eqb at t) _ _
    (λ p _. agree q t ∙ time_was m n s key None (sym none) q t p)
    (λ p. time_here m n s key (Some at) times q t p)
    (λ p. time_there m n s key (Some at) times q t p ∙ sym (agree q t))

-- the key has this time already
pub Agree-same : (m n : BTreeMap ℕ ℕ) (s s' : BTreeSet (ℕ × ℕ)) (key at : ℕ) → Agree m.entries s → UpdatesSet pair_cmp s s' (at, key) true → UpdatesMap nat_cmp m n key (Some at) → Some at ≡ time_of m.entries key → Agree n.entries s'
Agree-same m n s s' key at agree pairs times same = λ q t.
    pair_after s s' at key true pairs q t
    ∙ added (eqb key q) (eqb at t) _ _
    (λ p u. agree q t ∙ time_was m n s key (Some at) (sym same) q t p ∙ u)
    (λ p. time_here m n s key (Some at) times q t p)
    (λ p. time_there m n s key (Some at) times q t p ∙ sym (agree q t))

-- the key had another time
pub Agree-moved : (m n : BTreeMap ℕ ℕ) (s s' s'' : BTreeSet (ℕ × ℕ)) (key at old : ℕ) → Agree m.entries s → UpdatesSet pair_cmp s s' (at, key) true → UpdatesMap nat_cmp m n key (Some at) → UpdatesSet pair_cmp s' s'' (old, key) false → Some old ≡ time_of m.entries key → eqb old at ≡ false → Agree n.entries s''
Agree-moved m n s s' s'' key at old agree pairs times gone was apart = λ q t.
    pair_after s' s'' old key false gone q t
    ∙ ap (λ x. cond (eqb old t && eqb key q) false x) (pair_after s s' at key true pairs q t)
    ∙ moved (eqb key q) (eqb at t) (eqb old t) _ _
    (λ p. agree q t ∙ time_was m n s key (Some old) (sym was) q t p)
    (λ u v. sym apart ∙ eq-eqb old at (eqb-true old t v ∙ sym (eqb-true at t u)))
    (λ p. time_here m n s key (Some at) times q t p)
    (λ p. time_there m n s key (Some at) times q t p ∙ sym (agree q t))

-- want of memory: the pair goes out again
pub Agree-undone : (m n : BTreeMap ℕ ℕ) (s s' s'' : BTreeSet (ℕ × ℕ)) (key at : ℕ) → Agree m.entries s → UpdatesSet pair_cmp s s' (at, key) true → UpdatesSet pair_cmp s' s'' (at, key) false → n.entries ≡ m.entries → time_of m.entries key ≡ None → Agree n.entries s''
Agree-undone m n s s' s'' key at agree pairs gone same none = λ q t.
    pair_after s' s'' at key false gone q t
    ∙ ap (λ x. cond (eqb at t && eqb key q) false x) (pair_after s s' at key true pairs q t)
    ∙ undone (eqb key q) (eqb at t) _ _
    (λ p. agree q t ∙ time_was m n s key None none q t p)
    (ap (λ (es : List (ℕ × ℕ)). is_time (time_of es q) t) same ∙ sym (agree q t))

-- the key and its pair go out
pub Agree-taken : (m n : BTreeMap ℕ ℕ) (s s' : BTreeSet (ℕ × ℕ)) (key at : ℕ) → Agree m.entries s → UpdatesSet pair_cmp s s' (at, key) false → UpdatesMap nat_cmp m n key None → time_of m.entries key ≡ Some at → Agree n.entries s'
Agree-taken m n s s' key at agree gone times was = λ q t.
    pair_after s s' at key false gone q t
    ∙ taken (eqb key q) (eqb at t) _ _
    (λ p. agree q t ∙ time_was m n s key (Some at) was q t p)
    (λ p. time_here m n s key None times q t p)
    (λ p. time_there m n s key None times q t p ∙ sym (agree q t))

time_is : (o : Option ℕ) (at : ℕ) → is_time o at ≡ true → o ≡ Some at
time_is None at h = cc
time_is (Some t) at h = ap (λ (n : ℕ). Some n) (eqb-true t at h)

-- each time of the list is a pair of the set
pair_of : (times : List (ℕ × ℕ)) (s : BTreeSet (ℕ × ℕ)) → Agree times s → (k t : ℕ) → time_of times k ≡ Some t → contains pair_cmp s (t, k) ≡ true
pair_of times s agree k t h = agree k t ∙ ap (λ (o : Option ℕ). is_time o t) h ∙ eq-eqb t t refl

first_not_gt : (a b : Ordering) → is_gt (ordering_then a b) ≡ false → is_gt a ≡ false
first_not_gt Less b h = refl
first_not_gt Equal b h = refl
first_not_gt Greater b h = h

second_not_gt : (a b : Ordering) → a ≡ Equal → is_gt (ordering_then a b) ≡ false → is_gt b ≡ false
second_not_gt Less b e h = cc
second_not_gt Equal b e h = h
second_not_gt Greater b e h = cc

-- the least pair of the set is the first time of the list
pub IsFirst-least : (times : List (ℕ × ℕ)) (s : BTreeSet (ℕ × ℕ)) (key at : ℕ) → Agree times s → IsTrue (contains pair_cmp s (at, key)) → IsLowerBound pair_cmp s (at, key) → IsFirst times key at
IsFirst-least times s key at agree member least = record {
  held = time_is _ at (sym (agree key at) ∙ member);
  earliest = λ k t h. le_from_not_gt at t (first_not_gt (nat_cmp at t) (nat_cmp key k) (least (t, k) (pair_of times s agree k t h)));
  least = λ k h. le_from_not_gt key k (second_not_gt (nat_cmp at at) (nat_cmp key k) (sym (nat_cmp_is at at Equal refl)) (least (at, k) (pair_of times s agree k at h)));
}

none_among : (test : ℕ × ℕ → Bool) (ks : List (ℕ × ℕ)) → (0 < length ks → ⊥) → list_any test ks ≡ false
none_among test [] h = refl
none_among test (k ∷ ks) h = absurd (h (omega arith))

-- no pair, no time
pub no_times : (times : List (ℕ × ℕ)) (s : BTreeSet (ℕ × ℕ)) → Agree times s → (0 < length s.keys → ⊥) → (k t : ℕ) → time_of times k ≡ Some t → ⊥
no_times times s agree empty k t h =
    let e : false ≡ true = sym (none_among (is_at (pair_cmp (t, k))) s.keys empty) ∙ pair_of times s agree k t h in cc

pub empty_list : (times : List (ℕ × ℕ)) → ((k t : ℕ) → time_of times k ≡ Some t → ⊥) → times ≡ []
empty_list [] h = refl
empty_list (e ∷ es) h = absurd (h e.0 e.1 (lookup_head (is_at (nat_cmp e.0)) e es (is_at-key e.0 e.0 ∙ eq-eqb e.0 e.0 refl)))

-- before the first time none is due
pub NoneDue-before : (times : List (ℕ × ℕ)) (key at now : ℕ) → IsFirst times key at → now < at → NoneDue times now
NoneDue-before times key at now first early = λ k t h. let le : at ≤ t = first.earliest k t h in omega arith

pub IfNone-any : (o : Option ℕ) (P : Type 0) → P → IfNone o P
IfNone-any None P p = p
IfNone-any (Some x) P p = tt
