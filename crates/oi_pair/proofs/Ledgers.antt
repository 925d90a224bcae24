-- Halves that are plain lists of entries.
use Rattle.std.proofs.Common.{◌≡◌, ℕ, List, [], ◌∷◌, ◌++◌, length, drop, Bool, true, false, Option, Some, refl, sym, ap, ◌∙◌, subst, ⊎_elim, inl, arith}
use Rattle.std.proofs.lemmas.List.{append-nil}
use Rattle.std.proofs.Math.Seq.{drop-append_seam}
use Rattle.oi_pair.specs.declared.ledger.Mark.{Mark}
use Rattle.oi_pair.specs.declared.view.Side.{Side}
use Rattle.oi_pair.specs.declared.view.View.{View}
use Rattle.oi_pair.specs.Lists.{Has, numbers_of, IsPart, AllAbove, IsRising, Agree}
use Rattle.oi_pair.specs.Views.{added, IsGrown, left_back, MayLeaveBack, MayLeaveForward}
use Rattle.oi_pair.specs.Ledgers.{joint_before, joint_of, IsJoint, IsOwn}
use Rattle.oi_pair.proofs.Lists.{off, has_right, has_number}
use Rattle.oi_pair.proofs.Sounds.{same_some}

joint_before_append : (b : Bool) (e : ℕ × Mark) (xs ys : List (ℕ × Mark)) → joint_before b e (xs ++ ys) ≡ joint_before b e xs ++ ys
joint_before_append true e xs ys = refl
joint_before_append false e xs ys = refl

pub joint_append : (xs ys : List (ℕ × Mark)) → joint_of (xs ++ ys) ≡ joint_of xs ++ joint_of ys
joint_append [] ys = refl
joint_append (x ∷ xs) ys = ap (joint_before x.1.joint x) (joint_append xs ys) ∙ joint_before_append x.1.joint x (joint_of xs) (joint_of ys)

module _ {E : Type 0} where
  -- the last entry of a list stands in it
  pub has_last : (xs : List (ℕ × E)) (e : ℕ × E) → Has (xs ++ e ∷ []) e
  has_last xs e = has_right xs (e ∷ []) e (inl refl)

  -- what was added to a list, where it is one entry
  pub drop_last : (xs : List (ℕ × E)) (e : ℕ × E) → drop (length xs) (xs ++ e ∷ []) ≡ e ∷ []
  drop_last xs e = drop-append_seam xs (e ∷ [])

-- all numbers are some of them
part_same : (ns : List ℕ) → IsPart ns ns
part_same [] = tt
part_same (n ∷ ns) = inl (refl, part_same ns)

part_of : (ms ns : List ℕ) → ns ≡ ms → IsPart ms ns
part_of ms ns same = subst (IsPart ms) (sym same) (part_same ms)

-- a number that all others are above is none of them
above_apart : (k : ℕ) (ns : List ℕ) → AllAbove k ns → Has ns k → ⊥
above_apart k [] above has = has
above_apart k (n ∷ ns) above has = ⊎_elim (λ (e : n ≡ k). (let a = above.0 in omega arith)) (λ (t : Has ns k). above_apart k ns above.1 t) has

module _ {E : Type 0} where
  -- entries whose numbers ascend have each number once
  agree_self : (es : List (ℕ × E)) → IsRising (numbers_of es) → Agree es es
  agree_self [] rising k a b one two = absurd one
  agree_self (e ∷ es) rising k a b one two =
      ⊎_elim
      (λ (x : e ≡ (k, a)). ⊎_elim
      (λ (y : e ≡ (k, b)). ap (λ (z : ℕ × E). z.1) (sym x ∙ y))
      (λ (y : Has es (k, b)). absurd (above_apart e.0 (numbers_of es) rising.0 (subst (Has (numbers_of es)) (ap (λ (z : ℕ × E). z.0) (sym x)) (has_number es k b y))))
      two)
      (λ (x : Has es (k, a)). ⊎_elim
      (λ (y : e ≡ (k, b)). absurd (above_apart e.0 (numbers_of es) rising.0 (subst (Has (numbers_of es)) (ap (λ (z : ℕ × E). z.0) (sym y)) (has_number es k a x))))
      (λ (y : Has es (k, b)). agree_self es rising.1 k a b x y)
      two)
      one

  -- a half to which the drawn numbers were added has grown
  grown_of : (d : Side E) (xs : List (ℕ × E)) → xs ≡ d.kept ++ added d xs → d.drawn ≡ numbers_of (added d xs) → IsGrown d xs
  grown_of d xs behind drawn = record { behind = behind; numbers = part_of (numbers_of (added d xs)) d.drawn drawn }

-- what one and the same list adds to lists with the same joint entries
joint_grown : (xs ys more : List (ℕ × Mark)) → joint_of xs ≡ joint_of ys → joint_of (xs ++ more) ≡ joint_of (ys ++ more)
joint_grown xs ys more same = joint_append xs more ∙ ap (λ (l : List (ℕ × Mark)). l ++ joint_of more) same ∙ sym (joint_append ys more)

pub back_leaves : (v : View Mark (List (ℕ × Mark))) (xs ys : List (ℕ × Mark)) → v.forward.holds ≡ true → IsJoint v xs ys → MayLeaveBack v ys (joint_of ys)
back_leaves v xs ys holds is = record {
  grown = grown_of v.back ys is.back is.back_drawn;
  placed = λ no. absurd (off (sym no ∙ holds));
  same = λ no. absurd (off (sym no ∙ holds));
}

pub forward_leaves : (v : View Mark (List (ℕ × Mark))) (xs ys : List (ℕ × Mark)) → IsJoint v xs ys → MayLeaveForward (left_back v ys (Some (joint_of ys))) xs (joint_of xs)
forward_leaves v xs ys is =
    let new = added v.forward xs in
    let left : v.left ++ added v.back ys ≡ new = (λ i. is.left i ++ sym is.same i) in
    let alike : joint_of v.back.kept ≡ joint_of v.forward.kept = same_some (joint_of v.back.kept) (joint_of v.forward.kept) (sym is.back_shared ∙ is.forward_shared) in
    let joint : joint_of ys ≡ joint_of xs = ap joint_of is.back ∙ ap (λ (l : List (ℕ × Mark)). joint_of (v.back.kept ++ l)) (sym is.same) ∙ joint_grown v.back.kept v.forward.kept new alike ∙ ap joint_of (sym is.forward) in record {
      grown = grown_of v.forward xs is.forward is.forward_drawn;
      placed = λ k has. inl (subst (λ (ns : List ℕ). Has ns k) is.forward_drawn has);
      alike = subst (Agree new) (sym left) (agree_self new (subst IsRising is.forward_drawn is.rising));
      same = ap Some joint;
    }

own_shared : (told : Option (List (ℕ × Mark))) (d : Side Mark) (xs : List (ℕ × Mark)) → IsOwn told d xs → told ≡ Some (joint_of xs)
own_shared told d xs is = is.shared ∙ ap Some (sym (ap joint_of is.behind ∙ joint_append d.kept (added d xs) ∙ ap (λ (l : List (ℕ × Mark)). joint_of d.kept ++ l) is.alone ∙ append-nil (joint_of d.kept)))

pub back_alone_leaves : (v : View Mark (List (ℕ × Mark))) (ys : List (ℕ × Mark)) → IsOwn v.told v.back ys → MayLeaveBack v ys (joint_of ys)
back_alone_leaves v ys is = record {
  grown = grown_of v.back ys is.behind is.drawn;
  placed = λ no k has. subst (λ (ns : List ℕ). Has ns k) is.drawn has;
  same = λ no. own_shared v.told v.back ys is;
}

pub forward_alone_leaves : (v : View Mark (List (ℕ × Mark))) (xs : List (ℕ × Mark)) → IsOwn v.told v.forward xs → v.left ≡ [] → MayLeaveForward v xs (joint_of xs)
forward_alone_leaves v xs is none = record {
  grown = grown_of v.forward xs is.behind is.drawn;
  placed = λ k has. inl (subst (λ (ns : List ℕ). Has ns k) is.drawn has);
  alike = subst (Agree (added v.forward xs)) (sym none) (λ k a b one two. absurd two);
  same = own_shared v.told v.forward xs is;
}
