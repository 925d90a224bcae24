-- Halves that are plain lists of entries, which share their joint ones.
use Rattle.std.specs.Prelude.{◌≡◌, ℕ, Bool, true, false, List, [], ◌∷◌, ◌++◌, Option, Some}
use Rattle.oi_pair.specs.declared.ledger.Mark.{Mark}
use Rattle.oi_pair.specs.declared.view.Side.{Side}
use Rattle.oi_pair.specs.declared.view.View.{View}
use Rattle.oi_pair.specs.Lists.{numbers_of, IsRising}
use Rattle.oi_pair.specs.Views.{HoldsNone, added, left_back, left_forward}
use Rattle.oi_pair.specs.Seats.{Seated}

-- an entry, before others where it is joint
abbrev pub joint_before : Bool → ℕ × Mark → List (ℕ × Mark) → List (ℕ × Mark)
joint_before true e es = e ∷ es
joint_before false e es = es

-- the joint ones of these entries
abbrev pub joint_of : List (ℕ × Mark) → List (ℕ × Mark)
joint_of [] = []
joint_of (e ∷ es) = joint_before e.1.joint e (joint_of es)

-- a seat that holds nothing before a call holds nothing after it, and has its parts
pub record IsSameSeat {E X : Type 0} (old new : Seated E X) : Type 0 where
  pub pair : new.pair ≡ old.pair
  pub parts : new.knows.parts ≡ old.knows.parts
  pub rests : HoldsNone new.knows

-- the seat carries one number more
abbrev pub Carries : {E X : Type 0} → Seated E X → Seated E X → ℕ → Type 0
Carries old new n = new.knows.numbers ≡ old.knows.numbers ++ n ∷ []

-- the same entries were added to both halves, and their numbers are those that were drawn
pub record IsJoint (v : View Mark (List (ℕ × Mark))) (xs ys : List (ℕ × Mark)) : Type 0 where
  pub forward : xs ≡ v.forward.kept ++ added v.forward xs
  pub back : ys ≡ v.back.kept ++ added v.back ys
  pub same : added v.forward xs ≡ added v.back ys
  pub forward_drawn : v.forward.drawn ≡ numbers_of (added v.forward xs)
  pub back_drawn : v.back.drawn ≡ numbers_of (added v.back ys)
  pub rising : IsRising v.forward.drawn
  pub left : v.left ≡ []
  pub forward_shared : v.told ≡ Some (joint_of v.forward.kept)
  pub back_shared : v.told ≡ Some (joint_of v.back.kept)

-- both halves were left
abbrev pub left_both : View Mark (List (ℕ × Mark)) → List (ℕ × Mark) → List (ℕ × Mark) → View Mark (List (ℕ × Mark))
left_both v xs ys = left_forward (left_back v ys (Some (joint_of ys))) xs

-- entries that are not joint were added to a half, their numbers are those that were drawn, and the shared part that was told is as it was
pub record IsOwn (told : Option (List (ℕ × Mark))) (d : Side Mark) (xs : List (ℕ × Mark)) : Type 0 where
  pub behind : xs ≡ d.kept ++ added d xs
  pub drawn : d.drawn ≡ numbers_of (added d xs)
  pub alone : joint_of (added d xs) ≡ []
  pub shared : told ≡ Some (joint_of d.kept)
