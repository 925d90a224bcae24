-- What a seat of a pair knows, and how each kind of step changes it.
use Rattle.std.specs.Prelude.{◌≡◌, ℕ, ◌+◌, ◌-◌, ◌<◌, ◌≤◌, ◌⊎◌, nat_lt, Bool, true, false, ◌||◌, List, [], ◌∷◌, ◌++◌, length, drop, Option, Some, None}
use Rattle.oi_pair.specs.declared.view.Side.{Side}
use Rattle.oi_pair.specs.declared.view.View.{View}
use Rattle.oi_base.specs.Counts.{bit}
use Rattle.oi_pair.specs.Limits.{all_parts, most_entries}
use Rattle.oi_pair.specs.Lists.{Has, StartsWith, longer, numbers_of, times, IsPart, IsRising, Agree}

-- the numbers that were drawn since a half was taken, after one more, where the seat holds the half
abbrev pub drawn_after : Bool → List ℕ → ℕ → List ℕ
drawn_after true drawn n = drawn ++ n ∷ []
drawn_after false drawn n = drawn

module _ {E : Type 0} where
  -- a half that the seat does not hold: what it kept when the seat last left it
  abbrev pub outside : List (ℕ × E) → Side E
  outside seen = record { holds = false; seen = seen; kept = []; drawn = [] }

  -- a half that the seat took, with what it kept then
  abbrev pub inside : Side E → List (ℕ × E) → Side E
  inside d kept = record { holds = true; seen = d.seen; kept = kept; drawn = [] }

  -- a half after a draw
  abbrev pub drew_beside : Side E → ℕ → Side E
  drew_beside d n = record d { drawn = drawn_after d.holds d.drawn n }

  -- one half as two seats know it, which are being joined
  abbrev pub beside : Side E → Side E → Side E
  beside a b = record { holds = false; seen = a.seen; kept = b.seen; drawn = [] }

  -- the same after the join
  abbrev pub met_side : Side E → Side E
  met_side d = outside (longer d.seen d.kept)

  -- what a half that is left keeps beyond what it kept when it was taken
  abbrev pub added : Side E → List (ℕ × E) → List (ℕ × E)
  added d xs = drop (length d.kept) xs

  -- a half that is left keeps what it kept when it was taken, followed by entries whose numbers were drawn since, in their order
  pub record IsGrown (d : Side E) (xs : List (ℕ × E)) : Type 0 where
    pub behind : xs ≡ d.kept ++ added d xs
    pub numbers : IsPart (numbers_of (added d xs)) d.drawn

module _ {E X : Type 0} where
  -- of a new pair
  abbrev pub opened : View E X
  opened = record { forward = outside []; back = outside []; told = None; left = []; numbers = []; parts = all_parts; busy = 0 }

  -- the split: what stays
  abbrev pub parted : View E X → View E X
  parted v = record v { parts = v.parts - 1 }

  -- the split: the new seat, with one part
  abbrev pub branch : View E X → View E X
  branch v = record { forward = outside v.forward.seen; back = outside v.back.seen; told = None; left = []; numbers = []; parts = 1; busy = 0 }

  -- the join: both seats in one
  abbrev pub joined : View E X → View E X → View E X
  joined v w = record v { forward = beside v.forward w.forward; back = beside v.back w.back; numbers = v.numbers ++ w.numbers; parts = v.parts + w.parts }

  -- the look after the join
  abbrev pub met : View E X → View E X
  met v = record v { forward = met_side v.forward; back = met_side v.back }

  -- a seat that was taken in
  abbrev pub nobody : View E X
  nobody = record { forward = outside []; back = outside []; told = None; left = []; numbers = []; parts = 0; busy = 0 }

  -- the forward half was taken, with these entries and this shared part
  abbrev pub took_forward : View E X → List (ℕ × E) → X → View E X
  took_forward v kept shared = record v { forward = inside v.forward kept; told = Some shared; left = [] }

  -- the back half was taken by itself
  abbrev pub took_back : View E X → List (ℕ × E) → X → View E X
  took_back v kept shared = record v { back = inside v.back kept; told = Some shared; left = [] }

  -- the back half was taken beside the forward half
  abbrev pub took_back_too : View E X → List (ℕ × E) → View E X
  took_back_too v kept = record v { back = inside v.back kept }

  -- a try found that another seat held the back half
  abbrev pub kept_out : View E X → View E X
  kept_out v = record v { busy = v.busy + 1 }

  -- a number was drawn
  abbrev pub drew : View E X → ℕ → View E X
  drew v n = record v { forward = drew_beside v.forward n; back = drew_beside v.back n; numbers = v.numbers ++ n ∷ [] }

  -- the back half was left, with these entries and this shared part
  abbrev pub left_back : View E X → List (ℕ × E) → Option X → View E X
  left_back v kept shared = record v { back = outside kept; told = shared; left = v.left ++ added v.back kept }

  -- the forward half was left, with these entries
  abbrev pub left_forward : View E X → List (ℕ × E) → View E X
  left_forward v kept = record v { forward = outside kept }

  -- the seat holds no half
  pub record HoldsNone (v : View E X) : Type 0 where
    pub forward : v.forward.holds ≡ false
    pub back : v.back.holds ≡ false

  -- it holds the forward half alone
  pub record HoldsForward (v : View E X) : Type 0 where
    pub forward : v.forward.holds ≡ true
    pub back : v.back.holds ≡ false

  -- the seat holds a half, and each half that it holds has room for one entry more
  pub record MayDraw (v : View E X) : Type 0 where
    pub holds : (v.forward.holds || v.back.holds) ≡ true
    pub forward : v.forward.holds ≡ true → length v.forward.kept + length v.forward.drawn < most_entries
    pub back : v.back.holds ≡ true → length v.back.kept + length v.back.drawn < most_entries

  -- The number is above all that the seat carries and above those in the halves that it holds. Where it holds both, each smaller number stands in one of them or was drawn since it took the first of them
  pub record IsNext (v : View E X) (n : ℕ) : Type 0 where
    pub own : (k : ℕ) → Has v.numbers k → k < n
    pub forward : v.forward.holds ≡ true → (k : ℕ) → Has (numbers_of v.forward.kept) k → k < n
    pub back : v.back.holds ≡ true → (k : ℕ) → Has (numbers_of v.back.kept) k → k < n
    pub both : v.forward.holds ≡ true → v.back.holds ≡ true → (k : ℕ) → k < n → Has (numbers_of v.forward.kept) k ⊎ (Has (numbers_of v.back.kept) k ⊎ Has v.forward.drawn k)

  -- What a seat finds after a join: the longer list of each half begins with both, no number was drawn twice, and its parts are at most all of them
  pub record IsMet (v : View E X) : Type 0 where
    pub forward : StartsWith (longer v.forward.seen v.forward.kept) v.forward.seen × StartsWith (longer v.forward.seen v.forward.kept) v.forward.kept
    pub back : StartsWith (longer v.back.seen v.back.kept) v.back.seen × StartsWith (longer v.back.seen v.back.kept) v.back.kept
    pub once : (k : ℕ) → times k v.numbers ≤ 1
    pub parts : v.parts ≤ all_parts

  -- What a seat that leaves the back half meets. Where it does not hold the forward half, each number that it drew stands there, and the shared part is as it was taken
  pub record MayLeaveBack (v : View E X) (xs : List (ℕ × E)) (shared : X) : Type 0 where
    pub grown : IsGrown v.back xs
    pub placed : v.forward.holds ≡ false → (k : ℕ) → Has v.back.drawn k → Has (numbers_of (added v.back xs)) k
    pub same : v.forward.holds ≡ false → v.told ≡ Some shared

  -- What a seat that leaves the forward half meets. Each number that it drew stands there or in what it added to the back half since, where an entry of one number is the same; and the shared part is the one that it was told, or with which it left the back half last
  pub record MayLeaveForward (v : View E X) (xs : List (ℕ × E)) (shared : X) : Type 0 where
    pub grown : IsGrown v.forward xs
    pub placed : (k : ℕ) → Has v.forward.drawn k → Has (numbers_of (added v.forward xs)) k ⊎ Has (numbers_of v.left) k
    pub alike : Agree (added v.forward xs) v.left
    pub same : v.told ≡ Some shared

-- The seat carries each number below the counter, once, and no other. The numbers of the two lists are these, and an entry that has one number in both is the same in both
pub record IsWhole {E : Type 0} (numbers : List ℕ) (forward back : List (ℕ × E)) : Type 0 where
  pub counter : ℕ
  pub once : (k : ℕ) → times k numbers ≡ bit (nat_lt k counter)
  pub listed : (k : ℕ) → Has numbers k → Has (numbers_of forward) k ⊎ Has (numbers_of back) k
  pub in_forward : (k : ℕ) → Has (numbers_of forward) k → Has numbers k
  pub in_back : (k : ℕ) → Has (numbers_of back) k → Has numbers k
  pub alike : Agree forward back

-- What the back half is to a seat that takes it beside the forward half. It begins with what the seat saw, its shared part is the one that the seat was told or made last, and an entry that has one number in both halves is the same in both.
-- For a seat with all parts that drew nothing since, the two halves are the whole
pub record IsBeside {E X : Type 0} (v : View E X) (xs : List (ℕ × E)) (shared : X) : Type 0 where
  pub seen : StartsWith xs v.back.seen
  pub rising : IsRising (numbers_of xs)
  pub same : v.told ≡ Some shared
  pub alike : Agree v.forward.kept xs
  pub whole : v.parts ≡ all_parts → v.forward.drawn ≡ [] → IsWhole v.numbers v.forward.kept xs
