-- The rule of a pair's table: what is true between any two steps of any thread.
use Rattle.std.specs.Prelude.{◌≡◌, ℕ, ◌+◌, ◌<◌, ◌≤◌, ◌==◌, nat_lt, Bool, true, false, List, [], ◌∷◌, ◌++◌, length, Option, Some, None, MatchBool}
use mathlib.Core.Option.{some, none}
use lib.ListN.{get_elem?}
use Rattle.oi_base.specs.Counts.{bit}
use Rattle.atomic_table.specs.Table.{State, Me, Step, rest}
use Rattle.oi_pair.specs.declared.half.Half.{Half}
use Rattle.oi_pair.specs.declared.half.Half.TheVariants.{Forward, Back}
use Rattle.oi_pair.specs.declared.view.Side.{Side}
use Rattle.oi_pair.specs.declared.view.View.{View}
use Rattle.oi_pair.specs.Limits.{all_parts, most_entries}
use Rattle.oi_pair.specs.Lists.{Has, StartsWith, numbers_of, times, IsRising, Agree}
use Rattle.oi_pair.specs.Views.{met, took_forward, took_back, took_back_too, kept_out, drew, left_back, left_forward, IsNext, IsMet, IsBeside}

-- the two slots: the forward half in the first and the back half in the second, or nothing while a seat has the half in hand
abbrev pub Slot : Type 0 → Type 0 → Type 0
Slot F B = Option (Half F B)

-- a slot is at home while no seat holds its half
abbrev pub at_home : {S : Type 0} → Bool → S → mathlib.Core.Option.Option S
at_home true half = none
at_home false half = some half

-- the table: words 0 and 1 say whether the forward half and the back half are held, and word 2 is the counter
abbrev pub table_of : {F B V : Type 0} → Bool → Bool → ℕ → F → B → List V → State (Slot F B) V
table_of ahead behind counter f b views = record {
  words = bit ahead ∷ bit behind ∷ counter ∷ [];
  homes = at_home ahead (Some (Forward f)) ∷ at_home behind (Some (Back b)) ∷ [];
  views = views;
}

-- the values of f, added up over the views
abbrev pub total : {V : Type 0} → (V → ℕ) → List V → ℕ
total f [] = 0
total f (v ∷ vs) = f v + total f vs

-- a half: what it kept when it was left last, the numbers that its holder drew since it was taken, and the seat that held it last
pub record Place (E : Type 0) : Type 0 where
  pub list : List (ℕ × E)
  pub drawn : List ℕ
  pub holder : ℕ

module _ {E : Type 0} where
  -- What a seat knows of a half is so. What it saw begins the half's list, and who holds the half has its word
  pub record Sits (held : Bool) (q : Place E) (id : ℕ) (d : Side E) (numbers : List ℕ) : Type 0 where
    pub seen : StartsWith q.list d.seen
    pub kept : StartsWith q.list d.kept
    pub holder : d.holds ≡ true → (id ≡ q.holder) × (held ≡ true) × (d.kept ≡ q.list) × (d.drawn ≡ q.drawn)
    pub carried : (k : ℕ) → times k d.drawn ≤ times k numbers

  -- the seat with this number holds the half that s finds in a view
  abbrev pub IsHolder : {X : Type 0} → (View E X → Side E) → List (View E X) → ℕ → Type 0
  IsHolder {X} s views id = (v : View E X) × (get_elem? views id ≡ some v) × ((s v).holds ≡ true)

  -- The rule of one half, which s finds in a view. Each seat's part of it is so, and while it is held its holder says so. Its list and the numbers drawn since ascend, and are few
  pub record Tied {X : Type 0} (s : View E X → Side E) (held : Bool) (counter : ℕ) (q : Place E) (views : List (View E X)) : Type 0 where
    pub each : (id : ℕ) (v : View E X) → get_elem? views id ≡ some v → Sits held q id (s v) v.numbers
    pub held_by : held ≡ true → IsHolder s views q.holder
    pub idle : held ≡ false → q.drawn ≡ []
    pub rising : IsRising (numbers_of q.list ++ q.drawn)
    pub below : (k : ℕ) → Has (numbers_of q.list) k → k < counter
    pub few : length q.list + length q.drawn ≤ most_entries

-- what there is of a pair: its two halves, the counter, and the shared part that each half has which no seat holds
pub record Joint (E X : Type 0) : Type 0 where
  pub forward : Place E
  pub back : Place E
  pub counter : ℕ
  pub shared : X

module _ {E X : Type 0} where
  -- What a seat knows of both halves is so. A holder was told the shared part. Of entries with numbers that it drew, those in the other half are its own. A seat with no part is empty
  pub record Fits (p : Joint E X) (v : View E X) : Type 0 where
    pub told_forward : v.forward.holds ≡ true → v.told ≡ Some p.shared
    pub told_back : v.back.holds ≡ true → v.told ≡ Some p.shared
    pub both : v.forward.holds ≡ true → v.back.holds ≡ true → (k : ℕ) → times k v.back.drawn ≤ times k v.forward.drawn
    pub left_there : v.forward.holds ≡ true → (k : ℕ) → Has (numbers_of v.left) k → Has (numbers_of p.back.list) k
    pub left_all : v.forward.holds ≡ true → (k : ℕ) (e : E) → Has p.back.list (k, e) → 0 < times k v.forward.drawn → Has v.left (k, e)
    pub new_forward : v.back.holds ≡ true → (k : ℕ) → 0 < times k v.back.drawn → ¬ Has (numbers_of p.forward.list) k
    pub idle : v.parts ≡ 0 → (v.numbers ≡ []) × (v.forward.holds ≡ false) × (v.back.holds ≡ false)

  -- the number stands in one of the halves, or its holder drew it
  abbrev pub IsPlaced : Joint E X → ℕ → Type 0
  IsPlaced p k = 0 < times k (numbers_of p.forward.list) + times k p.forward.drawn + times k (numbers_of p.back.list) + times k p.back.drawn

  -- The rule of one half for both. Each number below the counter is placed, and one seat carries it, once. The two lists agree, and all parts are there
  pub record Sound (ahead behind : Bool) (p : Joint E X) (views : List (View E X)) : Type 0 where
    pub forward : Tied (λ v. v.forward) ahead p.counter p.forward views
    pub back : Tied (λ v. v.back) behind p.counter p.back views
    pub each : (id : ℕ) (v : View E X) → get_elem? views id ≡ some v → Fits p v
    pub placed : (k : ℕ) → k < p.counter → IsPlaced p k
    pub once : (k : ℕ) → total (λ (v : View E X). times k v.numbers) views ≡ bit (nat_lt k p.counter)
    pub agree : Agree p.forward.list p.back.list
    pub parts : total (λ (v : View E X). v.parts) views ≡ all_parts

-- the entries of a half, and the shared part, by what tells them
module _ {E X F B : Type 0} (fe : F → List (ℕ × E)) (fs : F → X) (be : B → List (ℕ × E)) (bs : B → X) where
  -- the halves keep what the record says, and have the shared part where no seat holds them
  pub record Keep (ahead behind : Bool) (p : Joint E X) (f : F) (b : B) : Type 0 where
    pub forward : fe f ≡ p.forward.list
    pub back : be b ≡ p.back.list
    pub forward_shared : ahead ≡ false → fs f ≡ p.shared
    pub back_shared : behind ≡ false → bs b ≡ p.shared

  -- the rule: the table is that of some sound pair
  abbrev pub Kept : State (Slot F B) (View E X) → Type 0
  Kept s = (ahead : Bool) × (behind : Bool) × (p : Joint E X) × (f : F) × (b : B) × (s ≡ table_of ahead behind p.counter f b s.views) × Keep ahead behind p f b × Sound ahead behind p s.views

-- What each kind of step tells, of the seat before, the number found and the seat after.
module _ {E X F B : Type 0} (fe : F → List (ℕ × E)) (fs : F → X) where
  -- the forward half was free, and the seat has it
  pub record TookForward (m n : Me (Slot F B) (View E X)) : Type 0 where
    pub half : F
    pub is : n ≡ (took_forward m.0 (fe half) (fs half), (0, Some (Forward half)) ∷ m.1)
    pub seen : StartsWith (fe half) m.0.forward.seen
    pub rising : IsRising (numbers_of (fe half))

  -- a try for the forward half
  abbrev pub TakesForward : Step (Slot F B) → Me (Slot F B) (View E X) → ℕ → Me (Slot F B) (View E X) → Type 0
  TakesForward s m found n = MatchBool (found == 0) (TookForward m n) (n ≡ m)

module _ {E X F B : Type 0} (be : B → List (ℕ × E)) (bs : B → X) where
  -- the back half was free, and the seat has it
  pub record TookBack (m n : Me (Slot F B) (View E X)) : Type 0 where
    pub half : B
    pub is : n ≡ (took_back m.0 (be half) (bs half), (1, Some (Back half)) ∷ m.1)
    pub seen : StartsWith (be half) m.0.back.seen
    pub rising : IsRising (numbers_of (be half))

  -- a try for the back half
  abbrev pub TakesBack : Step (Slot F B) → Me (Slot F B) (View E X) → ℕ → Me (Slot F B) (View E X) → Type 0
  TakesBack s m found n = MatchBool (found == 0) (TookBack m n) (n ≡ m)

  -- the back half was free, and the seat has it beside the forward half
  pub record TookBackToo (m n : Me (Slot F B) (View E X)) : Type 0 where
    pub half : B
    pub is : n ≡ (took_back_too m.0 (be half), (1, Some (Back half)) ∷ m.1)
    pub found : IsBeside m.0 (be half) (bs half)

  -- a try for the back half beside the forward half, and one that counts where it failed
  abbrev pub TakesBackToo : Step (Slot F B) → Me (Slot F B) (View E X) → ℕ → Me (Slot F B) (View E X) → Type 0
  TakesBackToo s m found n = MatchBool (found == 0) (TookBackToo m n) (n ≡ m)

  abbrev pub TriesBack : Step (Slot F B) → Me (Slot F B) (View E X) → ℕ → Me (Slot F B) (View E X) → Type 0
  TriesBack s m found n = MatchBool (found == 0) (TookBackToo m n) (n ≡ (kept_out m.0, m.1))

module _ {E X F B : Type 0} where
  -- a draw
  abbrev pub Draws : Step (Slot F B) → Me (Slot F B) (View E X) → ℕ → Me (Slot F B) (View E X) → Type 0
  Draws s m found n = (n ≡ (drew m.0 found, m.1)) × IsNext m.0 found

  -- the look after the join
  abbrev pub Meets : Step (Slot F B) → Me (Slot F B) (View E X) → ℕ → Me (Slot F B) (View E X) → Type 0
  Meets s m found n = (n ≡ (met m.0, m.1)) × IsMet m.0

-- the entries of the half that a seat took last
module _ {E F B : Type 0} (fe : F → List (ℕ × E)) (be : B → List (ℕ × E)) where
  abbrev pub entries_of : Half F B → List (ℕ × E)
  entries_of (Forward f) = fe f
  entries_of (Back b) = be b

  abbrev pub entries_at : Slot F B → List (ℕ × E)
  entries_at None = []
  entries_at (Some h) = entries_of h

  abbrev pub entries_in : List (ℕ × Slot F B) → List (ℕ × E)
  entries_in [] = []
  entries_in (x ∷ xs) = entries_at x.1

-- the shared part of the half that a seat took last, where it is the back half
module _ {X F B : Type 0} (bs : B → X) where
  abbrev pub shared_of : Half F B → Option X
  shared_of (Forward f) = None
  shared_of (Back b) = Some (bs b)

  abbrev pub shared_at : Slot F B → Option X
  shared_at None = None
  shared_at (Some h) = shared_of h

  abbrev pub shared_in : List (ℕ × Slot F B) → Option X
  shared_in [] = None
  shared_in (x ∷ xs) = shared_at x.1

module _ {E X F B : Type 0} (fe : F → List (ℕ × E)) (be : B → List (ℕ × E)) where
  -- a leave of the forward half
  abbrev pub LeavesForward : Step (Slot F B) → Me (Slot F B) (View E X) → ℕ → Me (Slot F B) (View E X) → Type 0
  LeavesForward s m found n = n ≡ (left_forward m.0 (entries_in fe be m.1), rest m.1)

module _ {E X F B : Type 0} (fe : F → List (ℕ × E)) (be : B → List (ℕ × E)) (bs : B → X) where
  -- a leave of the back half
  abbrev pub LeavesBack : Step (Slot F B) → Me (Slot F B) (View E X) → ℕ → Me (Slot F B) (View E X) → Type 0
  LeavesBack s m found n = n ≡ (left_back m.0 (entries_in fe be m.1) (shared_in bs m.1), rest m.1)
