-- How contracts see a seat, and what its steps ask of it.
use Rattle.std.specs.Prelude.{◌≡◌, ℕ, ◌<◌, ◌≤◌, Bool, true, false, List, [], ◌∷◌, None}
use Rattle.atomic_table.specs.Seated.{TableId}
use Rattle.atomic_table.specs.Table.{Me}
use Rattle.oi_pair.specs.declared.view.View.{View}
use Rattle.oi_pair.specs.Limits.{all_parts}
use Rattle.oi_pair.specs.Kept.{Slot}

-- a seat: its pair, and what it knows
pub record Seated (E X : Type 0) : Type 0 where
  pub pair : TableId
  pub knows : View E X

abbrev pub seated : {E X : Type 0} → TableId → View E X → Seated E X
seated pair v = record { pair = pair; knows = v }

-- a table of three words and two slots
pub record IsPairTable (table : TableId) : Type 0 where
  pub words : table.words ≡ 3
  pub slots : table.slots ≡ 2

module _ {F B : Type 0} where
  abbrev pub forward_slot : Bool → List (ℕ × Slot F B)
  forward_slot true = (0, None) ∷ []
  forward_slot false = []

  -- the slots that are out with a seat, whose values are with its caller
  abbrev pub slots_out : Bool → Bool → List (ℕ × Slot F B)
  slots_out forward true = (1, None) ∷ forward_slot forward
  slots_out forward false = forward_slot forward

-- a seat between two calls
pub record IsReady {E X F B : Type 0} (m : Me (Slot F B) (View E X)) : Type 0 where
  pub alive : 0 < m.0.parts
  pub few : m.0.parts ≤ all_parts
  pub slots : m.1 ≡ slots_out m.0.forward.holds m.0.back.holds
