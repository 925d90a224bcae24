-- The words of the program.
use Rattle.std.specs.Prelude.{◌≡◌, ℕ, Bool, true, false, List, [], ◌∷◌, map, Option, String, codes, drop, string_bytes}
use Rattle.oi_base.specs.Counts.{Rose}
use Rattle.oi_outside.specs.Streams.{IsFront, behind}
use Rattle.oi_script.specs.Numbers.{is_text}
use Rattle.oi_solo.specs.Sessions.{RunView}

-- the word of the mode `drive`
abbrev pub is_drive : {Z : Type 0} → List (String Z) → Bool
is_drive [] = false
is_drive (w ∷ []) = is_text (string_bytes w) (codes "drive")
is_drive (w ∷ v ∷ ws) = false

-- `DIR iscsiadm WORD..`, and its words
abbrev pub is_tool : {Z : Type 0} → List (String Z) → Bool
is_tool [] = false
is_tool (w ∷ []) = false
is_tool (w ∷ v ∷ ws) = is_text (string_bytes v) (codes "iscsiadm")

abbrev pub tool_words : {Z : Type 0} → List (String Z) → List (List ℕ)
tool_words ws = map (λ s. string_bytes s) (drop 2 ws)

-- other words: no session, and a fault line of line 0
pub record IsRefused (status : ℕ) (runs : List RunView) (held0 held : Option (List ℕ)) (sink0 sink : ℕ) : Type 0 where
  pub status_is : status ≡ 7
  pub runs_are : runs ≡ []
  pub text : (Rose sink0 sink → ⊥) → held ≡ behind held0 (codes "fault 7 0\n")
  pub front : IsFront (codes "fault 7 0\n") held0 held
