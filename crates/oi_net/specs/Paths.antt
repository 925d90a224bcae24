-- Paths that can name a record, and the lists of them that a folder gives.
use Rattle.std.specs.Prelude.{ℕ, Bool, true, false, List, [], ◌∷◌, not, ◌&&◌, ◌==◌}
use Rattle.std.specs.List.{All, list_all, list_any, slice_split}
use Rattle.std.specs.Str.{IsUtf8}
use Rattle.oi_outside.specs.Records.{Ascends}

-- the bytes `/`, `.` and `~`
abbrev pub slash : ℕ
slash = 47

abbrev pub dot : ℕ
dot = 46

abbrev pub tilde : ℕ
tilde = 126

-- a part that says where to go: nothing, `.` or `..`
abbrev pub is_step : List ℕ → Bool
is_step [] = true
is_step (a ∷ []) = a == dot
is_step (a ∷ b ∷ []) = a == dot && b == dot
is_step (a ∷ b ∷ c ∷ rest) = false

-- a part that begins as the name of a text that is being written does
abbrev pub is_draft : List ℕ → Bool
is_draft [] = false
is_draft (a ∷ rest) = a == tilde

-- a part that a file or a folder on the way to it can have as its name; no name of the system has the byte 0
abbrev pub is_name : List ℕ → Bool
is_name part = not (is_step part) && not (is_draft part) && not (list_any (λ b. b == 0) part)

-- each part of the path is a name
abbrev pub names_record : List ℕ → Bool
names_record path = list_all is_name (slice_split (λ b. b == slash) path)

-- paths as a list of them has them: texts, in ascending order
abbrev pub ArePaths : List (List ℕ) → Type 0
ArePaths found = Ascends found × All IsUtf8 found
