-- Rows of the table, and the settings of the code that they are.
use Rattle.std.proofs.Common.{◌≡◌, ℕ, Bool, true, false, cond, Option, Some, option_map, List, [], ◌∷◌, map, refl}
use Rattle.std.specs.Prelude.{bytes_eq}
use Rattle.std.specs.List.{find}
use Rattle.oi_settings.specs.declared.schema.Setting.{Setting}
use Rattle.oi_settings.specs.Schema.{Row, row_named, row_of}

step : (b : Bool) (s : Setting) (o : Option Setting) (p : Option Row) → p ≡ option_map row_of o → cond b (Some (row_of s)) p ≡ option_map row_of (cond b (Some s) o)
step true s o p e = refl
step false s o p e = e

-- the row of a name is that of the setting with the name
pub row_named-map : (name : List ℕ) (ss : List Setting) → row_named name (map row_of ss) ≡ option_map row_of (find (λ s. bytes_eq s.name.now name) ss)
row_named-map name [] = refl
row_named-map name (s ∷ ss) = step (bytes_eq s.name.now name) s (find (λ s. bytes_eq s.name.now name) ss) (row_named name (map row_of ss)) (row_named-map name ss)
