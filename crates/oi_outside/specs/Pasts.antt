-- What happened so far, in order. It takes no memory: each entry is what a look at a value showed, and is read by
-- contracts alone.
use Rattle.std.specs.Prelude.{List, [], ◌∷◌, ◌++◌}
use Rattle.oi_outside.specs.declared.history.Past.{Past, Nothing, More'}

module _ {T : Type 0} where
  -- the entries, oldest first
  abbrev pub entries : Past T → List T
  entries Nothing = []
  entries (More' m before last) = entries before ++ last.value ∷ []
