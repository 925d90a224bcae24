-- The text of a node record: the line `# BEGIN RECORD 2`, lines `NAME = VALUE`, and the line `# END RECORD`.
use Rattle.std.specs.Prelude.{◌≡◌, ◌<◌, ◌≤◌, ◌+◌, ◌||◌, ◌==◌, not, ℕ, Bool, true, false, Option, Some, None, List, [], ◌∷◌, ◌++◌, take, length, codes, bytes_eq, if◌then◌else◌}
use Rattle.std.specs.List.{flat_map, list_all}
use Rattle.oi_base.specs.Counts.{told}
use Rattle.oi_names.specs.Portals.{lower_case}
use Rattle.oi_settings.specs.Keys.{IsKey, Key}
use Rattle.oi_settings.specs.Pairs.{Pair, AreOnce, has_name, put, value_of}
use Rattle.oi_settings.specs.Schema.{Row, Takes, newest, part_text, table}
use Rattle.oi_settings.specs.declared.schema.Part.{Part}
use Rattle.oi_settings.specs.declared.schema.Part.TheVariants.{Target, Tag, Address, Port, Interface}
use Rattle.oi_settings.specs.declared.schema.Schema.{Schema}
use Rattle.oi_settings.specs.declared.schema.Schema.TheVariants.{First, Second}
use Rattle.oi_settings.specs.declared.text.RecordFault.{RecordFault}
use Rattle.oi_settings.specs.declared.text.RecordFault.TheVariants.{Bad, Memory}

-- a record: its key and its pairs
pub record Node : Type 0 where
  pub key : Key
  pub pairs : List Pair

-- every byte but blanks and the line feed
abbrev pub is_name_byte : ℕ → Bool
is_name_byte c = not (c == 32 || c == 9 || c == 10)

-- every byte but the line feed
abbrev pub is_value_byte : ℕ → Bool
is_value_byte c = not (c == 10)

-- a name of 1 to 63 bytes, and a value, as a line has them
pub record IsLine (name value : List ℕ) : Type 0 where
  pub name_some : 0 < length name
  pub name_fits : length name ≤ 63
  pub name_bytes : list_all is_name_byte name ≡ true
  pub value_bytes : list_all is_value_byte value ≡ true

-- `NAME = VALUE` and a line feed
abbrev pub line_text : List ℕ → List ℕ → List ℕ
line_text name value = name ++ (codes " = " ++ (value ++ 10 ∷ []))

-- no line begins the bytes
abbrev pub NoLineText : List ℕ → Type 0
NoLineText bytes = (name value more : List ℕ) → IsLine name value → bytes ≡ line_text name value ++ more → ⊥

-- the lines of the pairs, in order
abbrev pub lines_of : List Pair → List ℕ
lines_of ps = flat_map (λ p. line_text p.0 p.1) ps

-- the settings that the texts of a schema have
abbrev pub rows_of : Schema → List Row
rows_of First = take 29 table
rows_of Second = table

-- the first line and the last one
abbrev pub begin_line : Schema → List ℕ
begin_line First = codes "# BEGIN RECORD 1" ++ 10 ∷ []
begin_line Second = codes "# BEGIN RECORD 2" ++ 10 ∷ []

abbrev pub end_line : List ℕ
end_line = codes "# END RECORD" ++ 10 ∷ []

-- the text of the pairs by a schema, and what is written
abbrev pub text_by : Schema → List Pair → List ℕ
text_by schema ps = begin_line schema ++ (lines_of ps ++ end_line)

abbrev pub text_of : List Pair → List ℕ
text_of ps = text_by Second ps

-- each pair is a line and has a value that its name takes
abbrev pub AreLines : List Row → List Pair → Type 0
AreLines rows [] = Unit {0}
AreLines rows (p ∷ ps) = IsLine p.0 p.1 × Takes rows p.0 p.1 × AreLines rows ps

-- every setting stands there
abbrev pub IsComplete : List Row → List Pair → Type 0
IsComplete rows ps = list_all (λ r. has_name r.name ps) rows ≡ true

-- the pairs of a text: lines of the schema, no name twice, and no setting missing
pub record ArePairs (rows : List Row) (ps : List Pair) : Type 0 where
  pub lines : AreLines rows ps
  pub once : AreOnce ps
  pub complete : IsComplete rows ps

-- whether the value of the newest setting is one of its two words
abbrev pub is_choice : Option (List ℕ) → Bool
is_choice None = false
is_choice (Some value) = bytes_eq value (codes "Yes") || bytes_eq value (codes "No")

-- the pairs of the record that a text with these pairs stores. A text of the first schema may lack the newest setting, or use
-- its name for something else: then it gets its initial value, in its place or as the last one.
abbrev pub stored_by : Schema → List Pair → List Pair
stored_by First ps = if is_choice (value_of newest.name ps) then ps else put newest.name newest.initial ps
stored_by Second ps = ps

-- the name of the setting that has this part of the key
abbrev pub part_name : Part → List ℕ
part_name Target = codes "node.name"
part_name Tag = codes "node.tpgt"
part_name Address = codes "node.conn[0].address"
part_name Port = codes "node.conn[0].port"
part_name Interface = codes "iface.iscsi_ifacename"

-- the text names this part of the key; an address in upper case names the one in lower case
abbrev pub Names : Part → List ℕ → Key → Type 0
Names Address text key = key.portal.address ≡ lower_case text
Names other text key = text ≡ part_text other key

-- the key is the one that the pairs name
abbrev pub IsKeyOf : List Pair → Key → Type 0
IsKeyOf ps key = (part : Part) → (text : List ℕ) × (value_of (part_name part) ps ≡ Some text) × Names part text key

-- the record is well formed
pub record IsNode (node : Node) : Type 0 where
  pub valid : IsKey node.key
  pub pairs : ArePairs table node.pairs
  pub named : IsKeyOf node.pairs node.key

-- the bytes are a text that stores the record
pub record IsStored (bytes : List ℕ) (node : Node) : Type 0 where
  pub schema : Schema
  pub written : List Pair
  pub text : bytes ≡ text_by schema written
  pub pairs : ArePairs (rows_of schema) written
  pub stored : node.pairs ≡ stored_by schema written
  pub valid : IsKey node.key
  pub named : IsKeyOf node.pairs node.key

-- a line that may stand behind these pairs
pub record IsNext (rows : List Row) (before : List Pair) (name value : List ℕ) : Type 0 where
  pub line : IsLine name value
  pub new : has_name name before ≡ false
  pub taken : Takes rows name value

-- no such line begins the rest
abbrev pub NoLine : List Row → List Pair → List ℕ → Type 0
NoLine rows before rest = (name value more : List ℕ) → IsNext rows before name value → rest ≡ line_text name value ++ more → ⊥

-- the rest does not begin with the last line, or a setting is missing
abbrev pub NoEnd : List Row → List Pair → List ℕ → Type 0
NoEnd rows before rest = IsComplete rows before → (more : List ℕ) → rest ≡ end_line ++ more → ⊥

-- the first bad line of the bytes, counted from 1: the first one, where it is no first line; the one behind some good lines,
-- where it is neither a good line nor a last line behind all settings; the one behind the last line
pub data BadLine (bytes : List ℕ) (line : ℕ) : Type 0 where
  bad_begin : line ≡ 1 → ((schema : Schema) (rest : List ℕ) → bytes ≡ begin_line schema ++ rest → ⊥) → BadLine bytes line
  bad_line : (schema : Schema) (before : List Pair) (rest : List ℕ) → line ≡ length before + 2
      → bytes ≡ begin_line schema ++ (lines_of before ++ rest) → AreLines (rows_of schema) before → AreOnce before
      → NoLine (rows_of schema) before rest → NoEnd (rows_of schema) before rest → BadLine bytes line
  bad_rest : (schema : Schema) (before : List Pair) (rest : List ℕ) → line ≡ length before + 3
      → bytes ≡ begin_line schema ++ (lines_of before ++ (end_line ++ rest)) → ArePairs (rows_of schema) before
      → 0 < length rest → BadLine bytes line

-- why bytes store no record
abbrev pub IsFault : List ℕ → RecordFault → Type 0
IsFault bytes (Bad line) = (at : ℕ) × (line ≡ told at) × BadLine bytes at
IsFault bytes Memory = Unit {0}

-- the same of what follows the first line
abbrev pub IsFaultBehind : Schema → List ℕ → RecordFault → Type 0
IsFaultBehind schema text e = (bytes : List ℕ) → bytes ≡ begin_line schema ++ text → IsFault bytes e
