-- What a command of the tool comes to, over the records and the living sessions: its status, its text, and the changes of
-- the store in their order.
use Rattle.std.specs.Prelude.{ℕ, List, [], ◌∷◌, ◌++◌, Option, Some, None, codes, map}
use Rattle.std.specs.Fmt.{decimal}
use Rattle.oi_names.specs.declared.session_key.SessionInfo.{SessionInfo}
use Rattle.oi_outside.specs.Records.{Records, with_path, without_path}
use Rattle.oi_settings.specs.Keys.{Key, path_text}
use Rattle.oi_settings.specs.Texts.{Node, text_of}
use Rattle.oi_nodedb.specs.Databases.{changed, fresh, record_at}
use Rattle.oi_nodedb.specs.Filters.{in_use, matching}
use Rattle.oi_admin.specs.declared.command.AdminCommand.{AdminCommand}
use Rattle.oi_admin.specs.declared.command.AdminCommand.TheVariants.{List as ListRecords, Show, Update, Delete, New, Sessions}
use Rattle.oi_admin.specs.Listings.{list_text, session_text, show_text}

-- a change of the store: a text comes to a path, or a path goes
pub data Change : Type 0 where
  puts : List ℕ → List ℕ → Change
  drops : List ℕ → Change

abbrev pub made : Change → Records → Records
made (puts path text) records = with_path records path text
made (drops path) records = without_path records path

-- the records once the changes are made, one after another
abbrev pub after : List Change → Records → Records
after [] records = records
after (c ∷ cs) records = after cs (made c records)

abbrev pub puts_text : Node → Change
puts_text node = puts (path_text node.key) (text_of node.pairs)

abbrev pub drops_text : Node → Change
drops_text node = drops (path_text node.key)

pub record Outcome : Type 0 where
  pub status : ℕ
  pub text : List ℕ
  pub changes : List Change

abbrev pub fault_text : ℕ → List ℕ
fault_text status = codes "fault " ++ (decimal status ++ codes " 0\n")

abbrev pub refused : ℕ → Outcome
refused status = record { status = status; text = fault_text status; changes = [] }

abbrev pub prints : List ℕ → Outcome
prints text = record { status = 0; text = text; changes = [] }

abbrev pub changes : List Change → Outcome
changes cs = record { status = 0; text = []; changes = cs }

-- a stored text is bad at this line
abbrev pub bad_record : List ℕ → ℕ → Outcome
bad_record path line = record { status = 32; text = codes "fault 32 " ++ (path ++ 32 ∷ (decimal line ++ 10 ∷ [])); changes = [] }

-- 21 where nothing is meant
abbrev pub for_some : {A : Type 0} → List A → Outcome → Outcome
for_some [] o = refused 21
for_some (x ∷ xs) o = o

-- 15 where a session lives
abbrev pub for_free : Option ℕ → Outcome → Outcome
for_free None o = o
for_free (Some sid) o = refused 15

-- a record that is there stays as it is
abbrev pub makes : Key → Option Node → Outcome
makes key None = changes (puts_text (fresh key) ∷ [])
makes key (Some node) = changes []

-- the outcome of a command; one that only a daemon carries out has none but a refusal
abbrev pub outcome : List SessionInfo → List Node → AdminCommand → Outcome
outcome living nodes (ListRecords f) = for_some (matching f nodes) (prints (list_text (matching f nodes)))
outcome living nodes (Show f) = for_some (matching f nodes) (prints (show_text (matching f nodes)))
outcome living nodes (Update f name value) = for_some (matching f nodes) (changes (map puts_text (changed f name value nodes)))
outcome living nodes (Delete f) = for_some (matching f nodes) (for_free (in_use living (matching f nodes)) (changes (map drops_text (matching f nodes))))
outcome living nodes (New key) = makes key (record_at key nodes)
outcome living nodes Sessions = for_some living (prints (session_text living))
outcome living nodes other = refused 7
