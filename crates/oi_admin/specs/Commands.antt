-- Which options ask for which command.
use Rattle.std.specs.Prelude.{◌≡◌, ◌⊎◌, ℕ, true, false, List, Option, Some, None, codes, unwrap_or}
use Rattle.oi_names.specs.Names.{IsIface, IsName}
use Rattle.oi_names.specs.Portals.{IsPortalOf}
use Rattle.oi_names.specs.declared.portal.Portal.{Portal}
use Rattle.oi_nodedb.specs.declared.filter.Filter.{Filter}
use Rattle.oi_words.specs.Options.{options_of}
use Rattle.oi_words.specs.declared.options.Options.{Options}
use Rattle.oi_admin.specs.declared.command.AdminCommand.{AdminCommand}
use Rattle.oi_admin.specs.declared.command.AdminCommand.TheVariants.{Discover, List as ListRecords, Show, Update, Delete, New, Login, Logout, Sessions}

-- no option at all
abbrev pub nothing : Options
nothing = record {
  mode = None;
  discovery = None;
  portal = None;
  target = None;
  iface = None;
  operation = None;
  name = None;
  value = None;
  login = false;
  logout = false;
}

-- `-m discovery -t KIND -p PORTAL`
abbrev pub discovery : List ℕ → List ℕ → Options
discovery kind portal = record nothing { mode = Some (codes "discovery"); discovery = Some kind; portal = Some portal }

-- `-m node` with those of `-T`, `-p`, `-I` that stand there
abbrev pub node : Options → Options
node o = record nothing { mode = Some (codes "node"); target = o.target; portal = o.portal; iface = o.iface }

-- the same with `-o OPERATION`
abbrev pub node_with : List ℕ → Options → Options
node_with operation o = record (node o) { operation = Some operation }

-- the name that is asked for
abbrev pub AsksName : Option (List ℕ) → Option (List ℕ) → Type 0
AsksName None asked = asked ≡ None
AsksName (Some text) asked = (asked ≡ Some text) × IsName text

abbrev pub AsksIface : Option (List ℕ) → Option (List ℕ) → Type 0
AsksIface None asked = asked ≡ None
AsksIface (Some text) asked = (asked ≡ Some text) × IsIface text

-- the portal that is asked for, with its tag where one is given
abbrev pub AsksPortal : Option (List ℕ) → Option Portal → Option ℕ → Type 0
AsksPortal None asked tag = (asked ≡ None) × (tag ≡ None)
AsksPortal (Some text) asked tag = (portal : Portal) × (asked ≡ Some portal) × IsPortalOf portal.address portal.port tag text

-- the filter of the options
abbrev pub IsFilter : Options → Filter → Type 0
IsFilter o f = AsksName o.target f.target × AsksPortal o.portal f.portal f.tag × AsksIface o.iface f.iface

-- the interface of a record: `default`, or the one that is given
abbrev pub HasIface : Option (List ℕ) → List ℕ → Type 0
HasIface None iface = iface ≡ codes "default"
HasIface (Some text) iface = (iface ≡ text) × IsIface text

-- the options of each command; there are no others
pub data IsCommand (o : Options) : AdminCommand → Type 0 where
  discover : (kind text : List ℕ) (portal : Portal) (tag : Option ℕ) → o ≡ discovery kind text → (kind ≡ codes "sendtargets") ⊎ (kind ≡ codes "st")
      → IsPortalOf portal.address portal.port tag text → IsCommand o (Discover portal)
  list : (f : Filter) → o ≡ node o → IsFilter o f → IsCommand o (ListRecords f)
  show : (f : Filter) → o ≡ node_with (codes "show") o → IsFilter o f → IsCommand o (Show f)
  update : (f : Filter) (name value : List ℕ) → o ≡ record (node_with (codes "update") o) { name = Some name; value = Some value } → IsFilter o f
      → IsCommand o (Update f name value)
  delete : (f : Filter) → o ≡ node_with (codes "delete") o → IsFilter o f → IsCommand o (Delete f)
  new : (target text iface : List ℕ) (portal : Portal) (tag : Option ℕ) → o ≡ record (node_with (codes "new") o) { target = Some target; portal = Some text }
      → IsName target → IsPortalOf portal.address portal.port tag text → HasIface o.iface iface
      → IsCommand o (New (record { target = target; portal = portal; tag = unwrap_or tag 1; iface = iface }))
  login : (f : Filter) → o ≡ record (node o) { login = true } → IsFilter o f → IsCommand o (Login f)
  logout : (f : Filter) → o ≡ record (node o) { logout = true } → IsFilter o f → IsCommand o (Logout f)
  sessions : o ≡ record nothing { mode = Some (codes "session") } → IsCommand o Sessions

-- the words ask for the command
abbrev pub AreWordsOf : List (List ℕ) → AdminCommand → Type 0
AreWordsOf words command = (o : Options) × (options_of words ≡ Some o) × IsCommand o command
