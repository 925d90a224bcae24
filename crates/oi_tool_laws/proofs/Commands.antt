-- Words ask for one command.
use Rattle.std.proofs.Common.{◌≡◌, ◌∙◌, ℕ, cond, List, Option, Some, None, codes, unwrap_or, refl, sym, ap, subst, arith}
use Rattle.oi_names.specs.Portals.{IsPortalOf}
use Rattle.oi_names.specs.declared.portal.Portal.{Portal}
use Rattle.oi_names.proofs.Readings.{once}
use Rattle.oi_nodedb.specs.declared.filter.Filter.{Filter}
use Rattle.oi_settings.proofs.Stops.{key_is}
use Rattle.oi_words.specs.declared.options.Options.{Options}
use Rattle.oi_admin.specs.Commands.{AsksIface, AsksName, AsksPortal, HasIface, IsCommand, IsFilter, delete, discover, list, login, logout, new, sessions, show, update}
use Rattle.oi_admin.specs.Rows.{has_value}
use Rattle.oi_admin.specs.declared.command.AdminCommand.{AdminCommand}
use Rattle.oi_admin.specs.declared.command.AdminCommand.TheVariants.{Discover, List as ListRecords, Show, Update, Delete, New, Login, Logout, Sessions}
use Rattle.oi_tool.specs.Asking.{Ask}

abbrev Given : Type 0
Given = Option (List ℕ)

one_text : (a b : List ℕ) → ◌≡◌ {A = Given} (Some a) (Some b) → a ≡ b
one_text a b e = ap (λ (o : Given). unwrap_or o a) e

-- ---- what is asked for is one

one_name : (given a b : Given) → AsksName given a → AsksName given b → a ≡ b
one_name None a b x y = x ∙ sym y
one_name (Some text) a b x y = x.0 ∙ sym y.0

one_iface : (given a b : Given) → AsksIface given a → AsksIface given b → a ≡ b
one_iface None a b x y = x ∙ sym y
one_iface (Some text) a b x y = x.0 ∙ sym y.0

one_own : (given : Given) (a b : List ℕ) → HasIface given a → HasIface given b → a ≡ b
one_own None a b x y = x ∙ sym y
one_own (Some text) a b x y = x.0 ∙ sym y.0

portal_is : (a b : Portal) → a.address ≡ b.address → a.port ≡ b.port → a ≡ b
portal_is a b addresses ports = λ i. record { address = addresses i; port = ports i }

one_place : (text : List ℕ) (a b : Portal) (s t : Option ℕ) → IsPortalOf a.address a.port s text → IsPortalOf b.address b.port t text → (a ≡ b) × (s ≡ t)
one_place text a b s t x y =
    let same = once text a.address b.address a.port b.port s t x y in
    (portal_is a b same.0 same.1, same.2)

one_portal : (given : Given) (a b : Option Portal) (s t : Option ℕ) → AsksPortal given a s → AsksPortal given b t → (a ≡ b) × (s ≡ t)
one_portal None a b s t x y = (x.0 ∙ sym y.0, x.1 ∙ sym y.1)
one_portal (Some text) a b s t x y =
    let same = one_place text x.0 y.0 s t x.2 y.2 in
    (x.1 ∙ ap (λ (p : Portal). Some p) same.0 ∙ sym y.1, same.1)

filter_is : (a b : Filter) → a.target ≡ b.target → a.portal ≡ b.portal → a.tag ≡ b.tag → a.iface ≡ b.iface → a ≡ b
filter_is a b targets portals tags ifaces = λ i. record { target = targets i; portal = portals i; tag = tags i; iface = ifaces i }

one_filter : (o : Options) (a b : Filter) → IsFilter o a → IsFilter o b → a ≡ b
one_filter o a b x y =
    let places = one_portal o.portal a.portal b.portal a.tag b.tag x.1 y.1 in
    filter_is a b (one_name o.target a.target b.target x.0 y.0) places.0 places.1 (one_iface o.iface a.iface b.iface x.2 y.2)

-- ---- which command it is, and what it holds of the options

number : AdminCommand → ℕ
number (Discover portal) = 0
number (ListRecords f) = 1
number (Show f) = 2
number (Update f name value) = 3
number (Delete f) = 4
number (New key) = 5
number (Login f) = 6
number (Logout f) = 7
number Sessions = 8

abbrev Holds : Options → AdminCommand → Type 0
Holds o (Discover portal) = (text : List ℕ) × (tag : Option ℕ) × (o.portal ≡ Some text) × IsPortalOf portal.address portal.port tag text
Holds o (ListRecords f) = IsFilter o f
Holds o (Show f) = IsFilter o f
Holds o (Update f name value) = (o.name ≡ Some name) × (o.value ≡ Some value) × IsFilter o f
Holds o (Delete f) = IsFilter o f
Holds o (New key) =
    (text : List ℕ) × (tag : Option ℕ) × (o.target ≡ Some key.target) × (o.portal ≡ Some text) × IsPortalOf key.portal.address key.portal.port tag text
    × (key.tag ≡ unwrap_or tag 1) × HasIface o.iface key.iface
Holds o (Login f) = IsFilter o f
Holds o (Logout f) = IsFilter o f
Holds o Sessions = Unit {0}

-- the number of the command whose options these are
abbrev operation_number : Given → ℕ
operation_number o =
    cond (has_value o (codes "show")) 2
    (cond (has_value o (codes "update")) 3 (cond (has_value o (codes "delete")) 4 (cond (has_value o (codes "new")) 5 1)))

abbrev number_of : Options → ℕ
number_of o =
    cond (has_value o.mode (codes "discovery")) 0
    (cond (has_value o.mode (codes "session")) 8 (cond o.login 6 (cond o.logout 7 (operation_number o.operation))))

numbered : (o : Options) (c : AdminCommand) → IsCommand o c → number_of o ≡ number c
unfolding number
numbered o _ (discover kind text portal tag e kinds place) = ap number_of e
numbered o _ (list f e by) = ap number_of e
numbered o _ (show f e by) = ap number_of e
numbered o _ (update f name value e by) = ap number_of e
numbered o _ (delete f e by) = ap number_of e
numbered o _ (new target text iface portal tag e name place face) = ap number_of e
numbered o _ (login f e by) = ap number_of e
numbered o _ (logout f e by) = ap number_of e
numbered o _ (sessions e) = ap number_of e

holds : (o : Options) (c : AdminCommand) → IsCommand o c → Holds o c
holds o _ (discover kind text portal tag e kinds place) = (text, tag, ap (λ (x : Options). x.portal) e, place)
holds o _ (list f e by) = by
holds o _ (show f e by) = by
holds o _ (update f name value e by) = (ap (λ (x : Options). x.name) e, ap (λ (x : Options). x.value) e, by)
holds o _ (delete f e by) = by
holds o _ (new target text iface portal tag e name place face) =
    (text, tag, ap (λ (x : Options). x.target) e, ap (λ (x : Options). x.portal) e, place, refl, face)
holds o _ (login f e by) = by
holds o _ (logout f e by) = by
holds o _ (sessions e) = tt

same_text : (given : Given) (a b : List ℕ) → given ≡ Some a → given ≡ Some b → a ≡ b
same_text given a b x y = one_text a b (sym x ∙ y)

-- commands of one number that hold of the same options are one
held_once : (o : Options) (a b : AdminCommand) → number a ≡ number b → Holds o a → Holds o b → a ≡ b
unfolding number
held_once o (Discover a) (Discover b) same x y =
    ap Discover (one_place x.0 a b x.1 y.1 x.3 (subst (λ (t : List ℕ). IsPortalOf b.address b.port y.1 t) (same_text o.portal y.0 x.0 y.2 x.2) y.3)).0
held_once o (ListRecords a) (ListRecords b) same x y = ap ListRecords (one_filter o a b x y)
held_once o (Show a) (Show b) same x y = ap Show (one_filter o a b x y)
held_once o (Update a n v) (Update b m w) same x y =
    let filters = one_filter o a b x.2 y.2 in
    let names = same_text o.name n m x.0 y.0 in
    let values = same_text o.value v w x.1 y.1 in
    λ i. Update (filters i) (names i) (values i)
held_once o (Delete a) (Delete b) same x y = ap Delete (one_filter o a b x y)
held_once o (New a) (New b) same x y =
    let places =
    one_place x.0 a.portal b.portal x.1 y.1 x.4 (subst (λ (t : List ℕ). IsPortalOf b.portal.address b.portal.port y.1 t) (same_text o.portal y.0 x.0 y.3 x.3) y.4) in
    ap New
    (key_is a b (same_text o.target a.target b.target x.2 y.2) (ap (λ (p : Portal). p.address) places.0) (ap (λ (p : Portal). p.port) places.0)
    (x.5 ∙ ap (λ (t : Option ℕ). unwrap_or t 1) places.1 ∙ sym y.5) (one_own o.iface a.iface b.iface x.6 y.6))
held_once o (Login a) (Login b) same x y = ap Login (one_filter o a b x y)
held_once o (Logout a) (Logout b) same x y = ap Logout (one_filter o a b x y)
held_once o Sessions Sessions same x y = refl
held_once o a b same x y = absurd (omega (arith, same))

command_once : (o : Options) (a b : AdminCommand) → IsCommand o a → IsCommand o b → a ≡ b
command_once o a b x y = held_once o a b (sym (numbered o a x) ∙ numbered o b y) (holds o a x) (holds o b y)

same_options : (a b : Options) → ◌≡◌ {A = Option Options} (Some a) (Some b) → a ≡ b
same_options a b e = ap (λ (o : Option Options). unwrap_or o a) e

pub one_command : (words : List (List ℕ)) (a b : AdminCommand) → Ask words a → Ask words b → a ≡ b
one_command words a b ask asks =
    let x = ask.0 in
    let y = asks.0 in
    let options : y.0 ≡ x.0 = same_options y.0 x.0 (sym y.1 ∙ x.1) in
    command_once x.0 a b x.2 (subst (λ (o : Options). IsCommand o b) options y.2)
