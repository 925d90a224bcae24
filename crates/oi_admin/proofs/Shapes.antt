-- Which options pass which test, and which command they can be.
use Rattle.std.proofs.Common.{◌≡◌, ◌∙◌, ◌&&◌, ◌||◌, ◌⊎◌, inl, inr, ℕ, Bool, true, false, not, List, Option, Some, None, Err, codes, refl, sym, ap, subst, true≢false}
use Rattle.std.specs.Option.{unwrap_or}
use Rattle.std.proofs.lemmas.Slice.Eq.{bytes_eq-Decides}
use Rattle.oi_names.specs.Names.{IsName}
use Rattle.oi_names.specs.Portals.{IsPortalOf}
use Rattle.oi_names.specs.declared.portal.Portal.{Portal}
use Rattle.oi_nodedb.specs.declared.filter.Filter.{Filter}
use Rattle.oi_words.specs.declared.options.Options.{Options}
use Rattle.oi_words.specs.declared.fault.WordsFault.{WordsFault}
use Rattle.oi_words.specs.declared.fault.WordsFault.TheVariants.{Invalid, Memory}
use Rattle.oi_admin.specs.Readings.{IsNameOf, IsPlaceOf, IsReadBy}
use Rattle.oi_admin.specs.declared.command.AdminCommand.{AdminCommand}
use Rattle.oi_admin.specs.declared.command.AdminCommand.TheVariants.{Discover, List as ListRecords, Show, Update, Delete, New, Login, Logout, Sessions}
use Rattle.oi_admin.specs.Commands.{HasIface, IsCommand, IsFilter, delete, discover, discovery, list, login, logout, new, node, node_with, nothing, sessions, show, update}
use Rattle.oi_admin.specs.Rows.{has_value, is_discovery, is_flagless, is_list, is_login, is_logout, is_node, is_none, is_operation, is_operationless, is_recordless, is_session, is_settingless, is_update}

abbrev Given : Type 0
Given = Option (List ℕ)

both : (a b : Bool) → (a && b) ≡ true → (a ≡ true) × (b ≡ true)
both true b e = (refl, e)
both false b e = absurd (true≢false (sym e))

off : (b : Bool) → not b ≡ true → b ≡ false
off false e = refl
off true e = absurd (true≢false (sym e))

none : (o : Given) → is_none o ≡ true → o ≡ None
none None e = refl
none (Some x) e = absurd (true≢false (sym e))

value : (o : Given) (text : List ℕ) → has_value o text ≡ true → o ≡ Some text
value None text e = absurd (true≢false (sym e))
value (Some x) text e = ap (λ (t : List ℕ). Some t) ((bytes_eq-Decides x text).0 e)

either : (a b : Bool) → (a || b) ≡ true → (a ≡ true) ⊎ (b ≡ true)
either true b e = inl refl
either false b e = inr e

-- options are what their parts are
same : (o : Options) (m d p t i x n v : Given) (l u : Bool) → o.mode ≡ m → o.discovery ≡ d → o.portal ≡ p → o.target ≡ t → o.iface ≡ i → o.operation ≡ x → o.name ≡ n → o.value ≡ v
    → o.login ≡ l → o.logout ≡ u
    → o ≡ record { mode = m; discovery = d; portal = p; target = t; iface = i; operation = x; name = n; value = v; login = l; logout = u }
same o m d p t i x n v l u em ed ep et ei ex en ev el eu = λ j. record {
  mode = em j;
  discovery = ed j;
  portal = ep j;
  target = et j;
  iface = ei j;
  operation = ex j;
  name = en j;
  value = ev j;
  login = el j;
  logout = eu j;
}

-- ---- the parts of options that pass a test

flags : (o : Options) → is_flagless o ≡ true → (o.login ≡ false) × (o.logout ≡ false)
flags o is =
    let parts = both (not o.login) (not o.logout) is in
    (off o.login parts.0, off o.logout parts.1)

settings : (o : Options) → is_settingless o ≡ true → (o.name ≡ None) × (o.value ≡ None)
settings o is =
    let parts = both (is_none o.name) (is_none o.value) is in
    (none o.name parts.0, none o.value parts.1)

operations : (o : Options) → is_operationless o ≡ true → (o.operation ≡ None) × (o.name ≡ None) × (o.value ≡ None)
operations o is =
    let parts = both (is_none o.operation) (is_settingless o) is in
    let more = settings o parts.1 in
    (none o.operation parts.0, more.0, more.1)

modes : (o : Options) → is_node o ≡ true → (o.mode ≡ Some (codes "node")) × (o.discovery ≡ None)
modes o is =
    let parts = both (has_value o.mode (codes "node")) (is_none o.discovery) is in
    (value o.mode (codes "node") parts.0, none o.discovery parts.1)

-- ---- commands over a filter

pub list_is : (o : Options) (f : Filter) → is_node o ≡ true → is_list o ≡ true → IsFilter o f → IsCommand o (ListRecords f)
list_is o f mode is by =
    let m = modes o mode in
    let parts = both (is_operationless o) (is_flagless o) is in
    let x = operations o parts.0 in
    let l = flags o parts.1 in
    list f (same o _ _ o.portal o.target o.iface _ _ _ _ _ m.0 m.1 refl refl refl x.0 x.1 x.2 l.0 l.1) by

pub login_is : (o : Options) (f : Filter) → is_node o ≡ true → is_login o ≡ true → IsFilter o f → IsCommand o (Login f)
login_is o f mode is by =
    let m = modes o mode in
    let parts = both (is_operationless o && o.login) (not o.logout) is in
    let l = both (is_operationless o) o.login parts.0 in
    let x = operations o l.0 in
    login f (same o _ _ o.portal o.target o.iface _ _ _ _ _ m.0 m.1 refl refl refl x.0 x.1 x.2 l.1 (off o.logout parts.1)) by

pub logout_is : (o : Options) (f : Filter) → is_node o ≡ true → is_logout o ≡ true → IsFilter o f → IsCommand o (Logout f)
logout_is o f mode is by =
    let m = modes o mode in
    let parts = both (is_operationless o && o.logout) (not o.login) is in
    let l = both (is_operationless o) o.logout parts.0 in
    let x = operations o l.0 in
    logout f (same o _ _ o.portal o.target o.iface _ _ _ _ _ m.0 m.1 refl refl refl x.0 x.1 x.2 (off o.login parts.1) l.1) by

-- an operation without a setting
operation_is : (operation : List ℕ) (o : Options) → is_node o ≡ true → is_operation operation o ≡ true → o ≡ node_with operation o
operation_is operation o mode is =
    let m = modes o mode in
    let parts = both (has_value o.operation operation && is_settingless o) (is_flagless o) is in
    let more = both (has_value o.operation operation) (is_settingless o) parts.0 in
    let n = settings o more.1 in
    let l = flags o parts.1 in
    same o _ _ o.portal o.target o.iface _ _ _ _ _ m.0 m.1 refl refl refl (value o.operation operation more.0) n.0 n.1 l.0 l.1

pub show_is : (o : Options) (f : Filter) → is_node o ≡ true → is_operation (codes "show") o ≡ true → IsFilter o f → IsCommand o (Show f)
show_is o f mode is by = show f (operation_is (codes "show") o mode is) by

pub delete_is : (o : Options) (f : Filter) → is_node o ≡ true → is_operation (codes "delete") o ≡ true → IsFilter o f → IsCommand o (Delete f)
delete_is o f mode is by = delete f (operation_is (codes "delete") o mode is) by

pub update_is : (o : Options) (f : Filter) (n v : List ℕ) → is_node o ≡ true → is_update o ≡ true → o.name ≡ Some n → o.value ≡ Some v → IsFilter o f → IsCommand o (Update f n v)
update_is o f n v mode is name value_is by =
    let m = modes o mode in
    let parts = both (has_value o.operation (codes "update")) (is_flagless o) is in
    let l = flags o parts.1 in
    update f n v (same o _ _ o.portal o.target o.iface _ _ _ _ _ m.0 m.1 refl refl refl (value o.operation (codes "update") parts.0) name value_is l.0 l.1) by

-- ---- the other commands

pub new_is : (o : Options) (target text iface : List ℕ) (portal : Portal) (tag : Option ℕ) → is_node o ≡ true → is_operation (codes "new") o ≡ true → o.target ≡ Some target → o.portal ≡ Some text
    → IsName target → IsPortalOf portal.address portal.port tag text → HasIface o.iface iface
    → IsCommand o (New (record { target = target; portal = portal; tag = unwrap_or tag 1; iface = iface }))
new_is o target text iface portal tag mode is target_is portal_is name place face =
    new target text iface portal tag
    (operation_is (codes "new") o mode is ∙ (λ j. record (node_with (codes "new") o) { target = target_is j; portal = portal_is j })) name place face

records : (o : Options) → is_recordless o ≡ true
    → (o.target ≡ None) × (o.iface ≡ None) × (o.operation ≡ None) × (o.name ≡ None) × (o.value ≡ None) × (o.login ≡ false) × (o.logout ≡ false)
records o is =
    let first = both (is_none o.target && is_none o.iface && is_operationless o) (is_flagless o) is in
    let second = both (is_none o.target && is_none o.iface) (is_operationless o) first.0 in
    let third = both (is_none o.target) (is_none o.iface) second.0 in
    let x = operations o second.1 in
    let l = flags o first.1 in
    (none o.target third.0, none o.iface third.1, x.0, x.1, x.2, l.0, l.1)

pub session_is : (o : Options) → is_session o ≡ true → IsCommand o Sessions
session_is o is =
    let first = both (has_value o.mode (codes "session") && is_none o.discovery && is_none o.portal) (is_recordless o) is in
    let second = both (has_value o.mode (codes "session") && is_none o.discovery) (is_none o.portal) first.0 in
    let third = both (has_value o.mode (codes "session")) (is_none o.discovery) second.0 in
    let r = records o first.1 in
    sessions (same o _ _ _ _ _ _ _ _ _ _ (value o.mode (codes "session") third.0) (none o.discovery third.1) (none o.portal second.1) r.0 r.1 r.2 r.3 r.4 r.5 r.6)

pub discover_is : (o : Options) (text : List ℕ) (portal : Portal) (tag : Option ℕ) → is_discovery o ≡ true → o.portal ≡ Some text → IsPortalOf portal.address portal.port tag text
    → IsCommand o (Discover portal)
discover_is o text portal tag is at place =
    let kinds = has_value o.discovery (codes "sendtargets") || has_value o.discovery (codes "st") in
    let first = both (has_value o.mode (codes "discovery") && kinds) (is_recordless o) is in
    let second = both (has_value o.mode (codes "discovery")) kinds first.0 in
    let r = records o first.1 in
    let whole : (kind : List ℕ) → o.discovery ≡ Some kind → o ≡ discovery kind text =
    λ kind e. same o _ _ _ _ _ _ _ _ _ _ (value o.mode (codes "discovery") second.0) e at r.0 r.1 r.2 r.3 r.4 r.5 r.6 in
    elim (either (has_value o.discovery (codes "sendtargets")) (has_value o.discovery (codes "st")) second.1) [
      | inl e ↦ discover (codes "sendtargets") text portal tag (whole (codes "sendtargets") (value o.discovery (codes "sendtargets") e)) (inl refl) place
      | inr e ↦ discover (codes "st") text portal tag (whole (codes "st") (value o.discovery (codes "st") e)) (inr refl) place
    ]

-- ---- refusals: a command has the options of its own test

clash : (f : Options → Bool) (o other : Options) → o ≡ other → f o ≡ true → f other ≡ false → ⊥
clash f o other e is isnt = true≢false (sym is ∙ ap f e ∙ isnt)

clash_not : (f : Options → Bool) (o other : Options) → o ≡ other → f o ≡ false → f other ≡ true → ⊥
clash_not f o other e isnt is = true≢false (sym is ∙ sym (ap f e) ∙ isnt)

-- options of a discovery have a portal
pub discovered : (o : Options) (command : AdminCommand) → is_discovery o ≡ true → IsCommand o command
    → (text : List ℕ) × (portal : Portal) × (tag : Option ℕ) × (o.portal ≡ Some text) × IsPortalOf portal.address portal.port tag text
discovered o _ is (discover kind text portal tag e kinds place) = (text, portal, tag, ap (λ (x : Options). x.portal) e, place)
discovered o _ is (list f e by) = absurd (clash is_discovery o (node o) e is refl)
discovered o _ is (show f e by) = absurd (clash is_discovery o (node_with (codes "show") o) e is refl)
discovered o _ is (update f n v e by) = absurd (clash is_discovery o (record (node_with (codes "update") o) { name = Some n; value = Some v }) e is refl)
discovered o _ is (delete f e by) = absurd (clash is_discovery o (node_with (codes "delete") o) e is refl)
discovered o _ is (new target text iface portal tag e name place face) =
    absurd (clash is_discovery o (record (node_with (codes "new") o) { target = Some target; portal = Some text }) e is refl)
discovered o _ is (login f e by) = absurd (clash is_discovery o (record (node o) { login = true }) e is refl)
discovered o _ is (logout f e by) = absurd (clash is_discovery o (record (node o) { logout = true }) e is refl)
discovered o _ is (sessions e) = absurd (clash is_discovery o (record nothing { mode = Some (codes "session") }) e is refl)

-- options of a new record have a target and a portal
pub made : (o : Options) (command : AdminCommand) → is_node o ≡ true → is_operation (codes "new") o ≡ true → IsCommand o command
    → (target text iface : List ℕ) × (portal : Portal) × (tag : Option ℕ) × (o.target ≡ Some target) × (o.portal ≡ Some text) × IsName target × IsPortalOf portal.address portal.port tag text
    × HasIface o.iface iface
made o _ mode is (discover kind text portal tag e kinds place) = absurd (clash is_node o (discovery kind text) e mode refl)
made o _ mode is (list f e by) = absurd (clash (is_operation (codes "new")) o (node o) e is refl)
made o _ mode is (show f e by) = absurd (clash (is_operation (codes "new")) o (node_with (codes "show") o) e is refl)
made o _ mode is (update f n v e by) = absurd (clash (is_operation (codes "new")) o (record (node_with (codes "update") o) { name = Some n; value = Some v }) e is refl)
made o _ mode is (delete f e by) = absurd (clash (is_operation (codes "new")) o (node_with (codes "delete") o) e is refl)
made o _ mode is (new target text iface portal tag e name place face) =
    (target, text, iface, portal, tag, ap (λ (x : Options). x.target) e, ap (λ (x : Options). x.portal) e, name, place, face)
made o _ mode is (login f e by) = absurd (clash (is_operation (codes "new")) o (record (node o) { login = true }) e is refl)
made o _ mode is (logout f e by) = absurd (clash (is_operation (codes "new")) o (record (node o) { logout = true }) e is refl)
made o _ mode is (sessions e) = absurd (clash is_node o (record nothing { mode = Some (codes "session") }) e mode refl)

-- other options of records have a filter
pub filtered : (o : Options) (command : AdminCommand) → is_node o ≡ true → is_operation (codes "new") o ≡ false → IsCommand o command → (f : Filter) × IsFilter o f
filtered o _ mode isnt (discover kind text portal tag e kinds place) = absurd (clash is_node o (discovery kind text) e mode refl)
filtered o _ mode isnt (list f e by) = (f, by)
filtered o _ mode isnt (show f e by) = (f, by)
filtered o _ mode isnt (update f n v e by) = (f, by)
filtered o _ mode isnt (delete f e by) = (f, by)
filtered o _ mode isnt (new target text iface portal tag e name place face) =
    absurd (clash_not (is_operation (codes "new")) o (record (node_with (codes "new") o) { target = Some target; portal = Some text }) e isnt refl)
filtered o _ mode isnt (login f e by) = (f, by)
filtered o _ mode isnt (logout f e by) = (f, by)
filtered o _ mode isnt (sessions e) = absurd (clash is_node o (record nothing { mode = Some (codes "session") }) e mode refl)

-- options of an update have a name and a value
pub set_by : (o : Options) (command : AdminCommand) → is_node o ≡ true → is_update o ≡ true → IsCommand o command → (n v : List ℕ) × (o.name ≡ Some n) × (o.value ≡ Some v)
set_by o _ mode is (discover kind text portal tag e kinds place) = absurd (clash is_node o (discovery kind text) e mode refl)
set_by o _ mode is (list f e by) = absurd (clash is_update o (node o) e is refl)
set_by o _ mode is (show f e by) = absurd (clash is_update o (node_with (codes "show") o) e is refl)
set_by o _ mode is (update f n v e by) = (n, v, ap (λ (x : Options). x.name) e, ap (λ (x : Options). x.value) e)
set_by o _ mode is (delete f e by) = absurd (clash is_update o (node_with (codes "delete") o) e is refl)
set_by o _ mode is (new target text iface portal tag e name place face) =
    absurd (clash is_update o (record (node_with (codes "new") o) { target = Some target; portal = Some text }) e is refl)
set_by o _ mode is (login f e by) = absurd (clash is_update o (record (node o) { login = true }) e is refl)
set_by o _ mode is (logout f e by) = absurd (clash is_update o (record (node o) { logout = true }) e is refl)
set_by o _ mode is (sessions e) = absurd (clash is_node o (record nothing { mode = Some (codes "session") }) e mode refl)

-- options of another mode
pub outside : (o : Options) (command : AdminCommand) → is_discovery o ≡ false → is_session o ≡ false → is_node o ≡ false → IsCommand o command → ⊥
outside o _ d s m (discover kind text portal tag e (inl is) place) =
    clash_not is_discovery o (discovery (codes "sendtargets") text) (e ∙ ap (λ (k : List ℕ). discovery k text) is) d refl
outside o _ d s m (discover kind text portal tag e (inr is) place) =
    clash_not is_discovery o (discovery (codes "st") text) (e ∙ ap (λ (k : List ℕ). discovery k text) is) d refl
outside o _ d s m (list f e by) = clash_not is_node o (node o) e m refl
outside o _ d s m (show f e by) = clash_not is_node o (node_with (codes "show") o) e m refl
outside o _ d s m (update f n v e by) = clash_not is_node o (record (node_with (codes "update") o) { name = Some n; value = Some v }) e m refl
outside o _ d s m (delete f e by) = clash_not is_node o (node_with (codes "delete") o) e m refl
outside o _ d s m (new target text iface portal tag e name place face) =
    clash_not is_node o (record (node_with (codes "new") o) { target = Some target; portal = Some text }) e m refl
outside o _ d s m (login f e by) = clash_not is_node o (record (node o) { login = true }) e m refl
outside o _ d s m (logout f e by) = clash_not is_node o (record (node o) { logout = true }) e m refl
outside o _ d s m (sessions e) = clash_not is_session o (record nothing { mode = Some (codes "session") }) e s refl

-- options of records that are those of no command
pub none_of : (o : Options) (command : AdminCommand) → is_node o ≡ true → is_operation (codes "new") o ≡ false → is_list o ≡ false → is_operation (codes "show") o ≡ false
    → is_operation (codes "delete") o ≡ false → is_login o ≡ false → is_logout o ≡ false → is_update o ≡ false → IsCommand o command → ⊥
none_of o _ mode a b s x l u y (discover kind text portal tag e kinds place) = clash is_node o (discovery kind text) e mode refl
none_of o _ mode a b s x l u y (list f e by) = clash_not is_list o (node o) e b refl
none_of o _ mode a b s x l u y (show f e by) = clash_not (is_operation (codes "show")) o (node_with (codes "show") o) e s refl
none_of o _ mode a b s x l u y (update f n v e by) = clash_not is_update o (record (node_with (codes "update") o) { name = Some n; value = Some v }) e y refl
none_of o _ mode a b s x l u y (delete f e by) = clash_not (is_operation (codes "delete")) o (node_with (codes "delete") o) e x refl
none_of o _ mode a b s x l u y (new target text iface portal tag e name place face) =
    clash_not (is_operation (codes "new")) o (record (node_with (codes "new") o) { target = Some target; portal = Some text }) e a refl
none_of o _ mode a b s x l u y (login f e by) = clash_not is_login o (record (node o) { login = true }) e l refl
none_of o _ mode a b s x l u y (logout f e by) = clash_not is_logout o (record (node o) { logout = true }) e u refl
none_of o _ mode a b s x l u y (sessions e) = clash is_node o (record nothing { mode = Some (codes "session") }) e mode refl

-- ---- what a refused part refuses

pub refused : {T U : Type 0} (P : T → Type 0) (Q : U → Type 0) (fault : WordsFault) → ((u : U) → Q u → (t : T) × P t) → IsReadBy P (Err fault) → IsReadBy Q (Err fault)
refused P Q Invalid turn isnt = λ u q. isnt (turn u q).0 (turn u q).1
refused P Q Memory turn isnt = tt

one_text : (a b : List ℕ) → Some a ≡ Some b → a ≡ b
one_text a b e = cc

pub discovered_at : (o : Options) (text : List ℕ) (command : AdminCommand) → is_discovery o ≡ true → o.portal ≡ Some text → IsCommand o command → (place : Portal × Option ℕ) × IsPlaceOf text place
discovered_at o text command is at of =
    let d = discovered o command is of in
    ((d.1, d.2), subst (λ (t : List ℕ). IsPortalOf d.1.address d.1.port d.2 t) (one_text d.0 text (sym d.3 ∙ at)) d.4)

pub made_name : (o : Options) (text : List ℕ) (command : AdminCommand) → is_node o ≡ true → is_operation (codes "new") o ≡ true → o.target ≡ Some text → IsCommand o command
    → (name : List ℕ) × IsNameOf text name
made_name o text command mode is at of =
    let d = made o command mode is of in
    (text, (refl, subst IsName (one_text d.0 text (sym d.5 ∙ at)) d.7))

pub made_place : (o : Options) (text : List ℕ) (command : AdminCommand) → is_node o ≡ true → is_operation (codes "new") o ≡ true → o.portal ≡ Some text → IsCommand o command
    → (place : Portal × Option ℕ) × IsPlaceOf text place
made_place o text command mode is at of =
    let d = made o command mode is of in
    ((d.3, d.4), subst (λ (t : List ℕ). IsPortalOf d.3.address d.3.port d.4 t) (one_text d.1 text (sym d.6 ∙ at)) d.8)

pub made_iface : (o : Options) (command : AdminCommand) → is_node o ≡ true → is_operation (codes "new") o ≡ true → IsCommand o command → (iface : List ℕ) × HasIface o.iface iface
made_iface o command mode is of =
    let d = made o command mode is of in
    (d.2, d.9)
