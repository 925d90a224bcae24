-- What a command comes to, from what the database and the output say of it.
use Rattle.std.proofs.Common.{◌≡◌, ◌∙◌, ◌⊎◌, inl, inr, ℕ, ◌<◌, Bool, true, false, true≢false, cond, List, [], ◌∷◌, ◌++◌, Option, Some, None, Result, Ok, Err, refl, sym, ap, subst, map, length, arith}
use Rattle.std.specs.Prelude.{IsSome}
use Rattle.std.proofs.lemmas.List.{append-nil, map-append}
use Rattle.std.proofs.lemmas.List.Elements.{filter-append}
use Rattle.oi_names.specs.declared.session_key.SessionInfo.{SessionInfo}
use Rattle.oi_outside.specs.Records.{Records}
use Rattle.oi_outside.specs.Streams.{behind}
use Rattle.oi_outside.specs.Stores.{told_with}
use Rattle.oi_outside.specs.declared.store_error.StoreError.{StoreError}
use Rattle.oi_outside.specs.declared.store_error.StoreError.TheVariants.{Failed, Memory as StoreMemory}
use Rattle.oi_settings.specs.Keys.{Key, path_text}
use Rattle.oi_settings.specs.Texts.{Node, text_of}
use Rattle.oi_nodedb.specs.declared.error.DbError.{DbError}
use Rattle.oi_nodedb.specs.declared.error.DbError.TheVariants.{BadName, BadValue, BadRecord, NoObjects, InUse, StoreFault, Memory as DbMemory}
use Rattle.oi_nodedb.specs.declared.filter.Filter.{Filter}
use Rattle.oi_nodedb.specs.Answers.{Adds, Deletes, StopsDelete, StopsUpdate, Updates}
use Rattle.oi_nodedb.specs.Databases.{changed, fresh, record_at, told_removed, told_texts, with_value}
use Rattle.oi_nodedb.specs.Filters.{in_use, matches, matching}
use Rattle.oi_nodedb.specs.Loads.{Loads}
use Rattle.oi_admin.specs.declared.command.AdminCommand.{AdminCommand}
use Rattle.oi_admin.specs.declared.command.AdminCommand.TheVariants.{Discover, List as ListRecords, Show, Update, Delete, New, Login, Logout, Sessions}
use Rattle.oi_admin.specs.declared.fault.AdminFault.{AdminFault}
use Rattle.oi_admin.specs.declared.fault.AdminFault.TheVariants.{Db, Write, Memory}
use Rattle.oi_admin.specs.Applies.{Applies, Prints, answer_of, fault_of}
use Rattle.oi_admin.specs.Listings.{list_text, session_text, show_text}
use Rattle.oi_tool.specs.Asking.{Ask, IsFit}
use Rattle.oi_tool.specs.declared.stop.Stop.{Stop}
use Rattle.oi_tool.specs.declared.stop.Stop.TheVariants.{Words, Unreadable, Nothing, InUse as Used, Store, Sink, Memory as Wanting}
use Rattle.oi_tool.specs.Outcomes.{Change, Outcome, after, changes, drops_text, for_free, for_some, makes, outcome, prints, puts_text, refused}
use Rattle.oi_tool.specs.Answers.{Comes, Gives}
use Rattle.oi_tool.specs.Runs.{IsPart, IsRun, bad_text, carried_out}
use Rattle.oi_tool.specs.Stops.{stop_of, stopped}
use Rattle.oi_tool.proofs.Changes.{all_made, drop_stopped, none_made, part_same, put_stopped, texts_put, texts_removed}

-- ---- outcomes of commands over some records

some : {A : Type 0} (xs : List A) (o : Outcome) → 0 < length xs → for_some xs o ≡ o
some [] o few = absurd (omega (arith, few))
some (x ∷ xs) o few = refl

none : {A : Type 0} (xs : List A) (o : Outcome) → xs ≡ [] → for_some xs o ≡ refused 21
none xs o is = ap (λ ys. for_some ys o) is

no_length : {A : Type 0} (xs : List A) → length xs ≡ 0 → xs ≡ []
no_length [] e = refl
no_length (x ∷ xs) e = absurd (omega (arith, e))

pub free : (nodes : List Node) → in_use [] nodes ≡ None
free [] = refl
free (n ∷ ns) = free ns

unused : (nodes : List Node) (o : Outcome) → for_free (in_use [] nodes) o ≡ o
unused nodes o = ap (λ (u : Option ℕ). for_free u o) (free nodes)

used : (sid : ℕ) → None ≡ Some sid → ⊥
used sid e = cc

closed : {b : Bool} → b ≡ true → b ≡ false → ⊥
closed yes_it no_it = true≢false (sym yes_it ∙ no_it)

-- the outcome is that of some changes
gives_ok : (o p : Outcome) (records : Records) (is : Option Records) (held0 held : Option (List ℕ)) → o ≡ p → Gives p (Ok tt) records is held0 held → Gives o (Ok tt) records is held0 held
gives_ok o p records is held0 held same gives = subst (λ (q : Outcome). Gives q (Ok tt) records is held0 held) (sym same) gives

nothing_behind : (held : Option (List ℕ)) → held ≡ behind held []
nothing_behind None = refl
nothing_behind (Some xs) = ap (λ (ys : List ℕ). Some ys) (sym (append-nil xs))

done : (o : Outcome) (cs : List Change) (records : Records) (is : Option Records) (held0 held : Option (List ℕ)) → o ≡ changes cs → is ≡ Some (after cs records) → held ≡ held0
    → Gives o (Ok tt) records is held0 held
done o cs records is held0 held same stored quiet =
    gives_ok o (changes cs) records is held0 held same (refl, stored, quiet ∙ nothing_behind held0)

-- ---- printing

print_gives : {A : Type 0} (entries : List A) (text : List ℕ) (r : Result (Unit {0}) AdminFault) (records : Records) (is : Option Records) (held0 held : Option (List ℕ)) → is ≡ Some records
    → Prints (length entries) text r held0 held → Gives (for_some entries (prints text)) (stopped r) records is held0 held
print_gives entries text (Ok u) records is held0 held same prints_is =
    subst (λ (o : Outcome). Gives o (Ok tt) records is held0 held) (sym (some entries (prints text) prints_is.0)) (refl, same, prints_is.1)
print_gives entries text (Err (Db NoObjects)) records is held0 held same prints_is = (none entries (prints text) (no_length entries prints_is.0), same, prints_is.1)
print_gives entries text (Err Write) records is held0 held same prints_is =
    subst (λ (o : Outcome). Gives o (stopped (Err Write)) records is held0 held) (sym (some entries (prints text) prints_is.0)) (refl, same, prints_is.1)
print_gives entries text (Err Memory) records is held0 held same prints_is = (none_made (for_some entries (prints text)) records is same, prints_is)
print_gives entries text (Err (Db (BadName n))) records is held0 held same prints_is = absurd prints_is
print_gives entries text (Err (Db (BadValue n))) records is held0 held same prints_is = absurd prints_is
print_gives entries text (Err (Db (BadRecord p l))) records is held0 held same prints_is = absurd prints_is
print_gives entries text (Err (Db (InUse s))) records is held0 held same prints_is = absurd prints_is
print_gives entries text (Err (Db StoreFault)) records is held0 held same prints_is = absurd prints_is
print_gives entries text (Err (Db DbMemory)) records is held0 held same prints_is = absurd prints_is

-- ---- updates, deletions, new records

-- the records that are meant, where one stands between others
meant_at : (f : Filter) (front : List Node) (n : Node) (more : List Node) → matches f n.key ≡ true → matching f (front ++ n ∷ more) ≡ matching f front ++ n ∷ matching f more
meant_at f front n more meant =
    filter-append (λ (m : Node). matches f m.key) front (n ∷ more) ∙ ap (λ (b : Bool). matching f front ++ cond b (n ∷ matching f more) (matching f more)) meant

at_least : {A : Type 0} (xs : List A) (y : A) (ys : List A) (o : Outcome) → for_some (xs ++ y ∷ ys) o ≡ o
at_least [] y ys o = refl
at_least (x ∷ xs) y ys o = refl

module _ (f : Filter) (old : List Node) (records : Records) (is : Option Records) where
  module _ (name value : List ℕ) where
    abbrev update_outcome : Outcome
    update_outcome = outcome [] old (Update f name value)

    abbrev update_changes : Outcome
    update_changes = changes (map puts_text (changed f name value old))

    update_stops : (e : StoreError) (new : List Node) → StopsUpdate f name value e old new (Some records) is → IsPart update_outcome records is
    update_stops e new stops =
        let split : matching f old ≡ matching f stops.front ++ stops.node ∷ matching f stops.behind =
        ap (matching f) stops.whole ∙ meant_at f stops.front stops.node stops.behind stops.named in
        let whole : update_changes.changes ≡ map puts_text (changed f name value stops.front) ++ puts_text (with_value name value stops.node) ∷ map puts_text (changed f name value stops.behind) =
        ap (λ (ns : List Node). map puts_text (map (with_value name value) ns)) split
        ∙ ap (map puts_text) (map-append (with_value name value) (matching f stops.front) (stops.node ∷ matching f stops.behind))
        ∙ map-append puts_text (changed f name value stops.front) (with_value name value stops.node ∷ changed f name value stops.behind) in
        part_same update_outcome update_changes records is
        (ap (λ (ns : List Node). for_some ns update_changes) split ∙ at_least (matching f stops.front) stops.node (matching f stops.behind) update_changes)
        (put_stopped e update_changes (map puts_text (changed f name value stops.front)) (path_text stops.node.key) (text_of (with_value name value stops.node).pairs)
        (map puts_text (changed f name value stops.behind)) records (told_texts (Some records) (changed f name value stops.front)) is whole
        (texts_put (changed f name value stops.front) records) stops.store)

    update_gives : (answer : Result ℕ DbError) (new : List Node) (held0 held : Option (List ℕ)) → IsFit (Update f name value) → held ≡ held0
        → Updates f name value answer old new (Some records) is → Gives update_outcome (stopped (answer_of answer)) records is held0 held
    update_gives (Ok n) new held0 held fit quiet updates =
        done update_outcome (map puts_text (changed f name value old)) records is held0 held (some (matching f old) update_changes updates.1)
        (updates.4 ∙ texts_put (changed f name value old) records) quiet
    update_gives (Err (BadName named)) new held0 held fit quiet updates = absurd (closed fit.known.0 updates.1)
    update_gives (Err (BadValue named)) new held0 held fit quiet updates = absurd (updates.2 fit.known.1)
    update_gives (Err NoObjects) new held0 held fit quiet updates = (none (matching f old) update_changes updates.1, updates.2.1, quiet)
    update_gives (Err StoreFault) new held0 held fit quiet updates = (update_stops Failed new updates.1, quiet)
    update_gives (Err DbMemory) new held0 held fit quiet (inl same) = (none_made update_outcome records is same.1, quiet)
    update_gives (Err DbMemory) new held0 held fit quiet (inr stops) = (update_stops StoreMemory new stops.1, quiet)
    update_gives (Err (BadRecord p l)) new held0 held fit quiet updates = absurd updates
    update_gives (Err (InUse s)) new held0 held fit quiet updates = absurd updates

  abbrev delete_outcome : Outcome
  delete_outcome = outcome [] old (Delete f)

  abbrev delete_changes : Outcome
  delete_changes = changes (map drops_text (matching f old))

  delete_is : for_some (matching f old) delete_changes ≡ delete_changes → delete_outcome ≡ delete_changes
  delete_is same = ap (λ (o : Outcome). for_some (matching f old) o) (unused (matching f old) delete_changes) ∙ same

  delete_stops : (e : StoreError) (new : List Node) → StopsDelete f e old new (Some records) is → IsPart delete_outcome records is
  delete_stops e new stops =
      let split : matching f old ≡ matching f stops.front ++ stops.node ∷ matching f stops.behind =
      ap (matching f) stops.whole ∙ meant_at f stops.front stops.node stops.behind stops.named in
      let whole : delete_changes.changes ≡ map drops_text (matching f stops.front) ++ drops_text stops.node ∷ map drops_text (matching f stops.behind) =
      ap (map drops_text) split ∙ map-append drops_text (matching f stops.front) (stops.node ∷ matching f stops.behind) in
      part_same delete_outcome delete_changes records is
      (delete_is (ap (λ (ns : List Node). for_some ns delete_changes) split ∙ at_least (matching f stops.front) stops.node (matching f stops.behind) delete_changes))
      (drop_stopped e delete_changes (map drops_text (matching f stops.front)) (path_text stops.node.key) (map drops_text (matching f stops.behind)) records
      (told_removed (Some records) (matching f stops.front)) is whole (texts_removed (matching f stops.front) records) stops.store)

  delete_gives : (answer : Result ℕ DbError) (new : List Node) (held0 held : Option (List ℕ)) → held ≡ held0
      → Deletes f [] answer old new (Some records) is → Gives delete_outcome (stopped (answer_of answer)) records is held0 held
  delete_gives (Ok n) new held0 held quiet deletes =
      done delete_outcome (map drops_text (matching f old)) records is held0 held (delete_is (some (matching f old) delete_changes deletes.0.0))
      (deletes.3 ∙ texts_removed (matching f old) records) quiet
  delete_gives (Err NoObjects) new held0 held quiet deletes =
      (none (matching f old) (for_free (in_use [] (matching f old)) delete_changes) deletes.0, deletes.1.1, quiet)
  delete_gives (Err (InUse sid)) new held0 held quiet deletes = absurd (used sid (sym (free (matching f old)) ∙ deletes.0))
  delete_gives (Err StoreFault) new held0 held quiet deletes = (delete_stops Failed new deletes.1, quiet)
  delete_gives (Err DbMemory) new held0 held quiet (inl same) = (none_made delete_outcome records is same.1, quiet)
  delete_gives (Err DbMemory) new held0 held quiet (inr stops) = (delete_stops StoreMemory new stops.1, quiet)
  delete_gives (Err (BadName n)) new held0 held quiet deletes = absurd deletes
  delete_gives (Err (BadValue n)) new held0 held quiet deletes = absurd deletes
  delete_gives (Err (BadRecord p l)) new held0 held quiet deletes = absurd deletes

make_there : (key : Key) (o : Option Node) → IsSome o → makes key o ≡ changes []
make_there key (Some n) there = refl
make_there key None there = absurd (true≢false (sym there))

make_gives : (key : Key) (answer : Result Bool DbError) (old new : List Node) (records : Records) (is : Option Records) (held0 held : Option (List ℕ)) → held ≡ held0
    → Adds (fresh key) answer old new (Some records) is → Gives (makes key (record_at key old)) (stopped (answer_of answer)) records is held0 held
make_gives key (Ok true) old new records is held0 held quiet adds =
    done (makes key (record_at key old)) (puts_text (fresh key) ∷ []) records is held0 held (ap (makes key) adds.0) adds.2 quiet
make_gives key (Ok false) old new records is held0 held quiet adds =
    done (makes key (record_at key old)) [] records is held0 held (make_there key (record_at key old) adds.0) adds.1.1 quiet
make_gives key (Err StoreFault) old new records is held0 held quiet adds = (make_stops key (record_at key old) records is adds.0 adds.2, quiet)
  where
    make_stops : (key : Key) (o : Option Node) (records : Records) (is : Option Records) → o ≡ None
        → (is ≡ Some records) ⊎ (is ≡ told_with (Some records) (path_text (fresh key).key) (text_of (fresh key).pairs)) → IsPart (makes key o) records is
    make_stops key o records is none_there (inl same) = none_made (makes key o) records is same
    make_stops key o records is none_there (inr put) =
        part_same (makes key o) (changes (puts_text (fresh key) ∷ [])) records is (ap (makes key) none_there)
        (all_made (changes (puts_text (fresh key) ∷ [])) records is put)
make_gives key (Err DbMemory) old new records is held0 held quiet adds = (none_made (makes key (record_at key old)) records is adds.1, quiet)
make_gives key (Err (BadName n)) old new records is held0 held quiet adds = absurd adds
make_gives key (Err (BadValue n)) old new records is held0 held quiet adds = absurd adds
make_gives key (Err (BadRecord p l)) old new records is held0 held quiet adds = absurd adds
make_gives key (Err NoObjects) old new records is held0 held quiet adds = absurd adds
make_gives key (Err (InUse s)) old new records is held0 held quiet adds = absurd adds

-- ---- any command

applied_gives : (c : AdminCommand) (r : Result (Unit {0}) AdminFault) (old new : List Node) (records : Records) (is : Option Records) (held0 held : Option (List ℕ)) → IsFit c
    → Applies c [] r old new (Some records) is held0 held → Gives (outcome [] old c) (stopped r) records is held0 held
applied_gives (ListRecords f) r old new records is held0 held fit applies = print_gives (matching f old) (list_text (matching f old)) r records is held0 held applies.0.1 applies.1
applied_gives (Show f) r old new records is held0 held fit applies = print_gives (matching f old) (show_text (matching f old)) r records is held0 held applies.0.1 applies.1
applied_gives Sessions r old new records is held0 held fit applies = print_gives {A = SessionInfo} [] (session_text []) r records is held0 held applies.0.1 applies.1
applied_gives (Update f name value) r old new records is held0 held fit applies =
    subst (λ (x : Result (Unit {0}) AdminFault). Gives (outcome [] old (Update f name value)) (stopped x) records is held0 held) (sym applies.1.1)
    (update_gives f old records is name value applies.1.0 new held0 held fit applies.0 applies.1.2)
applied_gives (Delete f) r old new records is held0 held fit applies =
    subst (λ (x : Result (Unit {0}) AdminFault). Gives (outcome [] old (Delete f)) (stopped x) records is held0 held) (sym applies.1.1)
    (delete_gives f old records is applies.1.0 new held0 held applies.0 applies.1.2)
applied_gives (New key) r old new records is held0 held fit applies =
    subst (λ (x : Result (Unit {0}) AdminFault). Gives (outcome [] old (New key)) (stopped x) records is held0 held) (sym applies.1.1)
    (make_gives key applies.1.0 old new records is held0 held applies.0 applies.1.2)
applied_gives (Discover portal) r old new records is held0 held fit applies = absurd applies
applied_gives (Login f) r old new records is held0 held fit applies = absurd applies
applied_gives (Logout f) r old new records is held0 held fit applies = absurd applies

from_gives : (words : List (List ℕ)) (r : Result (Unit {0}) Stop) (o : Outcome) (records : Records) (is : Option Records) (held0 held : Option (List ℕ)) → IsRun words records o
    → Gives o r records is held0 held → Comes words r records is held0 held
from_gives words (Ok u) o records is held0 held run gives = (o, run, gives)
from_gives words (Err Sink) o records is held0 held run gives = (o, run, gives)
from_gives words (Err Nothing) o records is held0 held run gives = (subst (λ (p : Outcome). IsRun words records p) gives.0 run, gives.1, gives.2)
from_gives words (Err Store) o records is held0 held run gives = (inr (o, run, gives.0), gives.1)
from_gives words (Err Wanting) o records is held0 held run gives = (inr (o, run, gives.0), gives.1)
from_gives words (Err Words) o records is held0 held run gives = absurd gives
from_gives words (Err Used) o records is held0 held run gives = absurd gives
from_gives words (Err (Unreadable p l)) o records is held0 held run gives = absurd gives

pub applied : (words : List (List ℕ)) (c : AdminCommand) (r : Result (Unit {0}) AdminFault) (old new : List Node) (records : Records) (was mid is : Option Records) (held0 held : Option (List ℕ))
    → Ask words c → Loads (Ok old) was mid → was ≡ Some records → Applies c [] r old new mid is held0 held → Comes words (stopped r) records is held0 held
applied words c r old new records was mid is held0 held ask loads told applies =
    from_gives words (stopped r) (outcome [] old c) records is held0 held (carried_out c old ask loads.1 (loads.2 records told))
    (applied_gives c r old new records is held0 held ask.1 (subst (λ (o : Option Records). Applies c [] r old new o is held0 held) (loads.0 ∙ told) applies))

-- the records could not be loaded
pub unloaded : (words : List (List ℕ)) (c : AdminCommand) (e : DbError) (records : Records) (was is : Option Records) (held : Option (List ℕ)) → Ask words c → Loads (Err e) was is
    → was ≡ Some records → Comes words (Err (stop_of (fault_of e))) records is held held
unloaded words c (BadRecord p l) records was is held ask loads told = (bad_text c p l ask (loads.1 records told), loads.0 ∙ told, refl)
unloaded words c StoreFault records was is held ask loads told = (inl (loads ∙ told), refl)
unloaded words c DbMemory records was is held ask loads told = (inl (loads ∙ told), refl)
unloaded words c (BadName n) records was is held ask loads told = absurd loads
unloaded words c (BadValue n) records was is held ask loads told = absurd loads
unloaded words c NoObjects records was is held ask loads told = absurd loads
unloaded words c (InUse s) records was is held ask loads told = absurd loads
