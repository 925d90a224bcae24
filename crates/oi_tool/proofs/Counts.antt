-- Why a run stopped, and what of the counts and the output that tells.
use Rattle.std.proofs.Common.{◌≡◌, ◌∙◌, inl, ℕ, Bool, true, false, true≢false, List, [], Option, None, Some, Result, Ok, Err, refl, sym, ap, subst}
use Rattle.oi_outside.specs.Records.{Records}
use Rattle.oi_settings.specs.Texts.{Node}
use Rattle.oi_words.specs.declared.fault.WordsFault.{WordsFault}
use Rattle.oi_words.specs.declared.fault.WordsFault.TheVariants.{Invalid, Memory as WordsMemory}
use Rattle.oi_nodedb.specs.declared.error.DbError.{DbError}
use Rattle.oi_nodedb.specs.declared.error.DbError.TheVariants.{BadName, BadValue, BadRecord, NoObjects, InUse, StoreFault, Memory as DbMemory}
use Rattle.oi_nodedb.specs.declared.filter.Filter.{Filter}
use Rattle.oi_nodedb.specs.Answers.{Adds, Deletes, IsCounted, Updates}
use Rattle.oi_nodedb.specs.Databases.{fresh}
use Rattle.oi_nodedb.specs.Filters.{matching}
use Rattle.oi_nodedb.specs.Loads.{Loads}
use Rattle.oi_admin.specs.declared.command.AdminCommand.{AdminCommand}
use Rattle.oi_admin.specs.declared.command.AdminCommand.TheVariants.{Discover, List as ListRecords, Show, Update, Delete, New, Login, Logout, Sessions}
use Rattle.oi_admin.specs.declared.fault.AdminFault.{AdminFault}
use Rattle.oi_admin.specs.declared.fault.AdminFault.TheVariants.{Db, Write, Memory}
use Rattle.oi_admin.specs.Applies.{Applies, IsSinkCounted, IsStoreCounted, Prints, answer_of, fault_of}
use Rattle.oi_admin.specs.Readings.{IsReadBy}
use Rattle.oi_tool.specs.declared.stop.Stop.{Stop}
use Rattle.oi_tool.specs.declared.stop.Stop.TheVariants.{Words, Unreadable, Nothing, InUse as Used, Store, Sink, Memory as Wanting}
use Rattle.oi_tool.specs.Answers.{AreJudged, Comes, IsAnswer, IsQuiet, IsSinkCount, IsStoreCount}
use Rattle.oi_tool.specs.Asking.{Ask, IsFit}
use Rattle.oi_tool.specs.Runs.{bad_words}
use Rattle.oi_tool.specs.Stops.{stop_of, stop_of_words, stopped}
use Rattle.oi_tool.proofs.Comings.{applied, free, unloaded}

abbrev IsAlone : Result (Unit {0}) Stop → Type 0
IsAlone (Err Words) = ⊥
IsAlone (Err Used) = ⊥
IsAlone other = Unit {0}

-- ---- words that are refused

pub refused_comes : (words : List (List ℕ)) (f : WordsFault) (records : Records) (is : Option Records) (held : Option (List ℕ)) → IsReadBy (Ask words) (Err f) → is ≡ Some records
    → Comes words (Err (stop_of_words f)) records is held held
refused_comes words Invalid records is held read told = (bad_words read, told, refl)
refused_comes words WordsMemory records is held read told = (inl told, refl)

pub refused_judged : (words : List (List ℕ)) (f : WordsFault) → IsReadBy (Ask words) (Err f) → AreJudged words (Err (stop_of_words f))
refused_judged words Invalid read = read
refused_judged words WordsMemory read = tt

pub refused_quiet : (f : WordsFault) (held : Option (List ℕ)) → IsQuiet (Err (stop_of_words f)) held held
refused_quiet Invalid held = refl
refused_quiet WordsMemory held = refl

pub refused_store : (f : WordsFault) (n : ℕ) → IsStoreCount (Err (stop_of_words f)) n n
refused_store Invalid n = refl
refused_store WordsMemory n = refl

pub refused_sink : (f : WordsFault) (n : ℕ) → IsSinkCount (Err (stop_of_words f)) n n
refused_sink Invalid n = refl
refused_sink WordsMemory n = refl

-- ---- records that could not be loaded

judged : (words : List (List ℕ)) (c : AdminCommand) (r : Result (Unit {0}) Stop) → Ask words c → IsAlone r → AreJudged words r
judged words c (Ok u) ask alone = λ refused. refused c ask
judged words c (Err Words) ask alone = absurd alone
judged words c (Err Used) ask alone = absurd alone
judged words c (Err Wanting) ask alone = tt
judged words c (Err (Unreadable p l)) ask alone = λ refused. refused c ask
judged words c (Err Nothing) ask alone = λ refused. refused c ask
judged words c (Err Store) ask alone = λ refused. refused c ask
judged words c (Err Sink) ask alone = λ refused. refused c ask

load_alone : (e : DbError) (was is : Option Records) → Loads (Err e) was is → IsAlone (Err (stop_of (fault_of e)))
load_alone (BadRecord p l) was is loads = tt
load_alone StoreFault was is loads = tt
load_alone DbMemory was is loads = tt
load_alone (BadName n) was is loads = absurd loads
load_alone (BadValue n) was is loads = absurd loads
load_alone NoObjects was is loads = absurd loads
load_alone (InUse s) was is loads = absurd loads

pub unloaded_judged : (words : List (List ℕ)) (c : AdminCommand) (e : DbError) (was is : Option Records) → Ask words c → Loads (Err e) was is → AreJudged words (Err (stop_of (fault_of e)))
unloaded_judged words c e was is ask loads = judged words c (Err (stop_of (fault_of e))) ask (load_alone e was is loads)

pub unloaded_quiet : (e : DbError) (held : Option (List ℕ)) → IsQuiet (Err (stop_of (fault_of e))) held held
unloaded_quiet (BadName n) held = refl
unloaded_quiet (BadValue n) held = refl
unloaded_quiet (BadRecord p l) held = refl
unloaded_quiet NoObjects held = refl
unloaded_quiet (InUse s) held = refl
unloaded_quiet StoreFault held = refl
unloaded_quiet DbMemory held = refl

pub unloaded_store : (e : DbError) (before now : ℕ) → IsCounted {T = List Node} (Err e) before now → IsStoreCount (Err (stop_of (fault_of e))) before now
unloaded_store (BadName n) before now counted = counted
unloaded_store (BadValue n) before now counted = counted
unloaded_store (BadRecord p l) before now counted = counted
unloaded_store NoObjects before now counted = counted
unloaded_store (InUse s) before now counted = counted
unloaded_store StoreFault before now counted = counted
unloaded_store DbMemory before now counted = counted

pub unloaded_sink : (e : DbError) (n : ℕ) → IsSinkCount (Err (stop_of (fault_of e))) n n
unloaded_sink (BadName m) n = refl
unloaded_sink (BadValue m) n = refl
unloaded_sink (BadRecord p l) n = refl
unloaded_sink NoObjects n = refl
unloaded_sink (InUse s) n = refl
unloaded_sink StoreFault n = refl
unloaded_sink DbMemory n = refl

-- ---- commands that were applied

pub applied_store : (r : Result (Unit {0}) AdminFault) (before mid now : ℕ) → mid ≡ before → IsStoreCounted r mid now → IsStoreCount (stopped r) before now
applied_store r before mid now same counted = told r before now (subst (λ (n : ℕ). IsStoreCounted r n now) same counted)
  where
    told : (r : Result (Unit {0}) AdminFault) (before now : ℕ) → IsStoreCounted r before now → IsStoreCount (stopped r) before now
    told (Ok u) before now counted = counted
    told (Err Write) before now counted = counted
    told (Err Memory) before now counted = counted
    told (Err (Db (BadName n))) before now counted = counted
    told (Err (Db (BadValue n))) before now counted = counted
    told (Err (Db (BadRecord p l))) before now counted = counted
    told (Err (Db NoObjects)) before now counted = counted
    told (Err (Db (InUse s))) before now counted = counted
    told (Err (Db StoreFault)) before now counted = counted
    told (Err (Db DbMemory)) before now counted = counted

pub applied_sink : (r : Result (Unit {0}) AdminFault) (before now : ℕ) → IsSinkCounted r before now → IsSinkCount (stopped r) before now
applied_sink (Ok u) before now counted = counted
applied_sink (Err Write) before now counted = counted
applied_sink (Err Memory) before now counted = counted
applied_sink (Err (Db (BadName n))) before now counted = counted
applied_sink (Err (Db (BadValue n))) before now counted = counted
applied_sink (Err (Db (BadRecord p l))) before now counted = counted
applied_sink (Err (Db NoObjects)) before now counted = counted
applied_sink (Err (Db (InUse s))) before now counted = counted
applied_sink (Err (Db StoreFault)) before now counted = counted
applied_sink (Err (Db DbMemory)) before now counted = counted

print_quiet : (entries : ℕ) (text : List ℕ) (r : Result (Unit {0}) AdminFault) (held0 held : Option (List ℕ)) → Prints entries text r held0 held → IsQuiet (stopped r) held0 held
print_quiet entries text (Ok u) held0 held prints = tt
print_quiet entries text (Err (Db NoObjects)) held0 held prints = prints.1
print_quiet entries text (Err Write) held0 held prints = tt
print_quiet entries text (Err Memory) held0 held prints = prints
print_quiet entries text (Err (Db (BadName n))) held0 held prints = absurd prints
print_quiet entries text (Err (Db (BadValue n))) held0 held prints = absurd prints
print_quiet entries text (Err (Db (BadRecord p l))) held0 held prints = absurd prints
print_quiet entries text (Err (Db (InUse s))) held0 held prints = absurd prints
print_quiet entries text (Err (Db StoreFault)) held0 held prints = absurd prints
print_quiet entries text (Err (Db DbMemory)) held0 held prints = absurd prints

silent : (r : Result (Unit {0}) AdminFault) (held0 held : Option (List ℕ)) → held ≡ held0 → IsQuiet (stopped r) held0 held
silent (Ok u) held0 held same = tt
silent (Err Write) held0 held same = tt
silent (Err Memory) held0 held same = same
silent (Err (Db (BadName n))) held0 held same = same
silent (Err (Db (BadValue n))) held0 held same = same
silent (Err (Db (BadRecord p l))) held0 held same = same
silent (Err (Db NoObjects)) held0 held same = same
silent (Err (Db (InUse s))) held0 held same = same
silent (Err (Db StoreFault)) held0 held same = same
silent (Err (Db DbMemory)) held0 held same = same

pub applied_quiet : (c : AdminCommand) (r : Result (Unit {0}) AdminFault) (old new : List Node) (was is : Option Records) (held0 held : Option (List ℕ)) → Applies c [] r old new was is held0 held
    → IsQuiet (stopped r) held0 held
applied_quiet (ListRecords f) r old new was is held0 held applies = print_quiet _ _ r held0 held applies.1
applied_quiet (Show f) r old new was is held0 held applies = print_quiet _ _ r held0 held applies.1
applied_quiet Sessions r old new was is held0 held applies = print_quiet _ _ r held0 held applies.1
applied_quiet (Update f name value) r old new was is held0 held applies = silent r held0 held applies.0
applied_quiet (Delete f) r old new was is held0 held applies = silent r held0 held applies.0
applied_quiet (New key) r old new was is held0 held applies = silent r held0 held applies.0
applied_quiet (Discover portal) r old new was is held0 held applies = absurd applies
applied_quiet (Login f) r old new was is held0 held applies = absurd applies
applied_quiet (Logout f) r old new was is held0 held applies = absurd applies

print_alone : (entries : ℕ) (text : List ℕ) (r : Result (Unit {0}) AdminFault) (held0 held : Option (List ℕ)) → Prints entries text r held0 held → IsAlone (stopped r)
print_alone entries text (Ok u) held0 held prints = tt
print_alone entries text (Err (Db NoObjects)) held0 held prints = tt
print_alone entries text (Err Write) held0 held prints = tt
print_alone entries text (Err Memory) held0 held prints = tt
print_alone entries text (Err (Db (BadName n))) held0 held prints = absurd prints
print_alone entries text (Err (Db (BadValue n))) held0 held prints = absurd prints
print_alone entries text (Err (Db (BadRecord p l))) held0 held prints = absurd prints
print_alone entries text (Err (Db (InUse s))) held0 held prints = absurd prints
print_alone entries text (Err (Db StoreFault)) held0 held prints = absurd prints
print_alone entries text (Err (Db DbMemory)) held0 held prints = absurd prints

apart : {b : Bool} → b ≡ true → b ≡ false → ⊥
apart open_it shut_it = true≢false (sym open_it ∙ shut_it)

update_alone : (f : Filter) (name value : List ℕ) (answer : Result ℕ DbError) (old new : List Node) (was is : Option Records) → IsFit (Update f name value)
    → Updates f name value answer old new was is → IsAlone (stopped (answer_of answer))
update_alone f name value (Ok n) old new was is fit updates = tt
update_alone f name value (Err (BadName n)) old new was is fit updates = absurd (apart fit.known.0 updates.1)
update_alone f name value (Err (BadValue n)) old new was is fit updates = absurd (updates.2 fit.known.1)
update_alone f name value (Err NoObjects) old new was is fit updates = tt
update_alone f name value (Err StoreFault) old new was is fit updates = tt
update_alone f name value (Err DbMemory) old new was is fit updates = tt
update_alone f name value (Err (BadRecord p l)) old new was is fit updates = absurd updates
update_alone f name value (Err (InUse s)) old new was is fit updates = absurd updates

unused : (s : ℕ) → None ≡ Some s → ⊥
unused s e = cc

delete_alone : (f : Filter) (answer : Result ℕ DbError) (old new : List Node) (was is : Option Records) → Deletes f [] answer old new was is → IsAlone (stopped (answer_of answer))
delete_alone f (Ok n) old new was is deletes = tt
delete_alone f (Err NoObjects) old new was is deletes = tt
delete_alone f (Err (InUse s)) old new was is deletes = absurd (unused s (sym (free (matching f old)) ∙ deletes.0))
delete_alone f (Err StoreFault) old new was is deletes = tt
delete_alone f (Err DbMemory) old new was is deletes = tt
delete_alone f (Err (BadName n)) old new was is deletes = absurd deletes
delete_alone f (Err (BadValue n)) old new was is deletes = absurd deletes
delete_alone f (Err (BadRecord p l)) old new was is deletes = absurd deletes

make_alone : (node : Node) (answer : Result Bool DbError) (old new : List Node) (was is : Option Records) → Adds node answer old new was is → IsAlone (stopped (answer_of answer))
make_alone node (Ok true) old new was is adds = tt
make_alone node (Ok false) old new was is adds = tt
make_alone node (Err StoreFault) old new was is adds = tt
make_alone node (Err DbMemory) old new was is adds = tt
make_alone node (Err (BadName n)) old new was is adds = absurd adds
make_alone node (Err (BadValue n)) old new was is adds = absurd adds
make_alone node (Err (BadRecord p l)) old new was is adds = absurd adds
make_alone node (Err NoObjects) old new was is adds = absurd adds
make_alone node (Err (InUse s)) old new was is adds = absurd adds

applied_alone : (c : AdminCommand) (r : Result (Unit {0}) AdminFault) (old new : List Node) (was is : Option Records) (held0 held : Option (List ℕ)) → IsFit c → Applies c [] r old new was is held0 held
    → IsAlone (stopped r)
applied_alone (ListRecords f) r old new was is held0 held fit applies = print_alone _ _ r held0 held applies.1
applied_alone (Show f) r old new was is held0 held fit applies = print_alone _ _ r held0 held applies.1
applied_alone Sessions r old new was is held0 held fit applies = print_alone _ _ r held0 held applies.1
applied_alone (Update f name value) r old new was is held0 held fit applies =
    subst (λ (x : Result (Unit {0}) AdminFault). IsAlone (stopped x)) (sym applies.1.1) (update_alone f name value applies.1.0 old new was is fit applies.1.2)
applied_alone (Delete f) r old new was is held0 held fit applies =
    subst (λ (x : Result (Unit {0}) AdminFault). IsAlone (stopped x)) (sym applies.1.1) (delete_alone f applies.1.0 old new was is applies.1.2)
applied_alone (New key) r old new was is held0 held fit applies =
    subst (λ (x : Result (Unit {0}) AdminFault). IsAlone (stopped x)) (sym applies.1.1) (make_alone (fresh key) applies.1.0 old new was is applies.1.2)
applied_alone (Discover portal) r old new was is held0 held fit applies = absurd applies
applied_alone (Login f) r old new was is held0 held fit applies = absurd applies
applied_alone (Logout f) r old new was is held0 held fit applies = absurd applies

pub applied_judged : (words : List (List ℕ)) (c : AdminCommand) (r : Result (Unit {0}) AdminFault) (old new : List Node) (was is : Option Records) (held0 held : Option (List ℕ)) → Ask words c
    → Applies c [] r old new was is held0 held → AreJudged words (stopped r)
applied_judged words c r old new was is held0 held ask applies = judged words c (stopped r) ask (applied_alone c r old new was is held0 held ask.1 applies)

-- ---- the whole answer

pub refused_answer : (words : List (List ℕ)) (f : WordsFault) (x : Stop) (was : Option Records) (held : Option (List ℕ)) (store sink : ℕ) → x ≡ stop_of_words f → IsReadBy (Ask words) (Err f)
    → IsAnswer words (Err x) was was held held store store sink sink
refused_answer words f x was held store sink is read = subst (λ (s : Stop). IsAnswer words (Err s) was was held held store store sink sink) (sym is) (record {
  comes = λ records told. refused_comes words f records was held read told;
  judged = refused_judged words f read;
  quiet = refused_quiet f held;
  store_count = refused_store f store;
  sink_count = refused_sink f sink;
})

pub unloaded_answer : (words : List (List ℕ)) (c : AdminCommand) (e : DbError) (x : Stop) (y : AdminFault) (was is : Option Records) (held : Option (List ℕ)) (store0 store sink : ℕ) → x ≡ stop_of y
    → y ≡ fault_of e → Ask words c → Loads (Err e) was is → IsCounted {T = List Node} (Err e) store0 store → IsAnswer words (Err x) was is held held store0 store sink sink
unloaded_answer words c e x y was is held store0 store sink isx isy ask loads counted =
    subst (λ (s : Stop). IsAnswer words (Err s) was is held held store0 store sink sink) (sym (isx ∙ ap stop_of isy)) (record {
      comes = λ records told. unloaded words c e records was is held ask loads told;
      judged = unloaded_judged words c e was is ask loads;
      quiet = unloaded_quiet e held;
      store_count = unloaded_store e store0 store counted;
      sink_count = unloaded_sink e sink;
    })

pub applied_answer : (words : List (List ℕ)) (c : AdminCommand) (r : Result (Unit {0}) AdminFault) (x : Result (Unit {0}) Stop) (old new : List Node) (was mid is : Option Records)
    (held0 held : Option (List ℕ)) (store0 store1 store sink0 sink : ℕ) → x ≡ stopped r → Ask words c → Loads (Ok old) was mid → IsCounted {T = List Node} (Ok old) store0 store1
    → Applies c [] r old new mid is held0 held → IsStoreCounted r store1 store → IsSinkCounted r sink0 sink → IsAnswer words x was is held0 held store0 store sink0 sink
applied_answer words c r x old new was mid is held0 held store0 store1 store sink0 sink isx ask loads loaded applies stores sinks =
    subst (λ (s : Result (Unit {0}) Stop). IsAnswer words s was is held0 held store0 store sink0 sink) (sym isx) (record {
      comes = λ records told. applied words c r old new records was mid is held0 held ask loads told applies;
      judged = applied_judged words c r old new mid is held0 held ask applies;
      quiet = applied_quiet c r old new mid is held0 held applies;
      store_count = applied_store r store0 store1 store loaded stores;
      sink_count = applied_sink r sink0 sink sinks;
    })
