-- Without a fault of the store the newest change of each path is known.
use Rattle.std.proofs.Common.{◌≡◌, inl, inr, ℕ, Bool, true, false, true≢false, List, [], ◌∷◌, Option, Some, None, Result, Ok, Err}
use Rattle.oi_names.specs.declared.session_key.SessionInfo.{SessionInfo}
use Rattle.oi_outside.specs.Records.{Records}
use Rattle.oi_settings.specs.Texts.{Node}
use Rattle.oi_nodedb.specs.declared.error.DbError.{DbError}
use Rattle.oi_nodedb.specs.declared.error.DbError.TheVariants.{BadName, BadValue, BadRecord, NoObjects, InUse, StoreFault, Memory}
use Rattle.oi_nodedb.specs.declared.filter.Filter.{Filter}
use Rattle.oi_nodedb.specs.Answers.{Adds, Deletes, Updates}
use Rattle.oi_nodedb.specs.Databases.{changed, fresh}
use Rattle.oi_nodedb.specs.Filters.{matching}
use Rattle.oi_nodedb_laws.specs.Courses.{Call, Course, Leaves, NoFaults, has_fault, is_fault, marked, new_record, new_marked, update, delete}
use Rattle.oi_nodedb_laws.specs.Laws.{IsSure}
use Rattle.oi_nodedb_laws.specs.Touches.{Touch, added, change_of, delete_took, if_taken, if_written, record_on, touched, touched_last, update_wrote}

written : (r : Option Node) (t : Touch) → IsSure t → IsSure (if_written r t)
written None t sure = sure
written (Some n) t sure = tt

taken : (r : Option Node) (t : Touch) → IsSure t → IsSure (if_taken r t)
taken None t sure = sure
taken (Some n) t sure = tt

sure_added : (q : List ℕ) (t : Touch) → IsSure t → (node : Node) (answer : Result Bool DbError) (old new : List Node) (was is : Option Records) → is_fault answer ≡ false
    → (adds : Adds node answer old new was is) → IsSure (touched q (added node answer old new was is adds) t)
sure_added q t sure node (Ok true) old new was is none adds = written (record_on q (node ∷ [])) t sure
sure_added q t sure node (Ok false) old new was is none adds = sure
sure_added q t sure node (Err StoreFault) old new was is none adds = absurd (true≢false none)
sure_added q t sure node (Err Memory) old new was is none adds = sure
sure_added q t sure node (Err (BadName n)) old new was is none adds = sure
sure_added q t sure node (Err (BadValue n)) old new was is none adds = sure
sure_added q t sure node (Err (BadRecord p l)) old new was is none adds = sure
sure_added q t sure node (Err NoObjects) old new was is none adds = sure
sure_added q t sure node (Err (InUse s)) old new was is none adds = sure

sure_updated : (q : List ℕ) (t : Touch) → IsSure t → (f : Filter) (name value : List ℕ) (answer : Result ℕ DbError) (old new : List Node) (was is : Option Records) → is_fault answer ≡ false
    → (updates : Updates f name value answer old new was is) → IsSure (touched q (update_wrote f name value answer old new was is updates) t)
sure_updated q t sure f name value (Ok n) old new was is none updates = written (record_on q (changed f name value old)) t sure
sure_updated q t sure f name value (Err StoreFault) old new was is none updates = absurd (true≢false none)
sure_updated q t sure f name value (Err Memory) old new was is none (inl same) = sure
sure_updated q t sure f name value (Err Memory) old new was is none (inr stops) = written (record_on q (changed f name value stops.1.front)) t sure
sure_updated q t sure f name value (Err (BadName n)) old new was is none updates = sure
sure_updated q t sure f name value (Err (BadValue n)) old new was is none updates = sure
sure_updated q t sure f name value (Err (BadRecord p l)) old new was is none updates = sure
sure_updated q t sure f name value (Err NoObjects) old new was is none updates = sure
sure_updated q t sure f name value (Err (InUse s)) old new was is none updates = sure

sure_deleted : (q : List ℕ) (t : Touch) → IsSure t → (f : Filter) (living : List SessionInfo) (answer : Result ℕ DbError) (old new : List Node) (was is : Option Records) → is_fault answer ≡ false
    → (deletes : Deletes f living answer old new was is) → IsSure (touched q (delete_took f living answer old new was is deletes) t)
sure_deleted q t sure f living (Ok n) old new was is none deletes = taken (record_on q (matching f old)) t sure
sure_deleted q t sure f living (Err StoreFault) old new was is none deletes = absurd (true≢false none)
sure_deleted q t sure f living (Err Memory) old new was is none (inl same) = sure
sure_deleted q t sure f living (Err Memory) old new was is none (inr stops) = taken (record_on q (matching f stops.1.front)) t sure
sure_deleted q t sure f living (Err (BadName n)) old new was is none deletes = sure
sure_deleted q t sure f living (Err (BadValue n)) old new was is none deletes = sure
sure_deleted q t sure f living (Err (BadRecord p l)) old new was is none deletes = sure
sure_deleted q t sure f living (Err NoObjects) old new was is none deletes = sure
sure_deleted q t sure f living (Err (InUse s)) old new was is none deletes = sure

sure_one : (q : List ℕ) (t : Touch) → IsSure t → (c : Call) (old new : List Node) (was is : Option Records) → has_fault c ≡ false → (leaves : Leaves c old new was is)
    → IsSure (touched q (change_of c old new was is leaves) t)
sure_one q t sure (new_record key answer) old new was is none leaves = sure_added q t sure (fresh key) answer old new was is none leaves
sure_one q t sure (new_marked key name value answer) old new was is none leaves = sure_added q t sure (marked key name value) answer old new was is none leaves
sure_one q t sure (update f name value answer) old new was is none leaves = sure_updated q t sure f name value answer old new was is none leaves
sure_one q t sure (delete f living answer) old new was is none leaves = sure_deleted q t sure f living answer old new was is none leaves

pub sure_without_faults : (path : List ℕ) (calls : List Call) (old new : List Node) (was is : Option Records) (course : Course calls old new was is) → NoFaults calls
    → IsSure (touched_last path calls old new was is course)
sure_without_faults path [] old new was is course none = tt
sure_without_faults path (c ∷ cs) old new was is course none =
    sure_one path (touched_last path cs old course.0 was course.1 course.2) (sure_without_faults path cs old course.0 was course.1 course.2 none.1) c course.0 new course.1 is none.0 course.4
