-- What the answers of the database tell.
use Rattle.std.proofs.Common.{◌≡◌, ℕ, Result, Ok, Err, refl}
use Rattle.oi_nodedb.specs.declared.error.DbError.{DbError}
use Rattle.oi_nodedb.specs.declared.error.DbError.TheVariants.{BadName, BadValue, BadRecord, NoObjects, InUse, StoreFault, Memory as DbMemory}
use Rattle.oi_nodedb.specs.Answers.{IsCounted}
use Rattle.oi_admin.specs.declared.fault.AdminFault.TheVariants.{Db}
use Rattle.oi_admin.specs.Applies.{IsSinkCounted, IsStoreCounted, answer_of, fault_of}

-- every fault but want of memory is told as it is
pub told_as_it_is : (e : DbError) → (e ≡ DbMemory → ⊥) → Db e ≡ fault_of e
told_as_it_is (BadName n) other = refl
told_as_it_is (BadValue n) other = refl
told_as_it_is (BadRecord p l) other = refl
told_as_it_is NoObjects other = refl
told_as_it_is (InUse s) other = refl
told_as_it_is StoreFault other = refl
told_as_it_is DbMemory other = absurd (other refl)

pub store_count : (T : Type 0) (answer : Result T DbError) (before now : ℕ) → IsCounted answer before now → IsStoreCounted (answer_of answer) before now
store_count T (Ok x) before now counted = counted
store_count T (Err (BadName n)) before now counted = counted
store_count T (Err (BadValue n)) before now counted = counted
store_count T (Err (BadRecord p l)) before now counted = counted
store_count T (Err NoObjects) before now counted = counted
store_count T (Err (InUse s)) before now counted = counted
store_count T (Err StoreFault) before now counted = counted
store_count T (Err DbMemory) before now counted = counted

pub sink_count : (T : Type 0) (answer : Result T DbError) (n : ℕ) → IsSinkCounted (answer_of answer) n n
sink_count T (Ok x) n = refl
sink_count T (Err (BadName m)) n = refl
sink_count T (Err (BadValue m)) n = refl
sink_count T (Err (BadRecord p l)) n = refl
sink_count T (Err NoObjects) n = refl
sink_count T (Err (InUse s)) n = refl
sink_count T (Err StoreFault) n = refl
sink_count T (Err DbMemory) n = refl
