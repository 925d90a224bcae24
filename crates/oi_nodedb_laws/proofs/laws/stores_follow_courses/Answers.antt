use Rattle.oi_nodedb_laws.proofs.Keeping.{course_stays}
use Rattle.oi_nodedb_laws.proofs.Loaded.{loaded_stays}
use Rattle.oi_nodedb_laws.proofs.Stores.{store_follows}
use Rattle.oi_nodedb_laws.proofs.Sure.{sure_without_faults}
use Rattle.oi_nodedb_laws.proofs.Values.{value_follows}
use Rattle.oi_nodedb_laws.proofs.laws.stores_follow_courses.Goals as goal

pub returns-clause-store : goal.returns-clause-store
returns-clause-store c = store_follows

pub returns-clause-value : goal.returns-clause-value
returns-clause-value c = value_follows

pub returns-clause-sure : goal.returns-clause-sure
returns-clause-sure c = sure_without_faults

pub returns-clause-stays : goal.returns-clause-stays
returns-clause-stays c = course_stays

pub returns-clause-loaded : goal.returns-clause-loaded
returns-clause-loaded c = loaded_stays
