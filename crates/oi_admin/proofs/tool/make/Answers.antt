use Rattle.std.proofs.Common.{Err, refl}
use Rattle.oi_nodedb.specs.declared.error.DbError.TheVariants.{Memory}
use Rattle.oi_admin.proofs.tool.make.Goals as goal

-- want of memory, as if the database had told it
pub returns-in-Err-clause-makes : goal.returns-in-Err-clause-makes
returns-in-Err-clause-makes g c = (Err Memory, refl, (refl, refl))
