use Rattle.std.proofs.Common.{refl}
use Rattle.oi_history.proofs.Indexed.{indexed_told}
use Rattle.oi_history.proofs.index.Index.settle.Goals as goal

pub returns-clause-index : goal.returns-clause-index
returns-clause-index c = λ ts h. indexed_told c.args.self.now (record { luns = c.args.self.now.luns; low = 18446744073709551615; high = 0 }) ts h refl
