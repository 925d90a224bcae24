use Rattle.std.proofs.Common.{arith}
use Rattle.oi_script.proofs.Decimals.{number_is}
use Rattle.oi_script.proofs.numbers.number.Goals as goal

pub returns-clause-value : goal.returns-clause-value
returns-clause-value c = number_is c.args.low c.args.high c.args.text.now c.read_number.result (omega arith) c.read_number.ensures
