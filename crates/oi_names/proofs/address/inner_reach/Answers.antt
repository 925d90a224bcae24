use Rattle.std.proofs.Common.{refl, arith}
use Rattle.oi_names.specs.Portals.{is_inner}
use Rattle.oi_names.proofs.Runs.{run_reach}
use Rattle.oi_names.proofs.address.inner_reach.Goals as goal

pub returns : goal.returns
returns c = run_reach is_inner 2 39 58 (omega arith) refl c.args.text.now c.inner_bytes-bytes.result c.min.result c.inner_bytes-bytes.ensures c.min.ensures
