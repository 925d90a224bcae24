use Rattle.std.proofs.Common.{refl, arith}
use Rattle.oi_names.specs.Names.{is_name_byte}
use Rattle.oi_names.proofs.Runs.{run_reach}
use Rattle.oi_names.proofs.iscsi_name.name_rest.Goals as goal

pub returns : goal.returns
returns c = run_reach is_name_byte 1 219 97 (omega arith) refl c.args.text.now c.name_bytes-bytes.result c.min.result c.name_bytes-bytes.ensures c.min.ensures
