use Rattle.oi_settings.specs.KeyOrder.{key_total}
use Rattle.oi_settings.proofs.AsciiPaths.{path_is_text}
use Rattle.oi_settings.proofs.Paths.{one_path, order_apart}
use Rattle.oi_settings.proofs.laws.keys_differ.Goals as goal

pub returns-clause-total : goal.returns-clause-total
returns-clause-total c = key_total

pub returns-clause-apart : goal.returns-clause-apart
returns-clause-apart c = order_apart

pub returns-clause-paths : goal.returns-clause-paths
returns-clause-paths c = one_path

pub returns-clause-text : goal.returns-clause-text
returns-clause-text c = path_is_text
