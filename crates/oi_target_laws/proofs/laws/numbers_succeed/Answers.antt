use Rattle.oi_target_laws.proofs.Counting.{same_are_equal}
use Rattle.oi_target_laws.proofs.Numbering.{next_is_expected, numbers_succeed, turns_are_last}
use Rattle.oi_target_laws.proofs.Arriving.{each_has_its_turn}
use Rattle.oi_target_laws.proofs.laws.numbers_succeed.Goals as goal

pub returns : goal.returns
returns c = record { order = numbers_succeed; expected = next_is_expected; turns = turns_are_last; each = each_has_its_turn; equal = same_are_equal }
