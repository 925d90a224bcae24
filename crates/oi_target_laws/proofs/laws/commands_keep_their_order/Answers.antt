use Rattle.oi_target_laws.proofs.Accounts.{each_is_accounted, executed_in_order, ready_are_executed}
use Rattle.oi_target_laws.proofs.Asking.{executed_are_asked}
use Rattle.oi_target_laws.proofs.Complete.{executed_are_complete}
use Rattle.oi_target_laws.proofs.Finding.{turns_find_none_ready}
use Rattle.oi_target_laws.proofs.Summing.{asked_are_executed}
use Rattle.oi_target_laws.proofs.Taking.{turns_find_none_taken}
use Rattle.oi_target_laws.proofs.laws.commands_keep_their_order.Goals as goal

pub returns : goal.returns
returns c = record {
  order = executed_in_order;
  accounted = each_is_accounted;
  asked = executed_are_asked;
  no_other = asked_are_executed;
  complete = executed_are_complete;
  ready = ready_are_executed;
  turns = turns_find_none_ready;
  learned = turns_find_none_taken;
}
