use Rattle.oi_solo.proofs.Turning.{can_draw, can_finish, turn_done}
use Rattle.oi_solo.proofs.turn.send.Goals as goal

pub take_up-requires-clause-can : goal.take_up-requires-clause-can
take_up-requires-clause-can c = can_draw c.args.kept.now c.release_all.new.kept c.args.owed c.requires c.release_all.ensures

pub enter_ready-requires : goal.enter_ready-requires
enter_ready-requires c = can_finish c.args.kept.now c.release_all.new.kept c.take_up.new.kept c.args.owed c.requires c.release_all.ensures c.take_up.ensures

pub returns-clause-ok : goal.returns-clause-ok
returns-clause-ok c = turn_done c.args.kept.now c.release_all.new.kept c.take_up.new.kept c.enter_ready.new.kept c.args.owed c.requires c.release_all.ensures c.take_up.ensures c.enter_ready.ensures.session
