use Rattle.oi_login.proofs.Texts.{joined_three}
use Rattle.oi_login.specs.Keys.{flow_keys, time_keys, fixed_keys}
use Rattle.oi_login.proofs.keys.put_session.Goals as goal

pub returns-in_ok-put_fixed-in-Some : goal.returns-in_ok-put_fixed-in-Some
returns-in_ok-put_fixed-in-Some c =
    let o = c.args.offer.now in
    rw c.in-Some.is (joined_three _ _ _ _ (flow_keys o) (time_keys o) fixed_keys c.in_ok-put_flow-in-Some.ensures c.in_ok-put_times-in-Some.ensures c.in_ok-put_fixed-in-Some.ensures)
