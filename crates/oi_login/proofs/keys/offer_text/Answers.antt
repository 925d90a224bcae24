use Rattle.oi_login.proofs.Texts.{joined_two, three}
use Rattle.oi_login.specs.Keys.{common_keys, session_keys}
use Rattle.oi_login.proofs.keys.offer_text.Goals as goal

pub returns : goal.returns
returns c =
    let o = c.args.config.now.offer in
    joined_two _ _ _ (session_keys c.args.config.now.target o) (common_keys o) c.new-out.ensures.items c.in_ok-put_session.ensures
    (three _ _ _ _ _ _ _ c.in_ok-put.ensures c.in_ok-put-2.ensures c.in_ok-put_number.ensures)
