use Rattle.std.proofs.Common.{◌≡◌, length, rules, subst, sym}
use Rattle.oi_pdu.specs.Wire.{Encodable}
use Rattle.oi_login.proofs.Encoded.{first_well}
use Rattle.oi_login.specs.States.{first_request}
use Rattle.oi_login.proofs.login.Login.start.Goals as goal

pub returns-clause-encodable : goal.returns-clause-encodable
returns-clause-encodable c =
    let k = c.args.config in
    let is : c.request_of-request.result ≡ first_request k = search rules in
    let six : length k.isid ≡ 6 = search rules in
    subst Encodable (sym is) (first_well k six c.in_ok-text.ensures.names)
