use Rattle.std.specs.Prelude.{codes}
use Rattle.std.proofs.Common.{rules}
use Rattle.oi_login.specs.Chap.{HasBinary}
use Rattle.oi_login.proofs.Readings.{judged, none_found, some_found}
use Rattle.oi_login.proofs.chap.is_right.Goals as goal

pub returns-in_default-2 : goal.returns-in_default-2
returns-in_default-2 c =
    λ has. none_found (HasBinary (codes "CHAP_R") c.args.pairs.now) c.in_ok-given.field-0 c.in_default-2.is c.in_ok-given.ensures _ has.response

pub returns : goal.returns
returns c =
    judged c.chap_check.result c.args.auth.now c.args.wanted.now c.args.pairs.now c.in-Some.name.now c.in-Some-2.given c.in-Some.ensures (search rules)
    (some_found (HasBinary (codes "CHAP_R") c.args.pairs.now) c.in_ok-given.field-0 c.in-Some-2.given c.in-Some-2.is c.in_ok-given.ensures)
    (rw (c.as_slice-4.ensures, c.as_slice-2.ensures, c.as_slice-3.ensures) at c.chap_check.ensures)
