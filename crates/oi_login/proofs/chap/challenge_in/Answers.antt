use Rattle.std.specs.Prelude.{codes}
use Rattle.std.proofs.Common.{inl, inr, arith, ap, length}
use Rattle.oi_login.specs.Chap.{HasBinary}
use Rattle.oi_login.proofs.Readings.{bad_challenge, none_found, some_found}
use Rattle.oi_login.proofs.chap.challenge_in.Goals as goal
use Rattle.oi_login.proofs.chap.challenge_in.Goals.{then-length-lt1-via-then-length-lt1, then-length-lt1-via-else-length-lt1+then-length-gt-MOST_CHALLENGE}

pub returns-in_default-2 : goal.returns-in_default-2
returns-in_default-2 c =
    λ a has. none_found (HasBinary (codes "CHAP_C") c.args.pairs.now) c.in_ok-bytes.field-0 c.in_default-2.is c.in_ok-bytes.ensures a.bytes has.bytes

pub returns-then-length-lt1 : goal.returns-then-length-lt1
returns-then-length-lt1 c =
    let same = ap length c.as_slice-length.ensures in
    bad_challenge c.args.pairs.now c.in-Some-2.bytes (some_found (HasBinary (codes "CHAP_C") c.args.pairs.now) c.in_ok-bytes.field-0 c.in-Some-2.bytes c.in-Some-2.is c.in_ok-bytes.ensures)
    (elim c.then-length-lt1.branch [
      | then-length-lt1-via-then-length-lt1 w ↦ inl (omega (arith, same, w.if-length-lt1.true))
      | then-length-lt1-via-else-length-lt1+then-length-gt-MOST_CHALLENGE w ↦ inr (omega (arith, same, w.if-length-gt-MOST_CHALLENGE.true))
    ])
