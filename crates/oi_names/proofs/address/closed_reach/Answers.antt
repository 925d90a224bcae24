use Rattle.std.proofs.Common.{[], true, ◌+◌, refl, arith}
use Rattle.oi_names.specs.Grammars.{IsRun}
use Rattle.oi_names.specs.Portals.{IsEmpty, is_inner}
use Rattle.oi_names.proofs.Addresses.{empty_reach}
use Rattle.oi_names.proofs.Alphabets.{apart_inner}
use Rattle.oi_names.proofs.Places.{joined_at, joined_here}
use Rattle.oi_names.proofs.address.closed_reach.Goals as goal

pub returns-in-Some : goal.returns-in-Some
returns-in-Some c =
    let inner = c.inner_reach-inner.result in
    joined_at (IsRun is_inner 2 39) IsEmpty 93 apart_inner c.args.text.now c.in-Some.field-0.now inner record { place = 0; whole = true } c.inner_reach-inner.ensures c.in-Some.ensures.0 c.in-Some.ensures.1 (empty_reach c.in-Some.field-0.now) (inner.place + 1) (omega arith)

pub returns-in-None : goal.returns-in-None
returns-in-None c = joined_here (IsRun is_inner 2 39) IsEmpty 93 apart_inner [] refl c.args.text.now c.inner_reach-inner.result c.inner_reach-inner.ensures c.in-None.ensures
