use Rattle.std.proofs.Common.{◌≡◌, ◌++◌, ◌∷◌, []}
use Rattle.oi_text.proofs.Pieces.{read_on}
use Rattle.oi_text.proofs.pairs.read_pairs.Goals as goal

pub loop-rest-preserved : goal.loop-rest-preserved
loop-rest-preserved c =
    let on =
    read_on c.args.bytes.now c.loop-rest.rest.now c.in-Some.piece.key.now c.in-Some.piece.value.now c.in-Some.piece.more.now c.loop-rest.pairs.items c.in-Ok.pair
    c.loop-rest.invariant.whole c.loop-rest.invariant.pairs c.in-Some.ensures.found.0 c.in-Some.ensures.found.1 c.in-Ok.ensures.0 c.in-Ok.ensures.1 in
    let pushed : c.push.new.self.items ≡ c.loop-rest.pairs.items ++ c.in-Ok.pair ∷ [] = c.in-Ok-push.ensures.items in
    record { whole = rw pushed on.0; pairs = rw pushed on.1 }
