use Rattle.std.proofs.Common.{ℕ, List, ◌+◌, ◌≡◌, Ok, Err, arith, subst, take, drop}
use Rattle.std.specs.List.{flat_map}
use Rattle.std.proofs.lemmas.List.{take_all}
use Rattle.std.proofs.lemmas.Result.{err_from_is_err_and}
use Rattle.oi_stream.specs.Feeding.{IsFed}
use Rattle.oi_stream.specs.Streams.{IsFramed}
use Rattle.oi_stream.proofs.Streams.{SoFar, framed_err, framed_ok, pieces_all, pieces_more, so_far_more}
use Rattle.oi_stream.proofs.pieces.frame_pieces.Goals as goal

pub returns-in_err-feed : goal.returns-in_err-feed
returns-in_err-feed c =
    let p = err_from_is_err_and c.from_residual.result c.from_residual.ensures.1 in
    let xs = c.args.pieces.now in
    let i = c.loop-piece.piece-index in
    let x = c.piece-item.result in
    let fault = c.in_err-feed.field-0.0 in
    let fed = subst (λ (z : List ℕ). IsFed c.loop-piece.splitter c.feed.new.self z c.loop-piece.out.items c.feed.new.out.items (Err fault)) c.as_slice.ensures c.in_err-feed.ensures.framed in
    rw (p.1, p.2) (framed_err c.args.limit (flat_map (λ b. b) (take i xs)) x (flat_map (λ b. b) (drop (i + 1) xs)) (flat_map (λ b. b) xs) c.args.out.now.items c.loop-piece.out.items c.feed.new.out.items c.loop-piece.splitter c.feed.new.self fault c.loop-piece.invariant fed (pieces_all xs i x (omega arith) c.piece-item.is))

pub loop-piece-preserved : goal.loop-piece-preserved
loop-piece-preserved c =
    let xs = c.args.pieces.now in
    let i = c.loop-piece.piece-index in
    let x = c.piece-item.result in
    let fed = subst (λ (z : List ℕ). IsFed c.loop-piece.splitter c.feed.new.self z c.loop-piece.out.items c.feed.new.out.items (Ok tt)) c.as_slice.ensures c.in_ok-feed.ensures.framed in
    subst (λ (z : List ℕ). SoFar c.args.limit z c.args.out.now.items c.feed.new.out.items c.feed.new.self) (pieces_more xs i x (omega arith) c.piece-item.is)
    (so_far_more c.args.limit (flat_map (λ b. b) (take i xs)) x c.args.out.now.items c.loop-piece.out.items c.feed.new.out.items c.loop-piece.splitter c.feed.new.self c.loop-piece.invariant fed)

pub returns : goal.returns
returns c =
    let xs = c.args.pieces.now in
    let all : take c.loop-piece.piece-index xs ≡ xs = take_all c.loop-piece.piece-index xs (omega arith) in
    subst (λ (z : List (List ℕ)). IsFramed c.args.limit (flat_map (λ b. b) z) c.args.out.now.items c.loop-piece.out.items (Ok tt)) all
    (framed_ok c.args.limit (flat_map (λ b. b) (take c.loop-piece.piece-index xs)) c.args.out.now.items c.loop-piece.out.items c.loop-piece.splitter c.loop-piece.invariant)
