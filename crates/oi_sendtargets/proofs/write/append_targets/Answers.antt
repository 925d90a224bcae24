use Rattle.std.proofs.Common.{◌++◌, ◌∙◌, List, ℕ, length, take, drop, sym, ap, arith}
use Rattle.std.proofs.lemmas.List.{length-drop}
use Rattle.std.proofs.lemmas.List.Sums.{prefix_len-le-length}
use Rattle.oi_text.specs.Pairs.{text_of}
use Rattle.oi_sendtargets.specs.declared.found.Found.{Found}
use Rattle.oi_sendtargets.specs.Payloads.{target_pairs, payload_of}
use Rattle.oi_sendtargets.specs.Listings.{target_at, targets_of}
use Rattle.oi_sendtargets.specs.Steps.{has_name}
use Rattle.oi_sendtargets.proofs.Writing.{some_counted, target_written, write_on}
use Rattle.oi_sendtargets.proofs.write.append_targets.Goals as goal

pub before-requires : goal.before-requires
before-requires c = omega (arith, c.neighbour_count-count.ensures, prefix_len-le-length (has_name c.first-item.result.target) c.loop-rest.rest.now)

pub loop-rest-smaller : goal.loop-rest-smaller
loop-rest-smaller c =
    let some = some_counted c.loop-rest.rest.now c.first-item.result c.neighbour_count-count.result (omega arith) c.first-item.is c.neighbour_count-count.ensures in
    omega (arith, ap length c.after-rest.ensures, length-drop c.neighbour_count-count.result c.loop-rest.rest.now)

pub loop-rest-preserved : goal.loop-rest-preserved
loop-rest-preserved c =
    let rest = c.loop-rest.rest.now in
    let n = c.neighbour_count-count.result in
    let target = c.first-item.result.target in
    let written = text_of (target_pairs (target_at target (take n rest))) in
    let left = payload_of (targets_of (drop n rest)) in
    let all = target_written rest c.first-item.result n (omega arith) c.first-item.is c.neighbour_count-count.ensures in
    let on =
    write_on c.args.out.now.items c.loop-rest.out.items c.append_target.new.out.items written left (payload_of (targets_of c.args.found.now)) c.loop-rest.invariant.begun
    (c.in_ok-append_target.ensures.ok ∙ ap (λ (z : List Found). c.loop-rest.out.items ++ text_of (target_pairs (target_at target z))) c.before-in-len1-up.ensures)
    (ap (λ (z : List ℕ). c.loop-rest.out.items ++ z) (sym all) ∙ c.loop-rest.invariant.whole) in
    record { begun = on.begun; whole = ap (λ (z : List Found). c.append_target.new.out.items ++ payload_of (targets_of z)) c.after-rest.ensures ∙ on.whole }
