use Rattle.std.proofs.Common.{◌++◌, ◌∙◌, List, ℕ, take, sym, ap, append_assoc}
use Rattle.oi_text.specs.Pairs.{text_of, spelled}
use Rattle.oi_sendtargets.specs.Payloads.{target_address, target_pairs}
use Rattle.oi_sendtargets.specs.Listings.{address_text, target_at}
use Rattle.oi_sendtargets.proofs.Writing.{address_written}
use Rattle.oi_sendtargets.proofs.write.append_target.Goals as goal

pub loop-listed-preserved : goal.loop-listed-preserved
loop-listed-preserved c =
    let old = c.args.out.now.items in
    let address = spelled target_address (address_text c.listed-item.result) in
    let so_far = text_of (target_pairs (target_at c.args.target.now (take c.loop-listed.listed-index c.args.found.now))) in
    c.in_ok-append_address.ensures.ok
    ∙ ap (λ (z : List ℕ). z ++ address) c.loop-listed.invariant
    ∙ append_assoc old so_far address
    ∙ ap (λ (z : List ℕ). old ++ z) (sym (address_written c.args.target.now c.args.found.now c.loop-listed.listed-index c.listed-item.result c.loop-listed-test.true c.listed-item.is))
