use Rattle.std.proofs.Common.{◌≡◌, ◌∙◌, List, drop, take, sym, ap, arith, rules, subst}
use Rattle.std.specs.List.{prefix_len}
use Rattle.std.proofs.lemmas.List.Sums.{prefix_len-le-length}
use Rattle.oi_names.specs.Names.{IsName}
use Rattle.oi_text.specs.declared.pairs.Pair.{Pair}
use Rattle.oi_sendtargets.specs.Payloads.{target_name}
use Rattle.oi_sendtargets.specs.Steps.{is_address}
use Rattle.oi_sendtargets.proofs.Reading.{begins}
use Rattle.oi_sendtargets.proofs.read.first_target.Goals as goal

pub before-requires : goal.before-requires
before-requires c = omega (arith, c.address_count-count.ensures, prefix_len-le-length is_address c.after-rest.result.now)

pub returns : goal.returns
returns c =
    let rest = c.after-rest.ensures in
    let n = c.address_count-count.result in
    let key : c.first-item.result.key ≡ target_name = search rules in
    let name = c.in-Ok.ensures.ok in
    begins c.args.pairs.now c.before-2.result.now c.after.result.now c.first-item.result c.in-Ok.name n (omega arith) c.first-item.is key (name.0 ∙ c.as_slice-3.ensures) (subst IsName (sym name.0) name.1)
    (c.address_count-count.ensures ∙ ap (λ (z : List Pair). prefix_len is_address z) rest)
    (c.before-2.ensures ∙ ap (λ (z : List Pair). take n z) rest)
    (c.after.ensures ∙ ap (λ (z : List Pair). drop n z) rest)
