use Rattle.std.proofs.Common.{◌≡◌, ◌≤◌, ℕ, List, Some, ◌==◌, not, length, take, sym, subst, arith, ap, ◌∙◌, ◌++◌, ◌∷◌}
use Rattle.std.specs.Fmt.{decimal}
use Rattle.std.proofs.lemmas.List.Sums.{prefix_len-le-length}
use Rattle.oi_names.specs.Portals.{IsEndpoint}
use Rattle.oi_names.proofs.Spellings.{comma_split, no_tag, parts_spelled, portal_halves}
use Rattle.oi_names.proofs.portal.read_parts.Goals as goal

pub before-requires : goal.before-requires
before-requires c = omega (arith, c.endpoint_bytes-front.ensures, prefix_len-le-length (λ b. not (b == 44)) c.args.text.now)

pub returns-in_default : goal.returns-in_default
returns-in_default c = λ w.
    c.in_default.ensures (subst IsEndpoint (sym c.before-2.ensures) (portal_halves c.args.text.now c.endpoint_bytes-front.result c.endpoint_bytes-front.ensures w).endpoint)

pub returns-in_default-read_tag : goal.returns-in_default-read_tag
returns-in_default-read_tag c =
    no_tag c.args.text.now c.after.result.now c.endpoint_bytes-front.result c.endpoint_bytes-front.ensures c.if-front-text.false c.after.ensures (λ w. c.in_default-read_tag.ensures w.0 w.2 w.3)

pub returns : goal.returns
returns c =
    let text = c.args.text.now in
    let front = c.endpoint_bytes-front.result in
    let within : front ≤ length text = omega (arith, c.endpoint_bytes-front.ensures, prefix_len-le-length (λ b. not (b == 44)) text) in
    let tag : text ≡ take front text ++ 44 ∷ decimal c.in-Some-read_tag.tag =
    comma_split text front c.endpoint_bytes-front.ensures (omega arith) ∙ ap (λ (z : List ℕ). take front text ++ 44 ∷ z) (sym c.after.ensures ∙ c.in-Some-read_tag.ensures.1) in
    parts_spelled text c.before-2.result.now c.in-Some.endpoint.host front c.in-Some.endpoint.port (Some c.in-Some-read_tag.tag) within c.before-2.ensures c.in-Some.ensures.0 c.in-Some.ensures.1 c.in-Some.ensures.2 (tag, c.in-Some-read_tag.ensures.0)
