use Rattle.std.proofs.Common.{◌∙◌, ℕ, replicate, ap, sym, arith}
use Rattle.oi_tags.specs.declared.state.TagState.TheVariants.{Free}
use Rattle.oi_tags.proofs.Kept.{kept_all}
use Rattle.oi_tags.proofs.tags.TagsTagPool.reset.Goals as goal

pub invariant_of-self : goal.invariant_of-self
invariant_of-self c =
    let long = c.self.inside.states.ok.0 in
    let few = c.self.invariant.few in
    let roomy = c.self.invariant.has_room in
    kept_all c.args.age c.len-count.result _ _ _ c.refill.ensures.items (c.fill.ensures.items (λ y e. e) ∙ ap (λ (n : ℕ). replicate n Free) (sym c.len-count.ensures)) c.requires (omega (arith, c.len-count.ensures)) (omega (arith, c.len-count.ensures, c.refill.ensures.room))
