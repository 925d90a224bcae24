-- The new dial's number is below the count of dials.
use Rattle.std.proofs.Common.{◌≡◌, ◌∙◌, ◌+◌, [], ◌∷◌, length, ap, arith, length-append}
use Rattle.std.proofs.lemmas.Grind.{common_steps}
use Rattle.oi_outside.proofs.MemNets.{known_more}
use Rattle.oi_outside.proofs.mem_net.MemNet.connect.Goals as goal

pub invariant_of-self-2 : goal.invariant_of-self-2
invariant_of-self-2 c =
    let grown : length c.record.new.self ≡ length c.self.inside.dialled + 1 = ap length c.record.ensures ∙ length-append c.self.inside.dialled (c.args.portal.now ∷ []) in
    let counted : c.in_ok-dials.dials ≡ length c.record.new.self = grind (arith, common_steps) in (
      counted,
      c.self.invariant.1,
      known_more (length c.self.inside.dialled) (length c.record.new.self) c.self.inside.waiting.items c.push.new.self.items _ c.self.invariant.2 c.self.invariant.0 grown c.in_ok-push.ensures.items,
    )
