-- The bytes got are the front of what was left.
use Rattle.std.proofs.Common.{Some, take, ap, ◌∙◌}
use Rattle.oi_outside.specs.declared.link_read.ReadTurn.TheVariants.{Got}
use Rattle.oi_outside.specs.FarNets.{FarReading, far_read_half}
use Rattle.oi_outside.proofs.FarNets.{far_read_after, far_half_after}
use Rattle.oi_outside.proofs.far_link.FarReadLinkRead.read.Goals as goal

pub returns-clause-after : goal.returns-clause-after
returns-clause-after c =
    far_read_after c.self.inside.dial c.self.inside.script c.fill-count.new.buf c.self.inside.at c.fill-count.result c.self.inside.answers c.record-2.new.self c.args.self.now c.self.view_is (c.fill-count.ensures.front ∙ ap (take c.fill-count.result) c.rest_of-left.ensures.rest) c.record-2.ensures

pub returns-clause-half : goal.returns-clause-half
returns-clause-half c =
    ap (λ (h : FarReading). Some (far_read_half h)) (far_read_after c.self.inside.dial c.self.inside.script c.fill-count.new.buf c.self.inside.at c.fill-count.result c.self.inside.answers c.record-2.new.self c.args.self.now c.self.view_is (c.fill-count.ensures.front ∙ ap (take c.fill-count.result) c.rest_of-left.ensures.rest) c.record-2.ensures)
    ∙ far_half_after (Got c.fill-count.result) c.fill-count.new.buf c.args.self.now
