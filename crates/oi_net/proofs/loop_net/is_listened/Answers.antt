-- The portals that are listened to are those of the ports.
use Rattle.std.proofs.Common.{◌∙◌}
use Rattle.oi_net.proofs.Loops.{ports_listened}
use Rattle.oi_net.proofs.loop_net.is_listened.Goals as goal

pub returns : goal.returns
returns c = c.has_port.ensures ∙ ports_listened c.args.portal.now c.args.ports.now
