use Rattle.oi_settings.proofs.Nodes.{node_either}
use Rattle.oi_settings.proofs.Tables.{takes_unknown, unknown_is_no_part}
use Rattle.oi_settings.proofs.record.NodeRecord.mark.Goals as goal

pub invariant_of-self : goal.invariant_of-self
invariant_of-self c =
    node_either c.put.result c.self.inside.key c.self.inside.settings c.put.new.self c.into_vec.result.items c.args.name c.args.value c.into_vec.ensures c.put.ensures.ok c.put.ensures.err
    c.self.invariant c.requires.line (takes_unknown c.args.name c.args.value c.requires.unknown) (unknown_is_no_part c.args.name c.requires.unknown)
