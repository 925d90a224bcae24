use Rattle.oi_settings.proofs.Nodes.{node_either}
use Rattle.oi_settings.proofs.Tables.{open_is_no_part, open_line}
use Rattle.oi_settings.proofs.record.NodeRecord.set.Goals as goal

pub invariant_of-self : goal.invariant_of-self
invariant_of-self c =
    let r = c.requires in
    node_either c.put.result c.self.inside.key c.self.inside.settings c.put.new.self c.into_vec.result.items c.args.name c.args.value c.into_vec.ensures c.put.ensures.ok c.put.ensures.err
    c.self.invariant (open_line c.args.name c.args.value r.«open» r.taken) r.taken (open_is_no_part c.args.name r.«open»)
