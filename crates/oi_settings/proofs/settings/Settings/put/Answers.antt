use Rattle.std.proofs.Common.{ap, map, ◌∙◌}
use Rattle.oi_settings.specs.Pairs.{put}
use Rattle.oi_settings.proofs.Entries.{put-seen, seen}
use Rattle.oi_settings.proofs.settings.Settings.put.Goals as goal

pub returns-clause-ok : goal.returns-clause-ok
returns-clause-ok c =
    ap (map seen) c.in_ok-insert.ensures.entries ∙ put-seen c.args.name c.args.value c.self.inside.values.entries ∙ ap (put c.args.name.items c.args.value) c.self.view_is
