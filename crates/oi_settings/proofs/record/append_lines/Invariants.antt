use Rattle.std.proofs.Common.{◌≡◌, ◌++◌, take}
use Rattle.oi_settings.specs.Texts.{lines_of}
use Rattle.oi_settings.proofs.record.append_lines.Given as goal

abbrev pub invariant-loop-at : goal.invariant-loop-at
invariant-loop-at l = l.out.items ≡ l.fn.out.items ++ lines_of (take l.at l.settings)
