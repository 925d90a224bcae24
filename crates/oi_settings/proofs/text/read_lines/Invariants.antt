use Rattle.std.proofs.Common.{◌≡◌, ◌+◌, ◌++◌, length}
use Rattle.oi_base.specs.Counts.{told}
use Rattle.oi_settings.specs.Pairs.{AreOnce}
use Rattle.oi_settings.specs.Texts.{AreLines, lines_of, rows_of}
use Rattle.oi_settings.proofs.text.read_lines.Given as goal

abbrev pub invariant-loop-more : goal.invariant-loop-more
invariant-loop-more l = record {
  whole : l.text ≡ lines_of l.read ++ l.rest;
  lines : AreLines (rows_of l.schema) l.read;
  once : AreOnce l.read;
  number : l.line ≡ told (length l.read + 2);
}

abbrev pub decreases-loop-more : goal.decreases-loop-more
decreases-loop-more l = length l.rest
