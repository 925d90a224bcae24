use Rattle.std.proofs.Common.{List, ℕ, ◌++◌, ap, ◌∙◌}
use Rattle.oi_settings.specs.Texts.{begin_line}
use Rattle.oi_settings.proofs.Migration.{stored_pairs}
use Rattle.oi_settings.proofs.text.read_text.Goals as goal

pub key_of-requires : goal.key_of-requires
key_of-requires c = rw c.in-Ok-migrate.ensures (stored_pairs c.in-Some.start.schema c.in-Ok.settings c.in-Ok.ensures.ok.1)

pub from_parts-requires : goal.from_parts-requires
from_parts-requires c = record {
  valid = c.in-Ok-key_of.ensures.0;
  pairs = rw c.in-Ok-migrate.ensures (stored_pairs c.in-Some.start.schema c.in-Ok.settings c.in-Ok.ensures.ok.1);
  named = c.in-Ok-key_of.ensures.1;
}

pub returns-in-Ok-key_of-clause-ok : goal.returns-in-Ok-key_of-clause-ok
returns-in-Ok-key_of-clause-ok c =
    rw c.from_parts.ensures (record {
      schema = c.in-Some.start.schema;
      written = c.in-Ok.settings;
      text = c.in-Some.ensures.found ∙ ap (λ (t : List ℕ). begin_line c.in-Some.start.schema ++ t) c.in-Ok.ensures.ok.0;
      pairs = c.in-Ok.ensures.ok.1;
      stored = c.in-Ok-migrate.ensures;
      valid = c.in-Ok-key_of.ensures.0;
      named = c.in-Ok-key_of.ensures.1;
    })
