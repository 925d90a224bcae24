-- The text comes into the tree, and into the records that it holds.
use Rattle.std.proofs.Common.{ap, ◌∙◌}
use Rattle.std.specs.String.{string_bytes}
use Rattle.oi_outside.specs.Records.{Records, with_path}
use Rattle.oi_outside.proofs.Strings.{records_of-put}
use Rattle.oi_outside.proofs.mem_store.MemStore.put.Goals as goal

pub returns-clause-ok : goal.returns-clause-ok
returns-clause-ok c =
    ap (λ (r : Records). record { records = r; calls = c.self.inside.calls; fails = c.self.inside.fails; faults = c.self.inside.faults })
    (records_of-put c.self.inside.records c.insert.new.self (string_bytes c.in_ok-from_str.field-0) c.in_ok-text.text c.in_ok-insert.ensures.updates)
    ∙ (λ i. record { records = with_path (c.self.view_is i).records (c.in_ok-from_str.ensures.ok i) (c.in_ok-text.ensures i); calls = (c.self.view_is i).calls; fails = (c.self.view_is i).fails; faults = (c.self.view_is i).faults })
