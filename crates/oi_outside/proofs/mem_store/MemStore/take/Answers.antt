-- The path goes out of the tree, and out of the records that it holds.
use Rattle.std.proofs.Common.{List, ℕ, Option, sym, ap, is_some, ◌∙◌}
use Rattle.oi_outside.specs.Records.{Records, lookup, without_path}
use Rattle.oi_outside.specs.MemStores.{MemRecords}
use Rattle.oi_outside.proofs.Strings.{lookup-records_of, records_of-taken}
use Rattle.oi_outside.proofs.mem_store.MemStore.take.Goals as goal

pub returns-clause-was : goal.returns-clause-was
returns-clause-was c =
    c.is_some.ensures
    ∙ ap (λ (o : Option (List ℕ)). is_some o) (c.remove.ensures.value
    ∙ sym (lookup-records_of c.args.path.now c.self.inside.records.entries)
    ∙ ap (λ (s : MemRecords). lookup s.records c.args.path.now) c.self.view_is)

pub returns-clause-after : goal.returns-clause-after
returns-clause-after c =
    ap (λ (r : Records). record { records = r; calls = c.self.inside.calls; fails = c.self.inside.fails; faults = c.self.inside.faults })
    (records_of-taken c.self.inside.records c.remove.new.self c.args.path.now c.remove.ensures.updates)
    ∙ ap (λ (s : MemRecords). record s { records = without_path s.records c.args.path.now }) c.self.view_is
