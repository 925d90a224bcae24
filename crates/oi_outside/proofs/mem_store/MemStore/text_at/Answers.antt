-- A path has the text that the tree has there.
use Rattle.std.proofs.Common.{List, ℕ, Some, sym, ap, ◌∙◌}
use Rattle.oi_outside.specs.Records.{lookup}
use Rattle.oi_outside.specs.MemStores.{MemRecords}
use Rattle.oi_outside.proofs.Strings.{lookup-records_of}
use Rattle.oi_outside.proofs.mem_store.MemStore.text_at.Goals as goal

pub returns-in-Some : goal.returns-in-Some
returns-in-Some c =
    ap (λ (t : List ℕ). Some t) c.as_slice.ensures
    ∙ c.in-Some.ensures.value
    ∙ sym (lookup-records_of c.args.path.now c.self.inside.records.entries)
    ∙ ap (λ (s : MemRecords). lookup s.records c.args.path.now) c.self.view_is

pub returns-in-None : goal.returns-in-None
returns-in-None c =
    c.in-None.ensures.value
    ∙ sym (lookup-records_of c.args.path.now c.self.inside.records.entries)
    ∙ ap (λ (s : MemRecords). lookup s.records c.args.path.now) c.self.view_is
