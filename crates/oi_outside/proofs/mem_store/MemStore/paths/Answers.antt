-- The loop takes the paths of the tree one by one, in its order.
use Rattle.std.proofs.Common.{Global, List, sym, ap, map, ◌++◌, ◌∙◌}
use Rattle.std.specs.Str.{IsUtf8}
use Rattle.std.specs.String.{string_bytes}
use Rattle.std.specs.declared.string.String.{String}
use Rattle.std.proofs.lemmas.List.{append-nil}
use Rattle.std.proofs.lemmas.List.Elements.{All-push, All-same}
use Rattle.oi_outside.specs.Records.{paths}
use Rattle.oi_outside.specs.MemStores.{MemRecords}
use Rattle.oi_outside.proofs.Stores.{Lists-paths}
use Rattle.oi_outside.proofs.Strings.{found_one, paths-records_of}
use Rattle.oi_outside.proofs.mem_store.MemStore.paths.Goals as goal

pub loop-path-preserved : goal.loop-path-preserved
loop-path-preserved c = (
  found_one c.loop-path.found.items c.push.new.self.items c.in_ok-label_of.field-0 c.in-Some.path.now c.loop-path.path-iterator c.next.new.self _
      c.loop-path.invariant.0 c.in-Some.ensures.steps (c.in_ok-label_of.ensures.label ∙ c.as_str.ensures.value) c.in_ok-push.ensures.items,
  All-same IsUtf8 _ _ c.in_ok-push.ensures.items (All-push IsUtf8 c.loop-path.found.items c.in_ok-label_of.field-0 c.loop-path.invariant.1 c.in_ok-label_of.ensures.text),
)

pub returns : goal.returns
returns c =
    Lists-paths c.args.self.now.records c.from_vec.result
    (c.from_vec.ensures
    ∙ sym (append-nil c.loop-path.found.items)
    ∙ ap (λ (ks : List (String Global)). c.loop-path.found.items ++ map (λ k. string_bytes k) ks) (sym c.in-None.ensures.steps.0)
    ∙ c.loop-path.invariant.0
    ∙ sym (paths-records_of c.self.inside.records.entries c.keys-path-items.ensures.ordered)
    ∙ ap (λ (s : MemRecords). paths s.records) c.self.view_is)
    (All-same IsUtf8 _ _ c.from_vec.ensures c.loop-path.invariant.1)
