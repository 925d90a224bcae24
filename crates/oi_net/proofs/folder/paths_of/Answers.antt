-- The loop takes the paths of the set one by one, in its order.
use Rattle.std.proofs.Common.{Global, List, ap, map, sym, ◌++◌, ◌∙◌}
use Rattle.std.specs.Str.{IsUtf8}
use Rattle.std.specs.String.{string_bytes}
use Rattle.std.specs.declared.string.String.{String}
use Rattle.std.proofs.lemmas.List.{append-nil}
use Rattle.std.proofs.lemmas.List.Elements.{All-push, All-same}
use Rattle.oi_outside.proofs.Strings.{found_one}
use Rattle.oi_net.proofs.Order.{ArePaths-bytes}
use Rattle.oi_net.proofs.folder.paths_of.Goals as goal

pub loop-path-preserved : goal.loop-path-preserved
loop-path-preserved c = (
  found_one c.loop-path.paths.items c.push.new.self.items c.in_ok-label_of.field-0 c.in-Some.path.now c.loop-path.path-iterator c.next.new.self _
      c.loop-path.invariant.0 c.in-Some.ensures.steps (c.in_ok-label_of.ensures.label ∙ c.as_str.ensures.value) c.in_ok-push.ensures.items,
  All-same IsUtf8 _ _ c.in_ok-push.ensures.items (All-push IsUtf8 c.loop-path.paths.items c.in_ok-label_of.field-0 c.loop-path.invariant.1 c.in_ok-label_of.ensures.text),
)

pub returns : goal.returns
returns c =
    ArePaths-bytes c.from_vec.result c.args.found.now.keys
    (c.from_vec.ensures
    ∙ sym (append-nil c.loop-path.paths.items)
    ∙ ap (λ (ks : List (String Global)). c.loop-path.paths.items ++ map (λ k. string_bytes k) ks) (sym c.in-None.ensures.steps.0)
    ∙ c.loop-path.invariant.0)
    c.iter-path-items.ensures.ordered
    (All-same IsUtf8 _ _ c.from_vec.ensures c.loop-path.invariant.1)
