use Rattle.std.proofs.Common.{rules}
use Rattle.std.specs.List.Sorted.{IsBinarySearchResult}
use Rattle.std.proofs.lemmas.Fn.{always_returns_same}
use Rattle.oi_settings.specs.Keys.{key_cmp}
use Rattle.oi_nodedb.proofs.Searches.{absent, found, gap, within}
use Rattle.oi_nodedb.proofs.place.place_of.Goals as goal

-- the closure compares a record's key with the one that is looked for
pub returns : goal.returns
returns c =
    let facts = c.binary_search_by.ensures in
    let by_key : IsBinarySearchResult (λ n. key_cmp n.key c.args.key.now) c.args.records.now c.binary_search_by.result =
    facts.position (λ n. key_cmp n.key c.args.key.now) (always_returns_same _ _ _ (λ a r g called. search rules)) in
    record {
      within = within c.args.records.now c.args.key.now c.requires _ facts.bound;
      found = found c.args.records.now c.args.key.now c.requires _ facts.bound by_key;
      absent = absent c.args.records.now c.args.key.now c.requires _ facts.bound by_key;
      gap = gap c.args.records.now c.args.key.now c.requires _ facts.bound by_key;
    }
