use Rattle.std.proofs.Common.{ℕ, List, rules, ◌==◌}
use Rattle.std.proofs.lemmas.Iterator.Search.{any_from_yields_List}
use Rattle.std.proofs.lemmas.Iterator.Splits.{YieldsList-from_slice_split}
use Rattle.oi_negotiate.specs.Keys.{is_text}
use Rattle.oi_target_login.proofs.pairs.lists.Goals as goal

pub returns : goal.returns
returns c = any_from_yields_List (λ (value : List ℕ). is_text value c.args.word.now) _ _ _ c.any.ensures.ran
    (YieldsList-from_slice_split _ (λ (b : ℕ). b == 44) c.args.values.now c.split.ensures.rest c.split.ensures.done c.split.ensures.closure (λ x b q k. search rules))
    (λ x b q k. search rules)
