use Rattle.std.proofs.Common.{ℕ, List, rules, ◌==◌}
use Rattle.std.proofs.lemmas.Iterator.Search.{any_from_yields_List}
use Rattle.std.proofs.lemmas.Iterator.Splits.{YieldsList-from_slice_split}
use Rattle.std.specs.Prelude.{is_some}
use Rattle.oi_negotiate.specs.Values.{number_within}
use Rattle.oi_target_login.proofs.chap.has_md5.Goals as goal

pub returns : goal.returns
returns c = any_from_yields_List (λ (value : List ℕ). is_some (number_within 5 5 value)) _ _ _ c.any.ensures.ran
    (YieldsList-from_slice_split _ (λ (b : ℕ). b == 44) c.args.algorithms.now c.split.ensures.rest c.split.ensures.done c.split.ensures.closure (λ x b q k. search rules))
    (λ x b q k. search rules)
