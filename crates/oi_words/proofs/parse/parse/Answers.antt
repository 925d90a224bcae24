use Rattle.std.proofs.Common.{◌∙◌, ap}
use Rattle.clap.specs.Faults.{is_simple_and_free}
use Rattle.oi_words.proofs.Walks.{once_told, tool_free, twice_told, values_told}
use Rattle.oi_words.proofs.parse.parse.Goals as goal

pub returns-in-Ok-try_get_matches_from : goal.returns-in-Ok-try_get_matches_from
returns-in-Ok-try_get_matches_from c = λ items forms.
    let new = once_told _ _ items c.in-Ok.ensures forms (c.in-Ok-try_get_matches_from.ensures.kinds (ap is_simple_and_free c.in-Ok.ensures ∙ tool_free)) in
    (new, λ letter. values_told _ _ items c.in-Ok-try_get_matches_from.matches letter c.in-Ok.ensures forms new c.in-Ok-try_get_matches_from.ensures.matches)

pub returns : goal.returns
returns c = λ items forms.
    twice_told _ _ items _ c.in-Ok.ensures forms (c.in-Err.ensures.kinds (ap is_simple_and_free c.in-Ok.ensures ∙ tool_free)) (λ oom. c.in_default-kind.not-OutOfMemory (c.kind.ensures ∙ oom))
