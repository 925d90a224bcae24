use Rattle.std.proofs.Common.{◌≡◌, [], arith, rules}
use Rattle.oi_tags.proofs.Kept.{empty_by_length, taken_was_free, kept_take, none_is_free, state_of_command}
use Rattle.oi_tags.specs.declared.state.TagState.TheVariants.{Foreign}
use Rattle.oi_tags.proofs.tags.TagsTagPool.take.Goals as goal

pub returns-in_err-index-clause-none : goal.returns-in_err-index-clause-none
returns-in_err-index-clause-none c =
    let empty : c.self.inside.free.items ≡ [] = empty_by_length _ (omega (arith, c.in_err-index.ensures.cases.0, c.self.inside.free.ok.0)) in
    rw (← c.self.view_is, c.from_residual.ensures) (none_is_free c.self.inside.age _ [] _ _ empty c.self.invariant)

pub index_mut-requires : goal.index_mut-requires
index_mut-requires c =
    let first = taken_was_free _ _ _ _ _ _ c.in_ok-index.ensures.items c.self.invariant in
    let within = first.within in
    search rules

pub command-requires-clause-index : goal.command-requires-clause-index
command-requires-clause-index c =
    let first = taken_was_free _ _ _ _ _ _ c.in_ok-index.ensures.items c.self.invariant in
    first.small

pub invariant_of-self-2 : goal.invariant_of-self-2
invariant_of-self-2 c =
    rw c.in_ok-index.ensures.capacity (kept_take _ _ _ _ _ _ c.in_ok-index.ensures.items c.self.invariant)

pub returns-clause-was_free : goal.returns-clause-was_free
returns-clause-was_free c =
    let first = taken_was_free _ _ _ _ _ _ c.in_ok-index.ensures.items c.self.invariant in
    rw (← c.self.view_is, c.command.ensures) (state_of_command c.self.inside.age c.in_ok-index.index [] c.self.inside.states.items first.small (first.is_free Foreign))
