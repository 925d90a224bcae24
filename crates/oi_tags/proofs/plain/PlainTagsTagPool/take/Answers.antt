use Rattle.std.proofs.Common.{◌≡◌, ◌<◌, [], length, drop, arith}
use Rattle.std.proofs.lemmas.Bool.Decides.{nat_tests}
use Rattle.oi_tags.proofs.Kept.{empty_by_length, split_first, taken_was_free, kept_take, none_is_free, state_of_command}
use Rattle.oi_tags.specs.declared.state.TagState.TheVariants.{Foreign}
use Rattle.oi_tags.proofs.plain.PlainTagsTagPool.take.Goals as goal

pub returns-then-is_empty-clause-none : goal.returns-then-is_empty-clause-none
returns-then-is_empty-clause-none c =
    let empty : c.self.inside.free.items ≡ [] = empty_by_length _ (let ok = c.self.inside.free.ok.0 in grind (arith, nat_tests)) in
    rw (← c.self.view_is) (none_is_free c.self.inside.age _ [] _ _ empty c.self.invariant)

pub index_mut-requires : goal.index_mut-requires
index_mut-requires c =
    let some : 0 < length c.self.inside.free.items = (let ok = c.self.inside.free.ok.0 in grind (arith, nat_tests)) in
    let first = taken_was_free _ _ _ _ _ _ (split_first c.self.inside.free.items c.remove-index.result some c.remove-index.ensures.value) c.self.invariant in
    omega (arith, first.within, c.self.inside.states.ok.0)

pub invariant_of-self : goal.invariant_of-self
invariant_of-self c =
    let some : 0 < length c.self.inside.free.items = (let ok = c.self.inside.free.ok.0 in grind (arith, nat_tests)) in
    let split = split_first c.self.inside.free.items c.remove-index.result some c.remove-index.ensures.value in
    rw (c.remove-index.ensures.capacity, c.remove-index.ensures.items) (kept_take c.self.inside.age c.remove-index.result c.self.inside.free.items (drop 1 c.self.inside.free.items) c.self.inside.states.items _ split c.self.invariant)

pub returns-clause-was_free : goal.returns-clause-was_free
returns-clause-was_free c =
    let some : 0 < length c.self.inside.free.items = (let ok = c.self.inside.free.ok.0 in grind (arith, nat_tests)) in
    let first = taken_was_free _ _ _ _ _ _ (split_first c.self.inside.free.items c.remove-index.result some c.remove-index.ensures.value) c.self.invariant in
    rw (← c.self.view_is, c.command.ensures) (state_of_command c.self.inside.age c.remove-index.result [] c.self.inside.states.items first.small (first.is_free Foreign))
