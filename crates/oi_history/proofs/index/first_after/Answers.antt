use Rattle.std.proofs.Common.{◌∙◌, rules, sym}
use Rattle.oi_history.specs.Indices.{waits_on}
use Rattle.oi_history.proofs.Firsts.{first_gone, first_later, first_new, first_nowhere, first_sooner, first_stays}
use Rattle.oi_history.proofs.Places.{get_at}
use Rattle.oi_history.proofs.index.first_after.Goals as goal

pub returns-then-waits : goal.returns-then-waits
returns-then-waits c =
    sym (first_new (waits_on c.args.lun) c.args.id c.args.first c.args.tasks.now c.index-tasks-id.result c.requires.first (search rules)
    (get_at c.args.id c.args.tasks.now c.index-tasks-id.result c.requires.id c.index-tasks-id.is) (sym c.waits_on-waits.ensures ∙ c.if-waits.true))

pub returns-else-waits : goal.returns-else-waits
returns-else-waits c =
    sym (first_nowhere (waits_on c.args.lun) c.args.id c.args.first c.args.tasks.now c.index-tasks-id.result c.requires.first (search rules)
    (get_at c.args.id c.args.tasks.now c.index-tasks-id.result c.requires.id c.index-tasks-id.is) (sym c.waits_on-waits.ensures ∙ c.if-waits.false))

pub returns-then-found-id : goal.returns-then-found-id
returns-then-found-id c = sym (first_stays (waits_on c.args.lun) c.args.id c.in-Some.found c.args.first c.args.tasks.now c.requires.first c.in-Some.is c.if-found-id.true)

pub returns-then-waits-2 : goal.returns-then-waits-2
returns-then-waits-2 c =
    sym (first_sooner (waits_on c.args.lun) c.args.id c.in-Some.found c.args.first c.args.tasks.now c.index-tasks-id.result c.requires.first c.in-Some.is c.if-found-id.false
    (get_at c.args.id c.args.tasks.now c.index-tasks-id.result c.requires.id c.index-tasks-id.is) (sym c.waits_on-waits.ensures ∙ c.if-waits-2.true))

pub first_waiting-requires : goal.first_waiting-requires
first_waiting-requires c =
    first_gone (waits_on c.args.lun) c.args.id c.args.first c.args.tasks.now c.index-tasks-id.result c.requires.first (rw c.if-found-id-2.true at c.in-Some.is)
    (get_at c.args.id c.args.tasks.now c.index-tasks-id.result c.requires.id c.index-tasks-id.is) (sym c.waits_on-waits.ensures ∙ c.if-waits-2.false)

pub returns : goal.returns
returns c =
    sym (first_later (waits_on c.args.lun) c.args.id c.in-Some.found c.args.first c.args.tasks.now c.index-tasks-id.result c.requires.first c.in-Some.is
    (get_at c.args.id c.args.tasks.now c.index-tasks-id.result c.requires.id c.index-tasks-id.is) (sym c.waits_on-waits.ensures ∙ c.if-waits-2.false) c.if-found-id-2.false)
