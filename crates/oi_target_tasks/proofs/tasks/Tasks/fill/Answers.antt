-- The command at the number that is found is the one that waits.
use Rattle.std.proofs.Common.{sym, ap, ◌∙◌}
use Rattle.std.specs.Map.{values_of}
use Rattle.oi_target_tasks.proofs.Indexes.{IsIndexed-changed, filled_again, filled_asked, filled_err, filled_tag, filled_tasks, found_as, is_found, none_waits, one_replaced, one_waits, unchanged_by, waiting_tag}
use Rattle.oi_target_tasks.specs.Tasks.{asks_for, filled_in, waiting_in}
use Rattle.oi_target_tasks.proofs.tasks.Tasks.fill.Goals as goal

pub returns-in_default-clause-asked : goal.returns-in_default-clause-asked
returns-in_default-clause-asked c =
    sym (ap (asks_for c.args.payload.now) (none_waits c.self.invariant c.args.self.now c.self.view_is c.args.tag (sym c.waiting_at.ensures ∙ c.in_default.is)))

pub returns-in_default-clause-tasks : goal.returns-in_default-clause-tasks
returns-in_default-clause-tasks c =
    sym (ap (λ o. filled_in c.args.transfer c.args.burst c.args.payload.now o c.args.self.now) (none_waits c.self.invariant c.args.self.now c.self.view_is c.args.tag (sym c.waiting_at.ensures ∙ c.in_default.is)))

pub invariant_of-self-2 : goal.invariant_of-self-2
invariant_of-self-2 c =
    let t = c.in-Some-get_mut.task.now in
    let w = c.fill.new.self in
    let h = c.get_mut.follows.holds w in
    IsIndexed-changed c.self.inside.order (c.get_mut.follows.lender w) c.self.inside.places.entries c.self.inside.next c.in-Some.number t w c.self.invariant (sym c.in-Some-get_mut.ensures.value)
    (filled_tag c.fill.result t w c.args.payload.now c.args.transfer c.args.burst (waiting_in c.args.tag c.args.self.now) c.args.self.now c.args.self.now c.fill.ensures.task c.fill.ensures.err)
    (h.3 (ap Rattle.std.specs.Option.is_some (sym c.in-Some-get_mut.ensures.value))) h.4

pub returns-clause-asked : goal.returns-clause-asked
returns-clause-asked c =
    let t = c.in-Some-get_mut.task.now in
    let w = c.fill.new.self in
    let f = found_as (is_found c.self.inside.order.entries c.self.inside.places.entries c.args.tag c.in-Some.number (sym c.waiting_at.ensures ∙ c.in-Some.is)) t c.in-Some-get_mut.ensures.value in
    filled_asked c.fill.result t w c.args.payload.now c.args.transfer c.args.burst (waiting_in c.args.tag c.args.self.now) c.args.self.now c.args.self.now c.fill.ensures.asked
    (one_waits c.self.invariant c.args.self.now c.self.view_is c.args.tag c.in-Some.number f)

pub returns-clause-tasks : goal.returns-clause-tasks
returns-clause-tasks c =
    let t = c.in-Some-get_mut.task.now in
    let w = c.fill.new.self in
    let f = found_as (is_found c.self.inside.order.entries c.self.inside.places.entries c.args.tag c.in-Some.number (sym c.waiting_at.ensures ∙ c.in-Some.is)) t c.in-Some-get_mut.ensures.value in
    let same = filled_tag c.fill.result t w c.args.payload.now c.args.transfer c.args.burst (waiting_in c.args.tag c.args.self.now) c.args.self.now c.args.self.now c.fill.ensures.task c.fill.ensures.err in
    filled_tasks c.fill.result t w c.args.payload.now c.args.transfer c.args.burst (waiting_in c.args.tag c.args.self.now) (values_of (c.get_mut.follows.lender w).entries) c.args.self.now c.fill.ensures.asked c.fill.ensures.task
    (ap values_of (c.get_mut.follows.holds w).0 ∙ one_replaced c.self.invariant c.args.self.now c.self.view_is c.args.tag c.in-Some.number f w (same ∙ waiting_tag c.args.tag t f.waits))
    (one_waits c.self.invariant c.args.self.now c.self.view_is c.args.tag c.in-Some.number f)

pub returns-clause-again : goal.returns-clause-again
returns-clause-again c =
    let t = c.in-Some-get_mut.task.now in
    let w = c.fill.new.self in
    let f = found_as (is_found c.self.inside.order.entries c.self.inside.places.entries c.args.tag c.in-Some.number (sym c.waiting_at.ensures ∙ c.in-Some.is)) t c.in-Some-get_mut.ensures.value in
    let same = filled_tag c.fill.result t w c.args.payload.now c.args.transfer c.args.burst (waiting_in c.args.tag c.args.self.now) c.args.self.now c.args.self.now c.fill.ensures.task c.fill.ensures.err in
    filled_again c.fill.result c.args.tag t w c.args.payload.now c.args.transfer c.args.burst (values_of (c.get_mut.follows.lender w).entries) c.args.self.now f.waits c.fill.ensures.asked c.fill.ensures.task
    (ap values_of (c.get_mut.follows.holds w).0 ∙ one_replaced c.self.invariant c.args.self.now c.self.view_is c.args.tag c.in-Some.number f w (same ∙ waiting_tag c.args.tag t f.waits))
    (one_waits c.self.invariant c.args.self.now c.self.view_is c.args.tag c.in-Some.number f)

pub returns-clause-err : goal.returns-clause-err
returns-clause-err c =
    let t = c.in-Some-get_mut.task.now in
    let w = c.fill.new.self in
    filled_err c.fill.result t w c.args.payload.now c.args.transfer c.args.burst (waiting_in c.args.tag c.args.self.now) (values_of (c.get_mut.follows.lender w).entries) c.args.self.now c.fill.ensures.err
    (unchanged_by c.self.inside.order.entries (c.get_mut.follows.lender w).entries c.in-Some.number t w c.args.self.now c.self.view_is (c.get_mut.follows.holds w).0 c.in-Some-get_mut.ensures.value)
