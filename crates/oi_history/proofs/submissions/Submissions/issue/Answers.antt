use Rattle.std.proofs.Common.{◌∙◌, ◌≤◌, ◌-◌, ap, arith, refl, subst, sym}
use Rattle.std.specs.VecDeque.{deque_capacity}
use Rattle.oi_history.proofs.Issuing.{WaitsAt, issued-ended, kept-issued}
use Rattle.oi_history.proofs.Indexed.{seen, was_indexed}
use Rattle.oi_history.specs.Tasks.{issued}
use Rattle.oi_history.specs.Handling.{live_at}
use Rattle.oi_history.specs.Submitted.{SubmissionsView}
use Rattle.oi_history.proofs.submissions.Submissions.issue.Goals as goal

pub invariant_of-self : goal.invariant_of-self
invariant_of-self c =
    let room : 1 ≤ deque_capacity c.self.inside.tally.ended - c.self.inside.places = subst (λ (v : SubmissionsView). 1 ≤ v.takes) (sym c.self.view_is) c.requires.room in (
      kept-issued c.self.inside.allowed c.self.inside.places c.self.inside.tally c.self.inside.tasks.items c.send_at.new.tasks.items c.args.generation c.args.tag c.args.id c.self.invariant.0
          (subst (λ (v : SubmissionsView). WaitsAt c.args.id v.tasks) (sym c.self.view_is) c.requires.waits) (omega (arith, room)) c.send_at.ensures,
      seen c.note.new.self c.send_at.new.tasks.items c.deref-2.result.now c.deref-2.ensures.value c.note.ensures.index,
    )

pub returns-clause-ended : goal.returns-clause-ended
returns-clause-ended c = ap (λ (v : SubmissionsView). v.ended) c.self.view_is ∙ issued-ended c.args.self.now c.args.generation c.args.tag c.args.id c.requires.waits

pub note-requires : goal.note-requires
note-requires c =
    was_indexed c.self.inside.index c.args.id c.live_at-was_live.result c.self.inside.tasks.items c.deref-2.result.now (issued c.args.generation c.args.tag) c.self.invariant.1 (c.deref-2.ensures.value ∙ c.send_at.ensures) (λ t. refl) (c.live_at-was_live.ensures ∙ ap (live_at c.args.id) c.deref.ensures.value)
