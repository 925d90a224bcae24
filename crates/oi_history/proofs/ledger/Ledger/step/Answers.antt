use Rattle.std.proofs.Common.{◌∙◌, Bool, List, ap, arith, count_by, not, rules, subst, sym}
use Rattle.oi_history.proofs.Stepping.{all_stepped, free_stepped, queued_stepped, submissions_stepped, tracker_of, with_facts, within}
use Rattle.oi_history.specs.Courses.{is_fail_fast}
use Rattle.oi_history.specs.Ledgers.{LedgerView, freed_by, queued_in}
use Rattle.oi_history.specs.Locks.{is_joint}
use Rattle.oi_history.specs.Meanings.{Meanings, told_step}
use Rattle.oi_history.specs.Phases.{generation_after}
use Rattle.oi_history.specs.ConnectionWords.{broken_after, numbering_after, params_after, stat_after}
use Rattle.oi_history.specs.Submitted.{Waits}
use Rattle.oi_history.specs.Tasks.{is_done}
use Rattle.oi_history.specs.Trackers.{tracked}
use Rattle.oi_history.specs.declared.config.SessionConfig.{SessionConfig}
use Rattle.oi_history.specs.declared.task.Task.{Task}
use Rattle.oi_history.proofs.ledger.Ledger.step.Goals as goal

pub step_submissions-requires-clause-room : goal.step_submissions-requires-clause-room
step_submissions-requires-clause-room c = c.in_ok-reserve.ensures.ok.takes

pub step_submissions-requires-clause-waits : goal.step_submissions-requires-clause-waits
step_submissions-requires-clause-waits c = subst (λ (m : Meanings). Waits c.args.entry.now.event m.tasks) (sym c.reserve.ensures.roomier.now) c.requires.waits

pub step_queue-requires : goal.step_queue-requires
step_queue-requires c =
    omega (
      arith,
      c.in_ok-reserve.ensures.ok.pieces,
      c.step_submissions.ensures.pieces,
      queued_stepped c.reserve.new.self.config c.args.entry.now.number c.counts-accepted.result c.args.entry.now.event c.reserve.new.self.now c.step_submissions.new.self.now c.in_ok-step_submissions.ensures.now,
    )

pub step_heard-requires-clause-room : goal.step_heard-requires-clause-room
step_heard-requires-clause-room c = omega (arith, c.in_ok-reserve.ensures.ok.hears, c.step_submissions.ensures.hears, c.step_queue.ensures.hears)

pub step_heard-requires-clause-within : goal.step_heard-requires-clause-within
step_heard-requires-clause-within c = within c.is_current-current.result c.counts-accepted.result c.rule-rule.result c.args.entry.now.event c.counts-accepted.ensures c.rule-rule.ensures.within

pub step_free-requires-clause-room : goal.step_free-requires-clause-room
step_free-requires-clause-room c =
    let same = ap (λ (C : SessionConfig). freed_by C.cmds_max c.args.entry.now.event) (c.step_heard.ensures.config ∙ (c.step_queue.ensures.config ∙ c.step_submissions.ensures.config)) in
    omega (arith, same, c.in_ok-reserve.ensures.ok.releases, c.step_submissions.ensures.releases, c.step_queue.ensures.releases, c.step_heard.ensures.releases)

pub returns-clause-now : goal.returns-clause-now
returns-clause-now c =
    let e = c.args.entry.now.event in
    let at = c.args.entry.now.number in
    let accepted = c.counts-accepted.result in
    let stat = c.stat_step-stat.result in
    let m4 = c.step_free.new.self.now in
    ap (λ (v : LedgerView). with_facts c.step-tracker.result c.generation_step-generation.result c.params_step-params.result c.window_step-window.result stat c.told_step-self-inside.result
    c.broken_step-broken.result v.now) c.self-2.view_is
    ∙ all_stepped c.args.self.now.config e at c.args.self.now.now c.step_submissions.new.self.now c.step_queue.new.self.now c.step_heard.new.self.now m4
    accepted c.is_current-current.result c.rule-rule.result c.step-tracker.result c.generation_step-generation.result c.params_step-params.result c.window_step-window.result
    stat c.told_step-self-inside.result c.broken_step-broken.result
    (search rules) c.rule-rule.ensures.rule (search rules)
    (c.step-tracker.ensures ∙ (ap (λ (ts : List Task). tracked c.self.inside.config accepted ts e c.self.inside.tracker) c.tasks.ensures
    ∙ ap (λ (v : LedgerView). tracked v.config accepted v.now.tasks e (tracker_of v.now)) c.self.view_is))
    (c.generation_step-generation.ensures ∙ ap (λ (v : LedgerView). generation_after e v.now.generation) c.self.view_is)
    (c.params_step-params.ensures.is ∙ ap (λ (v : LedgerView). params_after e v.now.params) c.self.view_is)
    (c.window_step-window.ensures ∙ ap (λ (v : LedgerView). numbering_after accepted e v.now.window) c.self.view_is)
    (c.stat_step-stat.ensures ∙ ap (λ (v : LedgerView). stat_after accepted e v.now.stat) c.self.view_is)
    (c.broken_step-broken.ensures ∙ ap (λ (v : LedgerView). broken_after c.is_current-current.result c.rule-rule.result e v.now.broken) c.self.view_is)
    (c.in_ok-step_submissions.ensures.now ∙ (ap (λ (C : SessionConfig). submissions_stepped C at accepted e c.reserve.new.self.now) c.reserve.ensures.roomier.config
    ∙ ap (λ (m : Meanings). submissions_stepped c.args.self.now.config at accepted e m) c.reserve.ensures.roomier.now))
    c.step_queue.ensures.now
    c.step_heard.ensures.now
    (c.step_free.ensures.now ∙ ap (λ (C : SessionConfig). free_stepped C e c.step_heard.new.self.now)
    (c.step_heard.ensures.config ∙ (c.step_queue.ensures.config ∙ (c.step_submissions.ensures.config ∙ c.reserve.ensures.roomier.config))))
    (c.told_step-self-inside.ensures m4.tasks (c.pending.ensures ∙ ap (λ (v : LedgerView). count_by (λ (t : Task). not (is_done t.fate)) v.now.tasks) c.self-2.view_is)
    ∙ (ap (λ (j : Bool). told_step j e stat m4.tasks c.self.inside.told) (c.is_joint-joint.ensures ∙ ap (λ (f : Bool). is_joint f c.self.inside.told.pending e) c.is_fail_fast.ensures)
    ∙ ap (λ (v : LedgerView). told_step (is_joint (is_fail_fast v.now.phase) v.now.told.pending e) e stat m4.tasks v.now.told) c.self.view_is))

pub returns-clause-room : goal.returns-clause-room
returns-clause-room c =
    let r = c.reserve.ensures.roomier in
    let queued = queued_stepped c.reserve.new.self.config c.args.entry.now.number c.counts-accepted.result c.args.entry.now.event c.reserve.new.self.now c.step_submissions.new.self.now c.in_ok-step_submissions.ensures.now in
    let before = ap (λ (m : Meanings). queued_in m c.args.entry.now.event) r.now in
    record {
      releases = λ off. omega (arith, r.releases, c.step_submissions.ensures.releases, c.step_queue.ensures.releases, c.step_heard.ensures.releases, c.step_free.ensures.releases off, ap (λ (v : LedgerView). v.releases) c.self-2.view_is);
      takes = omega (arith, r.takes, c.in_ok-step_submissions.ensures.takes, c.step_queue.ensures.takes, c.step_heard.ensures.takes, c.step_free.ensures.takes, ap (λ (v : LedgerView). v.takes) c.self-2.view_is);
      pieces = omega (arith, r.pieces, c.step_submissions.ensures.pieces, c.step_queue.ensures.pieces, c.step_heard.ensures.pieces, c.step_free.ensures.pieces, queued, before, ap (λ (v : LedgerView). v.pieces) c.self-2.view_is);
    }
