use Rattle.std.proofs.Common.{◌≡◌, ◌∙◌, IfOk, List, Option, ap, is_some, sym, subst}
use Rattle.oi_history.proofs.Turning.{owed_broken, owed_off, owed_queued, owed_rest}
use Rattle.oi_history.specs.Ledgers.{LedgerView}
use Rattle.oi_history.specs.Releasing.{entries_of}
use Rattle.oi_history.specs.declared.event.Event.{Event}
use Rattle.oi_history.specs.declared.owing.Owed.{Owed}
use Rattle.oi_history.proofs.ledger.Ledger.owed.Goals as goal

pub returns-then-is_off : goal.returns-then-is_off
returns-then-is_off c = sym (owed_off c.args.self.now.config c.args.self.now.now (sym c.is_off.ensures ∙ c.if-is_off.true))

pub returns-then-is_some : goal.returns-then-is_some
returns-then-is_some c =
    owed_queued c.args.self.now.config c.args.self.now.now c.queued_owed-queued.result (sym c.is_off.ensures ∙ c.if-is_off.false) (sym c.is_some.ensures ∙ c.if-is_some.true) c.queued_owed-queued.ensures

pub returns-then-is_some-2 : goal.returns-then-is_some-2
returns-then-is_some-2 c =
    owed_broken c.args.self.now.config c.args.self.now.now c.queued_owed-queued.result (sym c.is_off.ensures ∙ c.if-is_off.false) (sym c.is_some.ensures ∙ c.if-is_some.false) c.queued_owed-queued.ensures
    (sym (c.is_some-2.ensures ∙ ap (λ (v : LedgerView). is_some v.now.broken) c.self.view_is) ∙ c.if-is_some-2.true)

pub returns : goal.returns
returns c =
    let rest = owed_rest c.args.self.now.config c.args.self.now.now c.queued_owed-queued.result (sym c.is_off.ensures ∙ c.if-is_off.false) (sym c.is_some.ensures ∙ c.if-is_some.false) c.queued_owed-queued.ensures
    (sym (c.is_some-2.ensures ∙ ap (λ (v : LedgerView). is_some v.now.broken) c.self.view_is) ∙ c.if-is_some-2.false) in
    subst (λ (es : List Event). IfOk c.owed_behind.result (λ (o : Option Owed). entries_of o ≡ es)) rest c.owed_behind.ensures
