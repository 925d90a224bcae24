use Rattle.std.proofs.Common.{◌≡◌, ◌∙◌, true, false, sym, ap}
use Rattle.std.proofs.lemmas.Bool.{false≢true, true≢false}
use Rattle.oi_history.proofs.Asked.{nop_owed}
use Rattle.oi_history.specs.Judging.{may_ask}
use Rattle.oi_history.specs.Ledgers.{LedgerView}
use Rattle.oi_history.specs.Owing.{next_management}
use Rattle.oi_history.proofs.ledger.Ledger.owes_nop.Goals.{then-not-may_ask-via-then-not-may_ask, then-not-may_ask-via-else-not-may_ask+then-self, then-not-may_ask-via-else-not-may_ask+else-self+then-not-asks_nothing}
use Rattle.oi_history.proofs.ledger.Ledger.owes_nop.Goals as goal

pub returns-then-not-may_ask : goal.returns-then-not-may_ask
returns-then-not-may_ask c =
    let leaving = ap (λ (v : LedgerView). v.now.leaving) c.self.view_is in
    let handler = ap (λ (v : LedgerView). v.now.handler) c.self.view_is in (
      λ is. absurd (false≢true is),
      λ owed. let h = (nop_owed c.args.self.now.config c.args.self.now.now c.args.generation c.args.tag c.args.ttt c.args.lun.now).0 owed in elim c.then-not-may_ask.branch [
        | then-not-may_ask-via-then-not-may_ask w ↦ absurd (false≢true (sym w.if-not-may_ask.true ∙ (c.may_ask.ensures ∙ h.0)))
        | then-not-may_ask-via-else-not-may_ask+then-self w ↦ absurd (true≢false (sym w.if-self.true ∙ (leaving ∙ h.1)))
        | then-not-may_ask-via-else-not-may_ask+else-self+then-not-asks_nothing w ↦ absurd (false≢true (sym w.if-not-asks_nothing.true ∙ (w.asks_nothing.ensures c.args.self.now.now.generation (next_management c.args.self.now.now)).1 (rw handler h.2)))
      ],
    )

pub returns : goal.returns
returns c =
    let o = nop_owed c.args.self.now.config c.args.self.now.now c.args.generation c.args.tag c.args.ttt c.args.lun.now in
    let leaving : c.args.self.now.now.leaving ≡ false = sym (ap (λ (v : LedgerView). v.now.leaving) c.self.view_is) ∙ c.if-self.false in
    let handler = ap (λ (v : LedgerView). v.now.handler) c.self.view_is in
    let may : may_ask c.args.self.now.now ≡ true = sym c.may_ask.ensures ∙ c.if-not-may_ask.false in
    let none = (c.asks_nothing.ensures c.args.self.now.now.generation (next_management c.args.self.now.now)).0 c.if-not-asks_nothing.false in
    (λ is. o.1 (may, leaving, rw (← handler) none, c.is_next_nop.ensures.0 is), λ owed. let h = o.0 owed in c.is_next_nop.ensures.1 h.3)
