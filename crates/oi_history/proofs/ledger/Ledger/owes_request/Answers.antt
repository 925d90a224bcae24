use Rattle.std.proofs.Common.{◌≡◌, ◌∙◌, true, false, sym, ap}
use Rattle.std.proofs.lemmas.Bool.{false≢true, true≢false}
use Rattle.oi_history.proofs.Asked.{manage_owed}
use Rattle.oi_history.specs.Judging.{may_ask}
use Rattle.oi_history.specs.Ledgers.{LedgerView}
use Rattle.oi_history.specs.Owing.{next_management}
use Rattle.oi_history.proofs.ledger.Ledger.owes_request.Goals.{then-not-may_ask-via-then-not-may_ask, then-not-may_ask-via-else-not-may_ask+then-self, then-not-may_ask-via-else-not-may_ask+else-self+then-not-is_its_next}
use Rattle.oi_history.proofs.ledger.Ledger.owes_request.Goals as goal

pub returns-then-not-may_ask : goal.returns-then-not-may_ask
returns-then-not-may_ask c =
    let leaving = ap (λ (v : LedgerView). v.now.leaving) c.self.view_is in (
      λ is. absurd (false≢true is),
      λ owed. let h = (manage_owed c.args.self.now.config c.args.self.now.now c.args.generation c.args.tag c.args.function c.args.subject).0 owed in elim c.then-not-may_ask.branch [
        | then-not-may_ask-via-then-not-may_ask w ↦ absurd (false≢true (sym w.if-not-may_ask.true ∙ (c.may_ask.ensures ∙ h.0)))
        | then-not-may_ask-via-else-not-may_ask+then-self w ↦ absurd (true≢false (sym w.if-self.true ∙ (leaving ∙ h.1)))
        | then-not-may_ask-via-else-not-may_ask+else-self+then-not-is_its_next w ↦ absurd (false≢true (sym w.if-not-is_its_next.true ∙ w.is_its_next.ensures.1 (h.2, h.3)))
      ],
    )

pub returns : goal.returns
returns c =
    let o = manage_owed c.args.self.now.config c.args.self.now.now c.args.generation c.args.tag c.args.function c.args.subject in
    let leaving : c.args.self.now.now.leaving ≡ false = sym (ap (λ (v : LedgerView). v.now.leaving) c.self.view_is) ∙ c.if-self.false in
    let handler = ap (λ (v : LedgerView). v.now.handler) c.self.view_is in
    let may : may_ask c.args.self.now.now ≡ true = sym c.may_ask.ensures ∙ c.if-not-may_ask.false in
    let k = c.is_its_next.ensures.0 c.if-not-is_its_next.false in
    let asks = c.asks_for.ensures c.args.self.now.now.generation (next_management c.args.self.now.now) in
    (λ is. o.1 (may, leaving, k.0, k.1, rw (← handler) (asks.0 is)), λ owed. let h = o.0 owed in asks.1 (rw handler h.4))
