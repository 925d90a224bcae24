use Rattle.std.proofs.Common.{◌≡◌, ◌∙◌, true, sym, ap}
use Rattle.std.proofs.lemmas.Bool.{false≢true}
use Rattle.oi_history.proofs.Asked.{logout_owed}
use Rattle.oi_history.specs.Judging.{may_ask}
use Rattle.oi_history.specs.Ledgers.{LedgerView}
use Rattle.oi_history.proofs.ledger.Ledger.owes_logout.Goals.{then-not-may_ask-via-then-not-may_ask, then-not-may_ask-via-else-not-may_ask+then-not-self}
use Rattle.oi_history.proofs.ledger.Ledger.owes_logout.Goals as goal

pub returns-then-not-may_ask : goal.returns-then-not-may_ask
returns-then-not-may_ask c =
    let leaving = ap (λ (v : LedgerView). v.now.leaving) c.self.view_is in (
      λ is. absurd (false≢true is),
      λ owed. let h = (logout_owed c.args.self.now.config c.args.self.now.now c.args.generation c.args.tag).0 owed in elim c.then-not-may_ask.branch [
        | then-not-may_ask-via-then-not-may_ask w ↦ absurd (false≢true (sym w.if-not-may_ask.true ∙ (c.may_ask.ensures ∙ h.0)))
        | then-not-may_ask-via-else-not-may_ask+then-not-self w ↦ absurd (false≢true (sym w.if-not-self.true ∙ (leaving ∙ h.1)))
      ],
    )

pub returns : goal.returns
returns c =
    let o = logout_owed c.args.self.now.config c.args.self.now.now c.args.generation c.args.tag in
    let leaving : c.args.self.now.now.leaving ≡ true = sym (ap (λ (v : LedgerView). v.now.leaving) c.self.view_is) ∙ c.if-not-self.false in
    let may : may_ask c.args.self.now.now ≡ true = sym c.may_ask.ensures ∙ c.if-not-may_ask.false in
    (λ is. let k = c.is_its_next.ensures.0 is in o.1 (may, leaving, k.0, k.1), λ owed. let h = o.0 owed in c.is_its_next.ensures.1 (h.2, h.3))
