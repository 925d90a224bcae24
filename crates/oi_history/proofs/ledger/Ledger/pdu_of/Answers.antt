use Rattle.std.proofs.Common.{◌∙◌, ap, sym}
use Rattle.oi_history.proofs.Turning.{logout_sent_as, manage_sent, nop_sent, serial_is}
use Rattle.oi_history.specs.Ledgers.{LedgerView}
use Rattle.oi_window.specs.Numbering.{next_of}
use Rattle.oi_window.specs.declared.window.Window.{Window}
use Rattle.oi_history.proofs.ledger.Ledger.pdu_of.Goals as goal

pub returns-in-Manage : goal.returns-in-Manage
returns-in-Manage c =
    λ r last s names. manage_sent c.args.self.now.now r c.args.told c.args.first last c.args.send.now c.in-Manage.generation c.in-Manage.function c.in-Manage.tag c.in-Manage.subject c.args.issue c.manage_pdu.result s names c.in-Manage.is
    (λ named. c.manage_pdu.ensures r last s.window s.stat named)

pub returns-in-Nop : goal.returns-in-Nop
returns-in-Nop c =
    λ r last s names.
    let next = serial_is r.window c.next.result (c.next.ensures ∙ ap (λ (w : Window). next_of w) (ap (λ (v : LedgerView). v.now.window) c.self.view_is ∙ sym s.window)) in
    nop_sent r last c.args.send.now c.in-Nop.generation c.in-Nop.tag c.in-Nop.ttt c.in-Nop.lun c.nop_pdu.result c.in-Nop.is (c.nop_pdu.ensures r next (s.stat ∙ sym (ap (λ (v : LedgerView). v.now.stat) c.self.view_is)))

pub returns-in-Logout : goal.returns-in-Logout
returns-in-Logout c =
    λ r last s names.
    let next = serial_is r.window c.next-in-Logout.result (c.next-in-Logout.ensures ∙ ap (λ (w : Window). next_of w) (ap (λ (v : LedgerView). v.now.window) c.self.view_is ∙ sym s.window)) in
    logout_sent_as r last c.args.send.now c.in-Logout.generation c.in-Logout.tag c.logout_pdu.result c.in-Logout.is (c.logout_pdu.ensures r next (s.stat ∙ sym (ap (λ (v : LedgerView). v.now.stat) c.self.view_is)))
