use Rattle.std.proofs.Common.{◌∙◌, List, ap, sym}
use Rattle.oi_history.proofs.Turning.{serial_is}
use Rattle.oi_history.specs.Ledgers.{LedgerView}
use Rattle.oi_history.specs.Owing.{management_pdu, subject_lun}
use Rattle.oi_history.specs.declared.allocated.Allocated.{Allocated}
use Rattle.oi_history.specs.declared.task.Task.{Task}
use Rattle.oi_window.specs.Numbering.{next_of}
use Rattle.oi_window.specs.declared.window.Window.{Window}
use Rattle.oi_history.proofs.ledger.Ledger.manage_pdu.Goals as goal

pub returns : goal.returns
returns c =
    λ r last window stat names.
    let next = serial_is r.window c.next.result (c.next.ensures ∙ ap (λ (w : Window). next_of w) (ap (λ (v : LedgerView). v.now.window) c.self.view_is ∙ sym window)) in
    let lun = c.subject_lun.ensures ∙ ap (λ (ts : List Task). subject_lun ts c.args.subject) (c.tasks.ensures ∙ ap (λ (v : LedgerView). v.now.tasks) c.self.view_is) in
    c.management_pdu.ensures r next (stat ∙ sym (ap (λ (v : LedgerView). v.now.stat) c.self.view_is))
    ∙ ap (λ (l : List _). management_pdu r c.args.tag c.args.function l c.referenced.result) lun
    ∙ ap (λ (a : Allocated). management_pdu r c.args.tag c.args.function (subject_lun c.args.self.now.now.tasks c.args.subject) a) (c.referenced.ensures last names)
