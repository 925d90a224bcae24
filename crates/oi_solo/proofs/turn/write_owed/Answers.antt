use Rattle.std.proofs.Common.{◌≡◌, ◌++◌, ℕ, List, OnOk, subst, sym}
use Rattle.oi_solo.proofs.Bytes.{wrote}
use Rattle.oi_solo.specs.Cores.{session_of}
use Rattle.oi_solo.proofs.turn.write_owed.Goals as goal

pub returns-clause-ok : goal.returns-clause-ok
returns-clause-ok c =
    let s = session_of c.args.kept.now in
    let sent = wrote c.args.kept.now c.args.owed.now c.named-issue.result c.in_ok-pdu.pdu c.requires.kept c.requires.owed c.named-issue.ensures c.in_ok-pdu.ensures in
    subst (λ (bytes : List ℕ). OnOk c.write_all.result (c.write_all.new.out.items ≡ c.args.out.now.items ++ bytes)) (sym sent) c.write_all.ensures.ok
