use Rattle.oi_drive.proofs.Sendings.{IsSending}
use Rattle.oi_drive.proofs.deeds.send.Given as goal

abbrev pub invariant-loop-i : goal.invariant-loop-i
invariant-loop-i l = IsSending l.count l._i l.initial.solo l.solo l.initial.out.items l.out.items
