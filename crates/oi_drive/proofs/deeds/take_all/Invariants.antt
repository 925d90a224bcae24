use Rattle.oi_drive.proofs.Sendings.{IsUnderWay}
use Rattle.oi_drive.specs.Deeds.{takes_all}
use Rattle.oi_drive.proofs.deeds.take_all.Given as goal

abbrev pub invariant-loop-pdu : goal.invariant-loop-pdu
invariant-loop-pdu l = IsUnderWay (takes_all l.generation l.initial.pdu-iterator.rest.items l.initial.solo) (takes_all l.generation l.pdu-iterator.rest.items l.solo) l.initial.solo l.solo l.initial.out.items l.out.items
