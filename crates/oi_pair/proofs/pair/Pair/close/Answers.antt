use Rattle.std.proofs.Common.{ap}
use Rattle.std.specs.Slots.{slots_items}
use Rattle.oi_pair.proofs.Seats.{closes, ends_are}
use Rattle.oi_pair.proofs.pair.Pair.close.Goals as goal

pub forward_of-requires : goal.forward_of-requires
forward_of-requires g c = let h = closes g.F.Keeps.entries g.F.Keeps.shared g.B.Keeps.entries g.B.Keeps.shared c.seat.inside.seat.id c.seat.inside.seat.me.0 c.args.seat.knows _ _ (slots_items c.take-forward.new.self.slots) (ap (λ s. s.knows) c.seat.view_is) c.requires.parts c.requires.rests c.close_with-closed.ensures.values.2 c.take-forward.result c.take-back.result c.take-forward.ensures.value c.take-forward.ensures.others.0 c.take-back.ensures.value in (h.0, h.2)

pub back_of-requires : goal.back_of-requires
back_of-requires g c = let h = closes g.F.Keeps.entries g.F.Keeps.shared g.B.Keeps.entries g.B.Keeps.shared c.seat.inside.seat.id c.seat.inside.seat.me.0 c.args.seat.knows _ _ (slots_items c.take-forward.new.self.slots) (ap (λ s. s.knows) c.seat.view_is) c.requires.parts c.requires.rests c.close_with-closed.ensures.values.2 c.take-forward.result c.take-back.result c.take-forward.ensures.value c.take-forward.ensures.others.0 c.take-back.ensures.value in (h.1, h.3)

pub returns-clause-shared : goal.returns-clause-shared
returns-clause-shared g c = (ends_are g.F.Keeps.entries g.F.Keeps.shared g.B.Keeps.entries g.B.Keeps.shared c.args.seat.knows c.take-forward.result c.take-back.result c.forward_of.result c.back_of.result
    (closes g.F.Keeps.entries g.F.Keeps.shared g.B.Keeps.entries g.B.Keeps.shared c.seat.inside.seat.id c.seat.inside.seat.me.0 c.args.seat.knows _ _ (slots_items c.take-forward.new.self.slots) (ap (λ s. s.knows) c.seat.view_is) c.requires.parts c.requires.rests c.close_with-closed.ensures.values.2 c.take-forward.result c.take-back.result c.take-forward.ensures.value c.take-forward.ensures.others.0 c.take-back.ensures.value)
    c.forward_of.ensures c.back_of.ensures).shared

pub returns-clause-whole : goal.returns-clause-whole
returns-clause-whole g c = (ends_are g.F.Keeps.entries g.F.Keeps.shared g.B.Keeps.entries g.B.Keeps.shared c.args.seat.knows c.take-forward.result c.take-back.result c.forward_of.result c.back_of.result
    (closes g.F.Keeps.entries g.F.Keeps.shared g.B.Keeps.entries g.B.Keeps.shared c.seat.inside.seat.id c.seat.inside.seat.me.0 c.args.seat.knows _ _ (slots_items c.take-forward.new.self.slots) (ap (λ s. s.knows) c.seat.view_is) c.requires.parts c.requires.rests c.close_with-closed.ensures.values.2 c.take-forward.result c.take-back.result c.take-forward.ensures.value c.take-forward.ensures.others.0 c.take-back.ensures.value)
    c.forward_of.ensures c.back_of.ensures).whole

pub returns-clause-seen : goal.returns-clause-seen
returns-clause-seen g c = (ends_are g.F.Keeps.entries g.F.Keeps.shared g.B.Keeps.entries g.B.Keeps.shared c.args.seat.knows c.take-forward.result c.take-back.result c.forward_of.result c.back_of.result
    (closes g.F.Keeps.entries g.F.Keeps.shared g.B.Keeps.entries g.B.Keeps.shared c.seat.inside.seat.id c.seat.inside.seat.me.0 c.args.seat.knows _ _ (slots_items c.take-forward.new.self.slots) (ap (λ s. s.knows) c.seat.view_is) c.requires.parts c.requires.rests c.close_with-closed.ensures.values.2 c.take-forward.result c.take-back.result c.take-forward.ensures.value c.take-forward.ensures.others.0 c.take-back.ensures.value)
    c.forward_of.ensures c.back_of.ensures).seen

pub returns-clause-rising : goal.returns-clause-rising
returns-clause-rising g c = (ends_are g.F.Keeps.entries g.F.Keeps.shared g.B.Keeps.entries g.B.Keeps.shared c.args.seat.knows c.take-forward.result c.take-back.result c.forward_of.result c.back_of.result
    (closes g.F.Keeps.entries g.F.Keeps.shared g.B.Keeps.entries g.B.Keeps.shared c.seat.inside.seat.id c.seat.inside.seat.me.0 c.args.seat.knows _ _ (slots_items c.take-forward.new.self.slots) (ap (λ s. s.knows) c.seat.view_is) c.requires.parts c.requires.rests c.close_with-closed.ensures.values.2 c.take-forward.result c.take-back.result c.take-forward.ensures.value c.take-forward.ensures.others.0 c.take-back.ensures.value)
    c.forward_of.ensures c.back_of.ensures).rising
