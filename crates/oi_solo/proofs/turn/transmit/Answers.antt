use Rattle.std.proofs.Common.{◌∙◌, Option, subst, sym}
use Rattle.oi_history.specs.declared.owing.Owed.{Owed}
use Rattle.oi_solo.proofs.Turning.{can_turn, on_now}
use Rattle.oi_solo.specs.Cores.{CanTurn}
use Rattle.oi_solo.proofs.turn.transmit.Goals as goal

pub spent_turn-requires-clause-on : goal.spent_turn-requires-clause-on
spent_turn-requires-clause-on c = on_now c.args.kept.now c.args.generation c.requires.kept c.requires.on

pub send-requires : goal.send-requires
send-requires c =
    let new = c.prepare.new.kept in
    let ready = c.in_ok-prepare.ensures in
    let can = can_turn c.args.kept.now new c.in_ok-owed.owed c.requires.kept (on_now c.args.kept.now c.args.generation c.requires.kept c.requires.on) c.in_ok-owed.ensures (sym c.in_ok-load.ensures ∙ c.in_default.is)
    (record { kept = ready.kept; config = ready.config; now = ready.now; room = ready.room; events = ready.events }) in
    subst (λ (o : Option Owed). CanTurn new o) c.in-Some-owed.is can
