use Rattle.std.proofs.Common.{◌≡◌, ◌∙◌, ℕ, false, ap, max, subst, sym}
use Rattle.oi_history.specs.Meanings.{Meanings}
use Rattle.oi_history.specs.Permitted.{IsPermitted}
use Rattle.oi_history.specs.Phases.{is_ended}
use Rattle.oi_history.specs.declared.event.Event.TheVariants.{Tick}
use Rattle.oi_solo.proofs.Allowed.{ticks}
use Rattle.oi_solo.specs.Cores.{next_entry, session_of}
use Rattle.oi_solo.specs.Sessions.{now_of}
use Rattle.oi_solo.proofs.asking.tick.Goals as goal

pub enter-requires-clause-permitted : goal.enter-requires-clause-permitted
enter-requires-clause-permitted c =
    let s = session_of c.args.kept.now in
    let phase = c.phase.ensures ∙ ap (λ (m : Meanings). m.phase) c.requires.kept.now in
    let going : is_ended (now_of s).phase ≡ false = sym (c.is_ended.ensures ∙ ap is_ended phase) ∙ c.if-is_ended.false in
    let reading : c.max-now.result ≡ max c.args.now (now_of s).clock = c.max-now.ensures ∙ ap (λ (m : ℕ). max c.args.now m) (c.clock.ensures ∙ ap (λ (m : Meanings). m.clock) c.requires.kept.now) in
    subst (λ (m : ℕ). IsPermitted s.config s.history (next_entry s (Tick m))) (sym reading) (ticks s c.args.now c.requires.kept.legal c.requires.kept.numbered c.requires.now going)
