-- In a session that ended each submission is done.
use Rattle.oi_session_laws.specs.Stays.{fate_at}
use Rattle.std.proofs.Common.{◌≡◌, ℕ, ℤ, suc, zero, Bool, true, false, ◌&&◌, ◌||◌, ◌∙◌, List, [], ◌∷◌, map, ap, subst, sym, refl, Option, Some, if◌then◌else◌}
use Rattle.oi_history.specs.Acceptance.{is_current}
use Rattle.oi_history.specs.Courses.{given_up, is_at_once, is_overdue, phase_step}
use Rattle.oi_history.specs.Meanings.{Meanings, accepted_in, is_current_in, meanings}
use Rattle.oi_history.specs.Permitted.{ArePermitted, StandsBehind}
use Rattle.oi_history.specs.Phases.{ended_by, is_ended}
use Rattle.oi_history.specs.Recovering.{hit_by, hit_in, tasks_step}
use Rattle.oi_history.specs.Tasks.{is_done, told_task}
use Rattle.oi_history.specs.declared.config.SessionConfig.{SessionConfig}
use Rattle.oi_history.specs.declared.event.Event.{Event}
use Rattle.oi_history.specs.declared.event.Event.TheVariants.{PduIn, Deliver, Login, Lost, Tick, Terminate}
use Rattle.oi_history.specs.declared.event.Numbered.{Numbered}
use Rattle.oi_history.specs.declared.fate.Fate.{Fate}
use Rattle.oi_history.specs.declared.fate.Fate.TheVariants.{Waiting, Live, Done}
use Rattle.oi_history.specs.declared.phase.End.{End}
use Rattle.oi_history.specs.declared.phase.Phase.{Phase}
use Rattle.oi_history.specs.declared.phase.Phase.TheVariants.{First, LoggedIn, Recovering, FailFast, Ended}
use Rattle.oi_history.specs.declared.task.Task.{Task}
use Rattle.oi_recovery.specs.declared.hit.Hit.TheVariants.{Ended as ByEnd}
use Rattle.oi_session_laws.specs.Ends.{has_end, is_end}

abbrev pub AreDone : List Task → Type 0
AreDone [] = Unit {0}
AreDone (t ∷ ts) = (is_done t.fate ≡ true) × AreDone ts

pub done-told : (ts : List Task) → AreDone ts → AreDone (map told_task ts)
done-told [] p = tt
done-told (t ∷ ts) p = (p.0, done-told ts p.1)

end_done : (a at : ℕ) (t : Task) (f : Fate) → t.fate ≡ f → is_done (hit_in a at ByEnd t f).fate ≡ true
end_done a at t (Waiting tries) is = refl
end_done a at t (Live generation tag tries) is = refl
end_done a at t (Done outcome n) is = ap is_done is

pub end_all : (a at : ℕ) (ts : List Task) → AreDone (map (hit_by a at ByEnd) ts)
end_all a at [] = tt
end_all a at (t ∷ ts) = (end_done a at t t.fate refl, end_all a at ts)

-- no PDU counts in a session that ended
pub not_current : (generation : ℕ) (p : Phase) (broken : Option _) → is_ended p ≡ true → is_current generation p broken ≡ false
not_current generation (LoggedIn g) broken is = absurd cc
not_current generation First broken is = refl
not_current generation (Recovering since) broken is = refl
not_current generation (FailFast since) broken is = refl
not_current generation (Ended cause) broken is = refl

pub off : (b c : Bool) (xs ys : List Task) → b ≡ false → (if b && c then xs else ys) ≡ ys
off true c xs ys is = absurd cc
off false c xs ys is = refl

-- no way leads to the end but that of its own entry
without_goes_on : (b : Bool) (now : ℕ) → is_ended (if b then FailFast now else Recovering now) ≡ true → ⊥
without_goes_on true now is = cc
without_goes_on false now is = cc

overdue_goes_on : (b : Bool) (since : ℕ) → is_ended (if b then FailFast since else Recovering since) ≡ true → ⊥
overdue_goes_on true since is = cc
overdue_goes_on false since is = cc

tick_goes_on : (replacement : ℤ) (now : ℕ) (p : Phase) → is_ended p ≡ false → is_ended (given_up replacement now p) ≡ true → ⊥
tick_goes_on replacement now (Recovering since) on is = overdue_goes_on (is_overdue replacement now (Recovering since)) since is
tick_goes_on replacement now First on is = cc
tick_goes_on replacement now (LoggedIn generation) on is = cc
tick_goes_on replacement now (FailFast since) on is = cc
tick_goes_on replacement now (Ended cause) on is = cc

-- in a session that ended before an entry, or ends by it, an entry leaves all done
ends_after : (C : SessionConfig) (at : ℕ) (m : Meanings) (e : Event) → StandsBehind m e → (is_ended m.phase ≡ true → AreDone m.tasks)
    → is_ended (phase_step C m.clock e m.phase) ≡ true → AreDone (tasks_step C at (accepted_in e m) m.phase m.handler m.busy e m.tasks)
ends_after C at m (PduIn generation pdu) behind p is =
    let none = off (is_current_in (PduIn generation pdu) m) _ (tasks_step C at true m.phase m.handler m.busy (PduIn generation pdu) m.tasks) m.tasks (not_current generation m.phase m.broken is) in
    subst (λ (ts : List Task). AreDone ts) (sym none) (p is)
ends_after C at m (Deliver count) behind p is = done-told m.tasks (p is)
ends_after C at m (Terminate cause) behind p is = end_all C.tries at m.tasks
ends_after C at m (Login generation params cmdsn max exp_stat) behind p is = absurd cc
ends_after C at m (Lost generation cause) behind p is = absurd (without_goes_on (is_at_once C.replacement) m.clock is)
ends_after C at m (Tick reading) behind p is = absurd (tick_goes_on C.replacement reading m.phase behind is)
ends_after C at m e behind p is = absurd cc

pub ended_done : (C : SessionConfig) (H : List Numbered) → ArePermitted C H → is_ended (meanings C H).phase ≡ true → AreDone (meanings C H).tasks
ended_done C [] legal is = tt
ended_done C (n ∷ H) legal is = ends_after C n.number (meanings C H) n.event legal.0.behind (ended_done C H legal.1) is

done_fate : (id : ℕ) (ts : List Task) (f : Fate) → AreDone ts → fate_at id ts ≡ Some f → is_done f ≡ true
done_fate id [] f p is = absurd cc
done_fate zero (t ∷ ts) f p is = let same : t.fate ≡ f = cc in subst (λ (x : Fate). is_done x ≡ true) same p.0
done_fate (suc id) (t ∷ ts) f p is = done_fate id ts f p.1 is

pub all_done_after_end : (C : SessionConfig) (H : List Numbered) → ArePermitted C H → is_ended (meanings C H).phase ≡ true
    → (id : ℕ) (fate : Fate) → fate_at id (meanings C H).tasks ≡ Some fate → is_done fate ≡ true
all_done_after_end C H legal is id fate there = done_fate id (meanings C H).tasks fate (ended_done C H legal is) there

-- a session is over by the entry that ends it

end_ended : (cause : End) (p : Phase) → is_ended (ended_by cause p) ≡ true
end_ended cause First = refl
end_ended cause (LoggedIn generation) = refl
end_ended cause (Recovering since) = refl
end_ended cause (FailFast since) = refl
end_ended cause (Ended first) = refl

without_on : (b : Bool) (now : ℕ) → is_ended (if b then FailFast now else Recovering now) ≡ false
without_on true now = refl
without_on false now = refl

tick_on : (replacement : ℤ) (now : ℕ) (p : Phase) → is_ended (given_up replacement now p) ≡ is_ended p
tick_on replacement now (Recovering since) = without_on (is_overdue replacement now (Recovering since)) since
tick_on replacement now First = refl
tick_on replacement now (LoggedIn generation) = refl
tick_on replacement now (FailFast since) = refl
tick_on replacement now (Ended cause) = refl

over_after : (C : SessionConfig) (m : Meanings) (e : Event) (b : Bool) → StandsBehind m e → is_ended m.phase ≡ b → is_ended (phase_step C m.clock e m.phase) ≡ (is_end e || b)
over_after C m (Terminate cause) b behind is = end_ended cause m.phase
over_after C m (Login generation params cmdsn max exp_stat) b behind is = sym behind ∙ is
over_after C m (Lost generation cause) b behind is = without_on (is_at_once C.replacement) m.clock ∙ (sym behind ∙ is)
over_after C m (Tick reading) b behind is = tick_on C.replacement reading m.phase ∙ is
over_after C m e b behind is = is

pub over_by_end : (C : SessionConfig) (H : List Numbered) → ArePermitted C H → is_ended (meanings C H).phase ≡ has_end H
over_by_end C [] legal = refl
over_by_end C (n ∷ H) legal = over_after C (meanings C H) n.event (has_end H) legal.0.behind (over_by_end C H legal.1)
