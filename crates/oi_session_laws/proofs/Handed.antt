-- A submission is handed out as often as it is told: at most once.
use Rattle.oi_session_laws.proofs.Told.{AreSound, done_at, due_all, more_of_none, times-append, told_at}
use Rattle.std.proofs.Common.{◌≡◌, ◌<◌, ◌≤◌, ◌+◌, ◌∙◌, ◌&&◌, ◌||◌, ℕ, suc, zero, Bool, true, false, List, [], ◌∷◌, length, map, ap, subst, sym, refl, arith}
use Rattle.oi_base.specs.Counts.{bit}
use Rattle.oi_history.specs.Meanings.{Meanings, accepted_in, handed_in, handed_so_far, is_current_in, meanings}
use Rattle.oi_history.specs.Permitted.{ArePermitted, IsNextCommand, StandsBehind}
use Rattle.oi_history.specs.Phases.{is_ended}
use Rattle.oi_history.specs.Recovering.{tasks_step}
use Rattle.oi_history.specs.Tasks.{due_in, is_done, told_task}
use Rattle.oi_history.specs.declared.config.SessionConfig.{SessionConfig}
use Rattle.oi_history.specs.declared.event.Event.{Event}
use Rattle.oi_history.specs.declared.event.Event.TheVariants.{PduIn, Deliver}
use Rattle.oi_history.specs.declared.event.Numbered.{Numbered}
use Rattle.oi_history.specs.declared.fate.Fate.{Fate}
use Rattle.oi_history.specs.declared.fate.Fate.TheVariants.{Waiting, Live, Done}
use Rattle.oi_history.specs.declared.fate.Outcome.{Outcome}
use Rattle.oi_history.specs.declared.task.Task.{Task}
use Rattle.oi_session_laws.proofs.Counted.{ids_in_order}
use Rattle.oi_session_laws.proofs.Ends.{ended_done, not_current, off, over_by_end, AreDone}
use Rattle.oi_session_laws.proofs.Moved.{AreMoved, AreNew, hands_out, lt_from_test, moved_after}
use Rattle.oi_session_laws.specs.Answers.{hands_behind_end, is_handing, was_submitted, times}
use Rattle.oi_session_laws.specs.Ends.{has_end, is_end}

-- one that was handed out is done

done_stays : (f g : Fate) → ((outcome : Outcome) (at : ℕ) → f ≡ Done outcome at → g ≡ Done outcome at) → is_done f ≡ true → is_done g ≡ true
done_stays (Waiting tries) g keeps is = absurd cc
done_stays (Live generation tag tries) g keeps is = absurd cc
done_stays (Done outcome at) g keeps is = ap is_done (keeps outcome at refl)

sound-new : (a : ℕ) (us : List Task) → AreNew a us → AreSound us
sound-new a [] new = tt
sound-new a (u ∷ us) new = (record { done = λ told. let not : u.told ≡ false = new.0.told in absurd cc }, sound-new a us new.1)

sound-moved : (e : Event) (a : ℕ) (ts us : List Task) → hands_out e ≡ false → AreMoved e a ts us → AreSound ts → AreSound us
sound-moved e a [] us quiet m sound = sound-new a us m
sound-moved e a (t ∷ ts) [] quiet m sound = absurd m
sound-moved e a (t ∷ ts) (u ∷ us) quiet m sound =
    (record { done = λ told. done_stays t.fate u.fate m.0.done (sound.0.done (sym (m.0.told quiet) ∙ told)) }, sound-moved e a ts us quiet m.1 sound.1)

sound-told : (ts : List Task) → AreSound (map told_task ts)
sound-told [] = tt
sound-told (t ∷ ts) = (record { done = λ told. told }, sound-told ts)

sound_after : (C : SessionConfig) (at : ℕ) (m : Meanings) (accepted : Bool) (e : Event) → IsNextCommand C m e → AreSound m.tasks
    → AreSound (tasks_step C at accepted m.phase m.handler m.busy e m.tasks)
sound_after C at m accepted (Deliver count) next sound = sound-told m.tasks
sound_after C at m accepted e next sound = sound-moved e C.tries m.tasks _ refl (moved_after C at m accepted e next) sound

-- an entry hands out what it tells

told-new : (a id : ℕ) (us : List Task) → AreNew a us → told_at id us ≡ 0
told-new a id [] new = refl
told-new a zero (u ∷ us) new = ap bit new.0.told
told-new a (suc id) (u ∷ us) new = told-new a id us new.1

told-moved : (e : Event) (a id : ℕ) (ts us : List Task) → hands_out e ≡ false → AreMoved e a ts us → told_at id us ≡ told_at id ts
told-moved e a id [] us quiet m = told-new a id us m
told-moved e a id (t ∷ ts) [] quiet m = absurd m
told-moved e a zero (t ∷ ts) (u ∷ us) quiet m = ap bit (m.0.told quiet)
told-moved e a (suc id) (t ∷ ts) (u ∷ us) quiet m = told-moved e a id ts us quiet m.1

told_done : (id : ℕ) (ts : List Task) → told_at id (map told_task ts) ≡ done_at id ts
told_done id [] = refl
told_done zero (t ∷ ts) = refl
told_done (suc id) (t ∷ ts) = told_done id ts

handed_told : (C : SessionConfig) (at : ℕ) (m : Meanings) (accepted : Bool) (e : Event) (id : ℕ) → IsNextCommand C m e → AreSound m.tasks
    → times id (handed_in e m) + told_at id m.tasks ≡ told_at id (tasks_step C at accepted m.phase m.handler m.busy e m.tasks)
handed_told C at m accepted (Deliver count) id next sound = due_all id id 0 m.tasks (omega arith) sound ∙ sym (told_done id m.tasks)
handed_told C at m accepted e id next sound = more_of_none _ _ (told-moved e C.tries id m.tasks _ refl (moved_after C at m accepted e next))

pub record IsHanded (C : SessionConfig) (H : List Numbered) : Type 0 where
  pub sound : AreSound (meanings C H).tasks
  pub told : (id : ℕ) → times id (handed_so_far C H) ≡ told_at id (meanings C H).tasks

pub handed : (C : SessionConfig) (H : List Numbered) → ArePermitted C H → IsHanded C H
handed C [] legal = record { sound = tt; told = λ id. refl }
handed C (n ∷ H) legal =
    let before = handed C H legal.1 in
    record {
      sound = sound_after C n.number (meanings C H) (accepted_in n.event (meanings C H)) n.event legal.0.command before.sound;
      told = λ id.
          let split = times-append id (handed_so_far C H) (handed_in n.event (meanings C H)) in
          let step = handed_told C n.number (meanings C H) (accepted_in n.event (meanings C H)) n.event id legal.0.command before.sound in
          let was = before.told id in
          omega (arith, split, step, was);
    }

bit_small : (b : Bool) → bit b ≤ 1
bit_small true = omega arith
bit_small false = omega arith

told_small : (id : ℕ) (ts : List Task) → told_at id ts ≤ 1
told_small id [] = omega arith
told_small zero (t ∷ ts) = bit_small t.told
told_small (suc id) (t ∷ ts) = told_small id ts

pub at_most_once : (C : SessionConfig) (H : List Numbered) → ArePermitted C H → (id : ℕ) → times id (handed_so_far C H) ≤ 1
at_most_once C H legal id = let is = (handed C H legal).told id in let small = told_small id (meanings C H).tasks in omega (arith, is, small)

-- where nothing is due

known : (C : SessionConfig) (H : List Numbered) (id : ℕ) → ArePermitted C H → was_submitted id H ≡ true → id < length (meanings C H).tasks
known C H id legal is = lt_from_test id (length (meanings C H).tasks) (sym (ids_in_order C H legal id) ∙ is)

done_one : (id : ℕ) (ts : List Task) → AreDone ts → id < length ts → done_at id ts ≡ 1
done_one id [] p less = absurd (omega (arith, less))
done_one zero (t ∷ ts) p less = ap bit p.0
done_one (suc id) (t ∷ ts) p less = done_one id ts p.1 (omega (arith, less))

pub exactly_once : (C : SessionConfig) (H : List Numbered) → ArePermitted C H → is_ended (meanings C H).phase ≡ true → due_in (meanings C H).tasks ≡ []
    → (id : ℕ) → was_submitted id H ≡ true → times id (handed_so_far C H) ≡ 1
exactly_once C H legal is none id submitted =
    let before = handed C H legal in
    let told = before.told id in
    let due = due_all id id 0 (meanings C H).tasks (omega arith) before.sound in
    let nothing = ap (times id) none in
    let one = done_one id (meanings C H).tasks (ended_done C H legal is) (known C H id legal submitted) in
    omega (arith, told, due, nothing, one)

-- where outcomes were handed out behind the end

end_is_there : (C : SessionConfig) (H : List Numbered) → ArePermitted C H → has_end H ≡ true → is_ended (meanings C H).phase ≡ true
end_is_there C H legal is = over_by_end C H legal ∙ is

end_behind : (x b c : Bool) → (c ≡ true → b ≡ true) → ((x && b) || c) ≡ true → b ≡ true
end_behind true true c p is = refl
end_behind true false c p is = p is
end_behind false b c p is = p is

either : (x b : Bool) → b ≡ true → (x || b) ≡ true
either true b is = refl
either false b is = is

has_end_behind : (H : List Numbered) → hands_behind_end H ≡ true → has_end H ≡ true
has_end_behind [] is = absurd cc
has_end_behind (n ∷ H) is = either (is_end n.event) (has_end H) (end_behind (is_handing n.event) (has_end H) (hands_behind_end H) (has_end_behind H) is)

earlier : (x b c : Bool) → x ≡ false → ((x && b) || c) ≡ true → c ≡ true
earlier true b c not is = absurd cc
earlier false b c not is = is

abbrev pub AreTold : List Task → Type 0
AreTold [] = Unit {0}
AreTold (t ∷ ts) = (t.told ≡ true) × AreTold ts

told-all : (ts : List Task) → AreDone ts → AreTold (map told_task ts)
told-all [] p = tt
told-all (t ∷ ts) p = (p.0, told-all ts p.1)

told_after : (C : SessionConfig) (at : ℕ) (m : Meanings) (e : Event) → StandsBehind m e → is_ended m.phase ≡ true → AreDone m.tasks → (is_handing e ≡ false → AreTold m.tasks)
    → AreTold (tasks_step C at (accepted_in e m) m.phase m.handler m.busy e m.tasks)
told_after C at m (Deliver count) behind is done told = told-all m.tasks done
told_after C at m (PduIn generation pdu) behind is done told =
    let none = off (is_current_in (PduIn generation pdu) m) _ (tasks_step C at true m.phase m.handler m.busy (PduIn generation pdu) m.tasks) m.tasks (not_current generation m.phase m.broken is) in
    subst (λ (ts : List Task). AreTold ts) (sym none) (told refl)
told_after C at m e behind is done told = absurd cc

all_told : (C : SessionConfig) (H : List Numbered) → ArePermitted C H → hands_behind_end H ≡ true → AreTold (meanings C H).tasks
all_told C [] legal is = absurd cc
all_told C (n ∷ H) legal is =
    let end = end_is_there C H legal.1 (end_behind (is_handing n.event) (has_end H) (hands_behind_end H) (has_end_behind H) is) in
    told_after C n.number (meanings C H) n.event legal.0.behind end (ended_done C H legal.1 end)
    (λ not. all_told C H legal.1 (earlier (is_handing n.event) (has_end H) (hands_behind_end H) not is))

told_one : (id : ℕ) (ts : List Task) → AreTold ts → id < length ts → told_at id ts ≡ 1
told_one id [] p less = absurd (omega (arith, less))
told_one zero (t ∷ ts) p less = ap bit p.0
told_one (suc id) (t ∷ ts) p less = told_one id ts p.1 (omega (arith, less))

pub once_behind_end : (C : SessionConfig) (H : List Numbered) → ArePermitted C H → hands_behind_end H ≡ true → (id : ℕ) → was_submitted id H ≡ true → times id (handed_so_far C H) ≡ 1
once_behind_end C H legal is id submitted = (handed C H legal).told id ∙ told_one id (meanings C H).tasks (all_told C H legal is) (known C H id legal submitted)
