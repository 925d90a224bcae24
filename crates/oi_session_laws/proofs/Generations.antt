-- A PDU of another connection changes nothing.
use Rattle.std.proofs.Common.{◌≡◌, ◌∙◌, ℕ, ℤ, Bool, true, false, List, [], ◌∷◌, sym, refl, append-nil, if◌then◌else◌}
use Rattle.oi_history.specs.Courses.{given_up, is_at_once, is_overdue, phase_step}
use Rattle.oi_history.specs.Locks.{is_task_response}
use Rattle.oi_history.specs.Meanings.{Meanings, handed_so_far, meanings, step, tag_over, tags_over}
use Rattle.oi_history.specs.Phases.{ended_by, generation_after, is_logged_in}
use Rattle.oi_history.specs.declared.config.SessionConfig.{SessionConfig}
use Rattle.oi_history.specs.declared.event.Event.{Event}
use Rattle.oi_history.specs.declared.event.Event.TheVariants.{PduIn, Login, Lost, Tick, Terminate}
use Rattle.oi_history.specs.declared.event.Numbered.{Numbered}
use Rattle.oi_history.specs.declared.fate.Fate.{Fate}
use Rattle.oi_history.specs.declared.fate.Fate.TheVariants.{Waiting, Live, Done}
use Rattle.oi_history.specs.declared.owed.Told.{Told}
use Rattle.oi_history.specs.declared.phase.End.{End}
use Rattle.oi_history.specs.declared.phase.Phase.{Phase}
use Rattle.oi_history.specs.declared.phase.Phase.TheVariants.{First, LoggedIn, Recovering, FailFast, Ended}
use Rattle.oi_history.specs.declared.task.Task.{Task}
use Rattle.oi_pdu.specs.declared.codec.Pdu.{Pdu}
use Rattle.oi_session_laws.proofs.TagCounts.{other_test, same_test}
use Rattle.oi_session_laws.specs.Generations.{retold}

-- the connection of a session that is logged in is that of its last login
abbrev pub IsLast : ℕ → Phase → Type 0
IsLast generation (LoggedIn g) = g ≡ generation
IsLast generation p = Unit {0}

last_without : (generation : ℕ) (b : Bool) (now : ℕ) → IsLast generation (if b then FailFast now else Recovering now)
last_without generation true now = tt
last_without generation false now = tt

last_tick : (generation : ℕ) (replacement : ℤ) (now : ℕ) (p : Phase) → IsLast generation p → IsLast generation (given_up replacement now p)
last_tick generation replacement now (Recovering since) is = last_without generation (is_overdue replacement now (Recovering since)) since
last_tick generation replacement now First is = is
last_tick generation replacement now (LoggedIn g) is = is
last_tick generation replacement now (FailFast since) is = is
last_tick generation replacement now (Ended cause) is = is

last_end : (generation : ℕ) (cause : End) (p : Phase) → IsLast generation (ended_by cause p)
last_end generation cause First = tt
last_end generation cause (LoggedIn g) = tt
last_end generation cause (Recovering since) = tt
last_end generation cause (FailFast since) = tt
last_end generation cause (Ended first) = tt

last_after : (C : SessionConfig) (m : Meanings) (e : Event) → IsLast m.generation m.phase → IsLast (generation_after e m.generation) (phase_step C m.clock e m.phase)
last_after C m (Login generation params cmdsn max exp_stat) is = refl
last_after C m (Lost generation cause) is = last_without m.generation (is_at_once C.replacement) m.clock
last_after C m (Tick reading) is = last_tick m.generation C.replacement reading m.phase is
last_after C m (Terminate cause) is = last_end m.generation cause m.phase
last_after C m e is = is

pub last_login : (C : SessionConfig) (H : List Numbered) → IsLast (meanings C H).generation (meanings C H).phase
last_login C [] = tt
last_login C (n ∷ H) = last_after C (meanings C H) n.event (last_login C H)

not_on : (generation g : ℕ) (p : Phase) → (generation ≡ g → ⊥) → IsLast g p → is_logged_in p generation ≡ false
not_on generation g First differs is = refl
not_on generation g (LoggedIn mine) differs is = other_test mine generation (λ same. differs (sym same ∙ is))
not_on generation g (Recovering since) differs is = refl
not_on generation g (FailFast since) differs is = refl
not_on generation g (Ended cause) differs is = refl

-- no tag ends where no submission changes
pub none_over : (f : Fate) → tag_over f f ≡ []
none_over (Waiting tries) = refl
none_over (Live generation tag tries) = rw (same_test tag.0) refl
none_over (Done outcome at) = refl

pub no_tags_over : (ts : List Task) → tags_over ts ts ≡ []
no_tags_over [] = refl
no_tags_over (t ∷ ts) = rw (none_over t.fate, no_tags_over ts) refl

told_once : (b : Bool) (x y : Told) → (if (if b then true else false) then x else y) ≡ (if b then x else y)
told_once true x y = refl
told_once false x y = refl

silent : (C : SessionConfig) (at generation : ℕ) (pdu : Pdu) (m : Meanings) → is_logged_in m.phase generation ≡ false → step C (PduIn generation pdu) at m ≡ retold pdu.head m
silent C at generation pdu m off = rw (off, no_tags_over m.tasks, append-nil m.ended, told_once (is_task_response pdu.head)) refl

pub stale_changes_nothing : (C : SessionConfig) (H : List Numbered) (number generation : ℕ) (pdu : Pdu) → (generation ≡ (meanings C H).generation → ⊥)
    → (meanings C (record { number = number; event = PduIn generation pdu } ∷ H) ≡ retold pdu.head (meanings C H))
    × (handed_so_far C (record { number = number; event = PduIn generation pdu } ∷ H) ≡ handed_so_far C H)
stale_changes_nothing C H number generation pdu differs =
    (silent C number generation pdu (meanings C H) (not_on generation (meanings C H).generation (meanings C H).phase differs (last_login C H)), append-nil (handed_so_far C H))
