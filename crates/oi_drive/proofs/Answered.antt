-- A closed run has answered each of its submissions.
use Rattle.std.proofs.Common.{◌≡◌, ◌∙◌, ◌++◌, ◌<◌, ◌+◌, ℕ, true, false, List, [], ◌∷◌, length, map, refl, ap, sym, subst, arith, nat_eq, nat_lt, Bool, Result, Ok, Err, OnOk, if◌then◌else◌}
use Rattle.std.proofs.lemmas.Bool.Decides.{nat_tests}
use Rattle.oi_drive.specs.Answered.{AreAnswered, AreDecidedRuns, AreOnce}
use Rattle.oi_drive.specs.Deeds.{Deed, due_of_session, hands_out, hands_out_by, nothing}
use Rattle.oi_history.specs.Permitted.{ArePermitted}
use Rattle.oi_history.specs.Phases.{is_ended}
use Rattle.oi_history.specs.Tasks.{due_from, due_in, due_of, told_task}
use Rattle.oi_history.specs.declared.fate.Delivered.{Delivered}
use Rattle.oi_history.specs.declared.fate.Fate.{Fate}
use Rattle.oi_history.specs.declared.fate.Fate.TheVariants.{Waiting, Live, Done}
use Rattle.oi_history.specs.declared.task.Task.{Task}
use Rattle.oi_outcome_laws.specs.Outcomes.{OutcomesAreDecided}
use Rattle.oi_session_laws.specs.Answers.{AtMostOnce, ExactlyOnce, IdsInOrder}
use Rattle.oi_solo.specs.Sessions.{RunView, Session, entered_all, now_of, run_of}

none_of : (base : ℕ) (t : Task) (f : Fate) → t.fate ≡ f → due_of base (told_task t) f ≡ []
none_of base t (Waiting tries) is = refl
none_of base t (Live generation tag tries) is = refl
none_of base t (Done outcome at) is = rw is refl

none_told : (base : ℕ) (ts : List Task) → due_from base (map told_task ts) ≡ []
none_told base [] = refl
none_told base (t ∷ ts) = ap (λ (ds : List Delivered). ds ++ due_from (base + 1) (map told_task ts)) (none_of base t t.fate refl) ∙ none_told (base + 1) ts

pub same_count : (a b : ℕ) → nat_eq a b ≡ true → a ≡ b
same_count a b is = grind (arith, nat_tests)

no_element : (ds : List Delivered) → nat_eq (length ds) 0 ≡ true → ds ≡ []
no_element [] is = refl
no_element (d ∷ ds) is = let none : length (d ∷ ds) ≡ 0 = same_count (length (d ∷ ds)) 0 is in absurd (omega (arith, none))

due_by : (b : Bool) (s : Session) → is_ended (now_of s).phase ≡ true → nat_eq (length (due_of_session s)) 0 ≡ b
    → due_in (now_of (entered_all s (let d : Deed = if b then nothing else hands_out_by (is_ended (now_of s).phase) s (due_of_session s) in d).entries)).tasks ≡ []
due_by true s over is = no_element (due_of_session s) is
due_by false s over is =
    subst (λ (b : Bool). due_in (now_of (entered_all s (hands_out_by b s (due_of_session s)).entries)).tasks ≡ []) (sym over) (none_told 0 (now_of s).tasks)

-- behind the last delivery nothing is due
pub nothing_due : (s : Session) → is_ended (now_of s).phase ≡ true → due_in (now_of (entered_all s (hands_out s).entries)).tasks ≡ []
nothing_due s over = due_by (nat_eq (length (due_of_session s)) 0) s over refl

-- what follows from an answer that is Ok
pub ok_then : {T E : Type 0} (r : Result T E) (P Q : Type 0) → (P → Q) → OnOk r P → OnOk r Q
ok_then (Ok x) P Q f p = f p
ok_then (Err e) P Q f p = tt

pub once_of : AtMostOnce → (s : Session) (runs : List RunView) → runs ≡ run_of s ∷ [] → ArePermitted s.config s.history → AreOnce runs
once_of law s runs is legal = subst (λ (rs : List RunView). AreOnce rs) (sym is) (λ id. law s.config s.history legal id, tt)

pub decided_of : OutcomesAreDecided → (s : Session) (runs : List RunView) → runs ≡ run_of s ∷ [] → ArePermitted s.config s.history → AreDecidedRuns runs
decided_of law s runs is legal =
    subst (λ (rs : List RunView). AreDecidedRuns rs) (sym is) (record { history = s.history; is = refl; decided = law s.config s.history legal }, tt)

less_test : (a b : ℕ) → a < b → nat_lt a b ≡ true
less_test a b h = grind (arith, nat_tests)

pub answered_of : ExactlyOnce → IdsInOrder → (s : Session) (runs : List RunView) → runs ≡ run_of s ∷ [] → ArePermitted s.config s.history → is_ended (now_of s).phase ≡ true → due_in (now_of s).tasks ≡ [] → AreAnswered runs
answered_of once order s runs is legal ended none =
    subst (λ (rs : List RunView). AreAnswered rs) (sym is)
    (record { session = s; is = refl; once = λ id less. once s.config s.history legal ended none id (order s.config s.history legal id ∙ less_test id _ less) }, tt)
