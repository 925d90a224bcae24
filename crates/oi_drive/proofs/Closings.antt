-- A run whose input was read and that was closed is the run of its bytes.
use Rattle.std.proofs.Common.{◌≡◌, ◌∙◌, ◌⊎◌, inl, inr, ◌==◌, ℕ, Bool, true, false, true≢false, List, [], ◌∷◌, ◌++◌, suc, zero, length, take, nat_eq, Option, Some, None, is_some, sym, ap, subst, refl, arith, ◌<◌, ◌≤◌, if◌then◌else◌}
use Rattle.std.proofs.lemmas.Bool.Decides.{nat_tests}
use Rattle.oi_base.specs.Counts.{Rose}
use Rattle.oi_base.specs.Limits.{input_limit}
use Rattle.oi_drive.proofs.Outputs.{behind-append}
use Rattle.oi_drive.specs.Parts.{BrokeOff}
use Rattle.oi_drive.proofs.Requests.{broken_asks, whole_asks}
use Rattle.oi_history.specs.declared.phase.End.TheVariants.{Stopped}
use Rattle.oi_drive.proofs.Answered.{same_count}
use Rattle.oi_drive.specs.Endings.{Closes, ClosesBroken, ClosesPartly, FailedBy, HasCause, IsDrive, IsEndedBy, IsLeft, IsShown, broken_status, cause_of, closed_by, drive_world, end_text, first_world, is_mild, is_status, status_of, terminated}
use Rattle.oi_drive.specs.declared.runner.Stop.{Stop}
use Rattle.oi_drive.specs.declared.runner.Stop.TheVariants.{Asked, InputEnd, BadLine, Full}
use Rattle.oi_drive.specs.Inputs.{BreaksBy, Finishes, rest_text, rest_world}
use Rattle.oi_drive.specs.Acts.{IsPart}
use Rattle.oi_drive.specs.Deeds.{Deed, due_of_session, fails, hands_out, hands_out_by, nothing, outcome_lines}
use Rattle.oi_drive.specs.Worlds.{World}
use Rattle.oi_drive.specs.declared.answer.Answer.TheVariants.{Done, Spent}
use Rattle.oi_history.specs.Phases.{is_ended}
use Rattle.oi_history.specs.declared.event.Event.{Event}
use Rattle.oi_history.specs.declared.event.Event.TheVariants.{Deliver}
use Rattle.oi_history.specs.declared.fate.Delivered.{Delivered}
use Rattle.oi_history.specs.declared.phase.End.{End}
use Rattle.oi_solo.specs.Limits.{spent_by}
use Rattle.oi_drive.specs.declared.runner.Broken.{Broken}
use Rattle.oi_drive.specs.declared.runner.Broken.TheVariants.{Memory, Read, Write}
use Rattle.oi_outside.specs.Streams.{IsFront, behind}
use Rattle.oi_solo.specs.Sessions.{Session, entered_all, now_of, run_of}

drives : (bytes : List ℕ) (w : World) (session : Session) (status : ℕ) (held0 held1 held : Option (List ℕ)) (sink1 sink : ℕ) → w ≡ drive_world bytes → held1 ≡ behind held0 (rest_text input_limit first_world bytes)
    → Closes w session status held1 held sink1 sink → (Rose sink1 sink → ⊥) → (status ≡ 3 → ⊥) → IsDrive bytes status (run_of session ∷ []) held0 held
drives bytes w session status held0 held1 held sink1 sink same wrote closes quiet memory = record {
  run = ap (λ (s : Session). run_of s ∷ []) (closes.session_is memory ∙ ap (λ (z : World). closed_by (cause_of z.stop) z.session) same);
  text =
      closes.text quiet memory ∙ (ap (λ (h : Option (List ℕ)). behind h (end_text w)) wrote
      ∙ (behind-append held0 (rest_text input_limit first_world bytes) (end_text w)
      ∙ ap (λ (z : World). behind held0 (rest_text input_limit first_world bytes ++ end_text z)) same));
  status_is = closes.status_is quiet memory ∙ ap (λ (z : World). status_of z.stop z.refused) same;
}

pub closes_exact : (left0 : Option (List ℕ)) (w0 w : World) (session : Session) (status : ℕ) (held0 held1 held : Option (List ℕ)) (sink0 sink1 sink : ℕ) → w0 ≡ first_world
    → Finishes input_limit left0 w0 w held0 held1 → sink1 ≡ sink0 → Closes w session status held1 held sink1 sink
    → (bytes : List ℕ) → left0 ≡ Some bytes → (Rose sink0 sink → ⊥) → (status ≡ 3 → ⊥) → IsDrive bytes status (run_of session ∷ []) held0 held
closes_exact left0 w0 w session status held0 held1 held sink0 sink1 sink first finishes unmoved closes bytes is quiet memory =
    drives bytes w session status held0 held1 held sink1 sink (finishes.world bytes is ∙ ap (λ (z : World). rest_world input_limit z bytes) first)
    (finishes.text bytes is ∙ ap (λ (z : World). behind held0 (rest_text input_limit z bytes)) first)
    closes (λ r. quiet (subst (λ n. Rose n sink) unmoved r)) memory

pub closes_cause : (w : World) (session : Session) (status : ℕ) (held1 held : Option (List ℕ)) (source0 source sink0 sink1 sink : ℕ) → source ≡ source0 → sink1 ≡ sink0
    → Closes w session status held1 held sink1 sink → HasCause status source0 source sink0 sink
closes_cause w session status held1 held source0 source sink0 sink1 sink same unmoved closes = record {
  read = λ is. absurd (closes.read is);
  write = λ is. subst (λ n. Rose n sink) unmoved (closes.write is);
  clean = λ is. (same, closes.clean is ∙ unmoved);
  refused = λ is. (same, closes.refused is ∙ unmoved);
}

-- a status that was decided is known
status_known : (o : Option Stop) (r : Bool) → is_status (status_of o r) ≡ true
status_known (Some (BadLine line)) r = refl
status_known (Some (Full line)) r = refl
status_known (Some Asked) true = refl
status_known (Some Asked) false = refl
status_known (Some InputEnd) true = refl
status_known (Some InputEnd) false = refl
status_known None true = refl
status_known None false = refl

-- a number is this one, or it is not
other_count : (a b : ℕ) → nat_eq a b ≡ false → a ≡ b → ⊥
other_count a b other is = absurd (true≢false (sym (eqb_same a b is) ∙ other))
  where
    eqb_same : (a b : ℕ) → a ≡ b → nat_eq a b ≡ true
    eqb_same a b is = grind (arith, nat_tests)

is_or_not : (a b : ℕ) → (a ≡ b) ⊎ (a ≡ b → ⊥)
is_or_not a b = by (nat_eq a b) refl
  where
    by : (t : Bool) → nat_eq a b ≡ t → (a ≡ b) ⊎ (a ≡ b → ⊥)
    by true is = inl (same_count a b is)
    by false is = inr (other_count a b is)

-- it gives way where it is 0 or 35
gives_way : (o : Option Stop) (r : Bool) (status : ℕ) → status ≡ 31 → ((status_of o r ≡ 0 → ⊥) → (status_of o r ≡ 35 → ⊥) → status ≡ status_of o r) → is_mild (status_of o r) ≡ true
gives_way (Some (BadLine line)) r status is fatal =
    let same : status ≡ 7 = fatal (other_count 7 0 refl) (other_count 7 35 refl) in absurd (other_count 31 7 refl (sym is ∙ same))
gives_way (Some (Full line)) r status is fatal =
    let same : status ≡ 34 = fatal (other_count 34 0 refl) (other_count 34 35 refl) in absurd (other_count 31 34 refl (sym is ∙ same))
gives_way (Some Asked) true status is fatal = refl
gives_way (Some Asked) false status is fatal = refl
gives_way (Some InputEnd) true status is fatal = refl
gives_way (Some InputEnd) false status is fatal = refl
gives_way None true status is fatal = refl
gives_way None false status is fatal = refl

shown : (w : World) (session : Session) (status : ℕ) (held1 held : Option (List ℕ)) (sink0 sink1 sink : ℕ) → sink1 ≡ sink0 → Closes w session status held1 held sink1 sink → (status ≡ 3 → ⊥)
    → IsShown (status_of w.stop w.refused) status sink0 sink
shown w session status held1 held sink0 sink1 sink unmoved closes memory = by (is_or_not status 31)
  where
    by : (status ≡ 31) ⊎ (status ≡ 31 → ⊥) → IsShown (status_of w.stop w.refused) status sink0 sink
    by (inl is) = inr (is, gives_way w.stop w.refused status is (closes.fatal memory), subst (λ n. Rose n sink) unmoved (closes.write is))
    by (inr other) = inl (closes.others memory other)

-- the status of a run that read its input is known
pub closes_known : (w : World) (session : Session) (status : ℕ) (held1 held : Option (List ℕ)) (sink1 sink : ℕ) → Closes w session status held1 held sink1 sink → is_status status ≡ true
closes_known w session status held1 held sink1 sink closes = by (is_or_not status 3)
  where
    by_shown : IsShown (status_of w.stop w.refused) status sink1 sink → is_status status ≡ true
    by_shown (inl is) = ap is_status is ∙ status_known w.stop w.refused
    by_shown (inr failed) = ap is_status failed.0

    by : (status ≡ 3) ⊎ (status ≡ 3 → ⊥) → is_status status ≡ true
    by (inl is) = ap is_status is
    by (inr memory) = by_shown (shown w session status held1 held sink1 sink1 sink refl closes memory)

-- and that of a run that broke
pub broken_known : (b : Broken) (status : ℕ) → ((status ≡ 3 → ⊥) → status ≡ broken_status b) → is_status status ≡ true
broken_known b status decided = by (is_or_not status 3)
  where
    known : (b : Broken) → is_status (broken_status b) ≡ true
    known Memory = refl
    known Read = refl
    known Write = refl

    by : (status ≡ 3) ⊎ (status ≡ 3 → ⊥) → is_status status ≡ true
    by (inl is) = ap is_status is
    by (inr memory) = ap is_status (decided memory) ∙ known b

pub broken_exact : (b : Broken) (status source0 source sink0 sink1 sink : ℕ) (P : Type 0) → BreaksBy b source0 source sink0 sink1 → ((status ≡ 3 → ⊥) → status ≡ broken_status b) → (b ≡ Write → sink ≡ sink1)
    → (Rose source0 source → ⊥) → (Rose sink0 sink → ⊥) → (status ≡ 3 → ⊥) → P
broken_exact Memory status source0 source sink0 sink1 sink P breaks is kept calm quiet memory = absurd (memory (is memory))
broken_exact Read status source0 source sink0 sink1 sink P breaks is kept calm quiet memory = absurd (calm breaks.0)
broken_exact Write status source0 source sink0 sink1 sink P breaks is kept calm quiet memory = absurd (quiet (subst (λ n. Rose sink0 n) (sym (kept refl)) breaks.0))

-- one status is not another
not_3_30 : (P : Type 0) (status : ℕ) → status ≡ 3 → status ≡ 30 → P
not_3_30 P status p q = absurd (omega arith)

not_3_31 : (P : Type 0) (status : ℕ) → status ≡ 3 → status ≡ 31 → P
not_3_31 P status p q = absurd (omega arith)

not_30_31 : (P : Type 0) (status : ℕ) → status ≡ 30 → status ≡ 31 → P
not_30_31 P status p q = absurd (omega arith)

not_0 : (P : Type 0) (status n : ℕ) → 0 < n → status ≡ n → status ≡ 0 → P
not_0 P status n less p q = absurd (omega arith)

not_35 : (P : Type 0) (status n : ℕ) → n < 35 → status ≡ n → status ≡ 35 → P
not_35 P status n less p q = absurd (omega arith)

pub broken_cause : (b : Broken) (status source0 source sink0 sink1 sink : ℕ) → BreaksBy b source0 source sink0 sink1 → ((status ≡ 3 → ⊥) → status ≡ broken_status b) → (b ≡ Write → sink ≡ sink1)
    → HasCause status source0 source sink0 sink
broken_cause Memory status source0 source sink0 sink1 sink breaks is kept = record {
  read = λ o. not_3_30 _ status (is (λ m. not_3_30 ⊥ status m o)) o;
  write = λ o. not_3_31 _ status (is (λ m. not_3_31 ⊥ status m o)) o;
  clean = λ o. not_0 _ status 3 (omega arith) (is (λ m. not_0 ⊥ status 3 (omega arith) m o)) o;
  refused = λ o. not_35 _ status 3 (omega arith) (is (λ m. not_35 ⊥ status 3 (omega arith) m o)) o;
}
broken_cause Read status source0 source sink0 sink1 sink breaks is kept = record {
  read = λ o. breaks.0;
  write = λ o. not_30_31 _ status (is (λ m. not_3_31 ⊥ status m o)) o;
  clean = λ o. not_0 _ status 30 (omega arith) (is (λ m. not_0 ⊥ status 3 (omega arith) m o)) o;
  refused = λ o. not_35 _ status 30 (omega arith) (is (λ m. not_35 ⊥ status 3 (omega arith) m o)) o;
}
broken_cause Write status source0 source sink0 sink1 sink breaks is kept = record {
  read = λ o. not_30_31 _ status o (is (λ m. not_3_30 ⊥ status m o));
  write = λ o. subst (λ n. Rose sink0 n) (sym (kept refl)) breaks.0;
  clean = λ o. not_0 _ status 31 (omega arith) (is (λ m. not_0 ⊥ status 3 (omega arith) m o)) o;
  refused = λ o. not_35 _ status 31 (omega arith) (is (λ m. not_35 ⊥ status 3 (omega arith) m o)) o;
}

-- a run that read its whole input
pub whole_left : (left0 left : Option (List ℕ)) (w0 w : World) (session : Session) (status : ℕ) (held0 held1 held : Option (List ℕ)) (source0 source sink0 sink1 sink : ℕ) → w0 ≡ first_world
    → Finishes input_limit left0 w0 w held0 held1 → source ≡ source0 → sink1 ≡ sink0 → ClosesPartly w session held1 held → Closes w session status held1 held sink1 sink
    → IsLeft left0 left session status held0 held source0 source sink0 sink
whole_left left0 left w0 w session status held0 held1 held source0 source sink0 sink1 sink first finishes quiet unmoved closes ends = record {
  broken = None;
  by = record {
    entries = λ bytes is.
        let same = finishes.world bytes is ∙ ap (λ (z : World). rest_world input_limit z bytes) first in
        subst (λ (z : World). IsEndedBy (cause_of z.stop) z.session session) same closes.entries;
    requests = λ bytes is.
        let same = finishes.world bytes is ∙ ap (λ (z : World). rest_world input_limit z bytes) first in
        whole_asks first_world bytes (cause_of (drive_world bytes).stop) session refl (subst (λ (z : World). IsEndedBy (cause_of z.stop) z.session session) same closes.entries);
    text = λ bytes is.
        let same = finishes.world bytes is ∙ ap (λ (z : World). rest_world input_limit z bytes) first in
        let wrote = finishes.text bytes is ∙ ap (λ (z : World). behind held0 (rest_text input_limit z bytes)) first in
        subst (λ (z : World). IsFront (end_text z) (behind held0 (rest_text input_limit first_world bytes)) held) same (subst (λ (h : Option (List ℕ)). IsFront (end_text w) h held) wrote closes.front);
    status_is = λ bytes is memory.
        let same = finishes.world bytes is ∙ ap (λ (z : World). rest_world input_limit z bytes) first in
        subst (λ (z : World). IsShown (status_of z.stop z.refused) status sink0 sink) same (shown w session status held1 held sink0 sink1 sink unmoved ends memory);
    source_same = quiet;
  };
}

failed_by : (b : Broken) (status source0 source sink0 sink1 sink : ℕ) → BreaksBy b source0 source sink0 sink1 → (b ≡ Write → sink ≡ sink1) → (b ≡ Memory → status ≡ 3) → FailedBy b status source0 source sink0 sink
failed_by Read status source0 source sink0 sink1 sink breaks kept memory = breaks.0
failed_by Write status source0 source sink0 sink1 sink breaks kept memory = (subst (λ n. Rose sink0 n) (sym (kept refl)) breaks.0, breaks.1)
failed_by Memory status source0 source sink0 sink1 sink breaks kept memory = (memory refl, breaks.0)

sink_from : (b : Broken) (source0 source sink0 sink1 sink : ℕ) → BreaksBy b source0 source sink0 sink1 → b ≡ Read → Rose sink1 sink → Rose sink0 sink
sink_from Read source0 source sink0 sink1 sink breaks is rose = subst (λ n. Rose n sink) breaks.1 rose
sink_from Write source0 source sink0 sink1 sink breaks is rose = absurd cc
sink_from Memory source0 source sink0 sink1 sink breaks is rose = absurd cc

-- a run that broke off
pub partly_left : (b : Broken) (left0 left : Option (List ℕ)) (w0 v : World) (session : Session) (status : ℕ) (held0 held1 held : Option (List ℕ)) (source0 source sink0 sink1 sink : ℕ) → w0 ≡ first_world
    → BreaksBy b source0 source sink0 sink1 → BrokeOff b left0 left w0 v held0 held1 → ClosesBroken b v session status held1 held sink1 sink → (b ≡ Write → sink ≡ sink1) → (b ≡ Memory → status ≡ 3)
    → ((status ≡ 3 → ⊥) → status ≡ broken_status b) → IsLeft left0 left session status held0 held source0 source sink0 sink
partly_left b left0 left w0 v session status held0 held1 held source0 source sink0 sink1 sink first breaks broke closes kept memory decided = record {
  broken = Some b;
  by = record {
    before = v;
    printed = held1;
    broke = off;
    entries = closes.entries;
    requests = broken_asks first_world off.fed (Stopped (broken_status b)) v.session session refl off.partly.entries closes.entries;
    front = closes.front;
    text = λ is quiet calm. closes.text is (λ rose. quiet (sink_from b source0 source sink0 sink1 sink breaks is rose)) calm;
    cause = failed_by b status source0 source sink0 sink1 sink breaks kept memory;
    status_is = decided;
  };
}
  where
    off : BrokeOff b left0 left first_world v held0 held1
    off = subst (λ (z : World). BrokeOff b left0 left z v held0 held1) first broke

-- what is due is handed out by one entry at most
one_at_most : (b : Bool) (s : Session) (due : List Delivered) → length (hands_out_by b s due).entries ≤ 1
one_at_most true s due = omega arith
one_at_most false s due = spent_or (is_some (spent_by s (Deliver (length due) ∷ []))) s due
  where
    spent_or : (b : Bool) (s : Session) (due : List Delivered)
        → length (let d : Deed = if b then fails Spent else record { entries = Deliver (length due) ∷ []; text = outcome_lines s.config.sid due; answer = Done } in d).entries ≤ 1
    spent_or true s due = omega arith
    spent_or false s due = omega arith

at_most : (b : Bool) (s : Session) (due : List Delivered) → length (let d : Deed = if b then nothing else hands_out_by (is_ended (now_of s).phase) s due in d).entries ≤ 1
at_most true s due = omega arith
at_most false s due = one_at_most (is_ended (now_of s).phase) s due

all_or_none : (es : List Event) (k : ℕ) → length es ≤ 1 → (take k es ≡ []) ⊎ (take k es ≡ es)
all_or_none es zero h = inl refl
all_or_none [] (suc k) h = inl refl
all_or_none (e ∷ []) (suc k) h = inr (ap (λ (z : List Event). e ∷ z) (take_none k))
  where
    take_none : (k : ℕ) → (let none : List Event = [] in take k none) ≡ []
    take_none zero = refl
    take_none (suc k) = refl
all_or_none (e ∷ f ∷ es) (suc k) h = absurd (omega (arith, h))

pub handed_or_not : (cause : End) (old s new : Session) → s ≡ terminated cause old → IsPart (hands_out s).entries s new → IsEndedBy cause old new
handed_or_not cause old s new is part = by (all_or_none (hands_out s).entries part.0 (at_most (length (due_of_session s) == 0) s (due_of_session s)))
  where
    by : (take part.0 (hands_out s).entries ≡ []) ⊎ (take part.0 (hands_out s).entries ≡ (hands_out s).entries) → IsEndedBy cause old new
    by (inl none) = inl (part.1 ∙ (ap (entered_all s) none ∙ is))
    by (inr all) = inr (part.1 ∙ (ap (entered_all s) all ∙ ap (λ (t : Session). entered_all t (hands_out t).entries) is))
