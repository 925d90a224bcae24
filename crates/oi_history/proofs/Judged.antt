-- How rules are judged, one by one.
use Rattle.std.proofs.Common.{◌≡◌, ◌∙◌, ◌+◌, ◌&&◌, ◌↔◌, inl, inr, ℕ, Bool, true, false, IsTrue, List, [], ◌∷◌, length, count_by, Option, Some, None, sym, subst, ap, refl, arith, length-append, filter, nat_lt, slice_get}
use Rattle.std.proofs.lemmas.List.Quantifiers.{position-Some}
use Rattle.std.proofs.lemmas.Option.{get_or_from_slice_get}
use Rattle.oi_history.specs.Owing.{live_on_lun, sendable}
use Rattle.oi_history.specs.Submitted.{Waits}
use Rattle.std.proofs.lemmas.List.Sums.{length-filter}
use Rattle.std.proofs.lemmas.Bool.{false≢true}
use Rattle.oi_history.specs.Judging.{IsJudged, first_broken}
use Rattle.oi_history.specs.Ledgers.{CanAdvance, CanStep, IsLogin}
use Rattle.oi_history.specs.Histories.{IsAbove}
use Rattle.oi_history.specs.Meanings.{Meanings, meanings}
use Rattle.oi_history.specs.Permitted.{Breaks, Comes, DrawsAll, Fails, GoesOn, HandsOut, HasCause, IsAsked, IsFirstEnded, IsHeeded, IsNextCommand, IsNextData, IsNextLogin, IsNumbered, IsTagged, StandsBehind}
use Rattle.oi_history.specs.Tasks.{due_from, due_in, due_of, is_due, is_waiting}
use Rattle.oi_history.specs.declared.config.SessionConfig.{SessionConfig}
use Rattle.oi_history.specs.declared.event.Event.{Event}
use Rattle.oi_history.specs.declared.event.Event.TheVariants.{Issue, Login}
use Rattle.oi_history.specs.declared.event.Numbered.{Numbered}
use Rattle.oi_history.specs.declared.fate.Fate.{Fate}
use Rattle.oi_history.specs.declared.fate.Fate.TheVariants.{Waiting, Live, Done}
use Rattle.oi_history.specs.declared.fate.Outcome.{Outcome}
use Rattle.oi_history.specs.declared.task.Task.{Task}

due_told : (id : ℕ) (t : Task) (outcome : Outcome) (at : ℕ) (b : Bool) (ts : List Task) → t.fate ≡ Done outcome at → t.told ≡ b
    → length (due_of id t (Done outcome at)) + length (filter is_due ts) ≡ length (filter is_due (t ∷ ts))
due_told id t outcome at true ts is told = rw (is, told) (omega arith)
due_told id t outcome at false ts is told = rw (is, told) (omega arith)

due_one : (id : ℕ) (t : Task) (f : Fate) (ts : List Task) → t.fate ≡ f → length (due_of id t f) + length (filter is_due ts) ≡ length (filter is_due (t ∷ ts))
due_one id t (Waiting tries) ts is = rw is (omega arith)
due_one id t (Live generation tag tries) ts is = rw is (omega arith)
due_one id t (Done outcome at) ts is = due_told id t outcome at t.told ts is refl

due_filtered : (id : ℕ) (ts : List Task) → length (due_from id ts) ≡ length (filter is_due ts)
due_filtered id [] = refl
due_filtered id (t ∷ ts) =
    length-append (due_of id t t.fate) (due_from (id + 1) ts) ∙ (ap (λ n. length (due_of id t t.fate) + n) (due_filtered (id + 1) ts) ∙ due_one id t t.fate ts refl)

pub due_counted : (ts : List Task) → length (due_in ts) ≡ count_by is_due ts
due_counted ts = due_filtered 0 ts ∙ length-filter is_due ts

-- rules, one after another

pub record Both (First Rest : Type 0) : Type 0 where
  pub first : First
  pub rest : Rest

abbrev pub Judge : Option ℕ → Type 0 → (ℕ → Type 0) → Type 0
Judge None All Least = All
Judge (Some rule) All Least = Least rule

more : (v : Option ℕ) (k : ℕ) (R P : Type 0) (B : ℕ → Type 0) → R → Judge v P B → Judge v (Both R P) (λ j. Fails R j k (B j))
more None k R P B holds rest = record { first = holds; rest = rest }
more (Some j) k R P B holds rest = inr (holds, rest)

rule_is : (k : ℕ) (b : Bool) (R P : Type 0) (B : ℕ → Type 0) (bs : List Bool) → (IsTrue b ↔ R) → Judge (first_broken (k + 1) bs) P B → Judge (first_broken k (b ∷ bs)) (Both R P) (λ j. Fails R j k (B j))
rule_is k true R P B bs iff rest = more (first_broken (k + 1) bs) k R P B (iff.0 refl) rest
rule_is k false R P B bs iff rest = inl (refl, λ holds. absurd (false≢true (iff.1 holds)))

abbrev AllRules : SessionConfig → List Numbered → Numbered → Type 0
AllRules C H n = Both (IsAbove n.number H) (Both (Comes (meanings C H) n.event) (Both (IsNextCommand C (meanings C H) n.event) (Both (IsNumbered (meanings C H) n.event) (Both (IsTagged (meanings C H) n.event) (Both (IsNextData (meanings C H) n.event) (Both (IsFirstEnded (meanings C H) n.event) (Both (DrawsAll (meanings C H) n.event) (Both (IsAsked C (meanings C H) n.event) (Both (GoesOn (meanings C H) n.event) (Both (HasCause C (meanings C H) n.event) (Both (IsNextLogin (meanings C H) n.event) (Both (HandsOut (meanings C H) n.event) (Both (IsHeeded (meanings C H) n.event) (Both (StandsBehind (meanings C H) n.event) (Unit {0})))))))))))))))

permitted_by : (v : Option ℕ) (C : SessionConfig) (H : List Numbered) (n : Numbered) → Judge v (AllRules C H n) (λ rule. Breaks rule C H n) → IsJudged v C H n
permitted_by None C H n all = record { ascends = all.first; comes = all.rest.first; command = all.rest.rest.first; numbered = all.rest.rest.rest.first; tagged = all.rest.rest.rest.rest.first; pushed = all.rest.rest.rest.rest.rest.first; released = all.rest.rest.rest.rest.rest.rest.first; drawn = all.rest.rest.rest.rest.rest.rest.rest.first; owed = all.rest.rest.rest.rest.rest.rest.rest.rest.first; ticks = all.rest.rest.rest.rest.rest.rest.rest.rest.rest.first; lost = all.rest.rest.rest.rest.rest.rest.rest.rest.rest.rest.first; login = all.rest.rest.rest.rest.rest.rest.rest.rest.rest.rest.rest.first; handed = all.rest.rest.rest.rest.rest.rest.rest.rest.rest.rest.rest.rest.first; heeded = all.rest.rest.rest.rest.rest.rest.rest.rest.rest.rest.rest.rest.rest.first; behind = all.rest.rest.rest.rest.rest.rest.rest.rest.rest.rest.rest.rest.rest.rest.first }
permitted_by (Some rule) C H n breaks = breaks

judged : (C : SessionConfig) (H : List Numbered) (n : Numbered) (b1 b2 b3 b4 b5 b6 b7 b8 b9 b10 b11 b12 b13 b14 b15 : Bool)
    → (IsTrue b1 ↔ IsAbove n.number H)
    → (IsTrue b2 ↔ Comes (meanings C H) n.event)
    → (IsTrue b3 ↔ IsNextCommand C (meanings C H) n.event)
    → (IsTrue b4 ↔ IsNumbered (meanings C H) n.event)
    → (IsTrue b5 ↔ IsTagged (meanings C H) n.event)
    → (IsTrue b6 ↔ IsNextData (meanings C H) n.event)
    → (IsTrue b7 ↔ IsFirstEnded (meanings C H) n.event)
    → (IsTrue b8 ↔ DrawsAll (meanings C H) n.event)
    → (IsTrue b9 ↔ IsAsked C (meanings C H) n.event)
    → (IsTrue b10 ↔ GoesOn (meanings C H) n.event)
    → (IsTrue b11 ↔ HasCause C (meanings C H) n.event)
    → (IsTrue b12 ↔ IsNextLogin (meanings C H) n.event)
    → (IsTrue b13 ↔ HandsOut (meanings C H) n.event)
    → (IsTrue b14 ↔ IsHeeded (meanings C H) n.event)
    → (IsTrue b15 ↔ StandsBehind (meanings C H) n.event)
    → IsJudged (first_broken 1 (b1 ∷ b2 ∷ b3 ∷ b4 ∷ b5 ∷ b6 ∷ b7 ∷ b8 ∷ b9 ∷ b10 ∷ b11 ∷ b12 ∷ b13 ∷ b14 ∷ b15 ∷ [])) C H n
judged C H n b1 b2 b3 b4 b5 b6 b7 b8 b9 b10 b11 b12 b13 b14 b15 h1 h2 h3 h4 h5 h6 h7 h8 h9 h10 h11 h12 h13 h14 h15 =
    permitted_by (first_broken 1 (b1 ∷ b2 ∷ b3 ∷ b4 ∷ b5 ∷ b6 ∷ b7 ∷ b8 ∷ b9 ∷ b10 ∷ b11 ∷ b12 ∷ b13 ∷ b14 ∷ b15 ∷ [])) C H n
    (rule_is 1 b1 _ _ _ (b2 ∷ b3 ∷ b4 ∷ b5 ∷ b6 ∷ b7 ∷ b8 ∷ b9 ∷ b10 ∷ b11 ∷ b12 ∷ b13 ∷ b14 ∷ b15 ∷ []) h1 (rule_is 2 b2 _ _ _ (b3 ∷ b4 ∷ b5 ∷ b6 ∷ b7 ∷ b8 ∷ b9 ∷ b10 ∷ b11 ∷ b12 ∷ b13 ∷ b14 ∷ b15 ∷ []) h2 (rule_is 3 b3 _ _ _ (b4 ∷ b5 ∷ b6 ∷ b7 ∷ b8 ∷ b9 ∷ b10 ∷ b11 ∷ b12 ∷ b13 ∷ b14 ∷ b15 ∷ []) h3 (rule_is 4 b4 _ _ _ (b5 ∷ b6 ∷ b7 ∷ b8 ∷ b9 ∷ b10 ∷ b11 ∷ b12 ∷ b13 ∷ b14 ∷ b15 ∷ []) h4 (rule_is 5 b5 _ _ _ (b6 ∷ b7 ∷ b8 ∷ b9 ∷ b10 ∷ b11 ∷ b12 ∷ b13 ∷ b14 ∷ b15 ∷ []) h5 (rule_is 6 b6 _ _ _ (b7 ∷ b8 ∷ b9 ∷ b10 ∷ b11 ∷ b12 ∷ b13 ∷ b14 ∷ b15 ∷ []) h6 (rule_is 7 b7 _ _ _ (b8 ∷ b9 ∷ b10 ∷ b11 ∷ b12 ∷ b13 ∷ b14 ∷ b15 ∷ []) h7 (rule_is 8 b8 _ _ _ (b9 ∷ b10 ∷ b11 ∷ b12 ∷ b13 ∷ b14 ∷ b15 ∷ []) h8 (rule_is 9 b9 _ _ _ (b10 ∷ b11 ∷ b12 ∷ b13 ∷ b14 ∷ b15 ∷ []) h9 (rule_is 10 b10 _ _ _ (b11 ∷ b12 ∷ b13 ∷ b14 ∷ b15 ∷ []) h10 (rule_is 11 b11 _ _ _ (b12 ∷ b13 ∷ b14 ∷ b15 ∷ []) h11 (rule_is 12 b12 _ _ _ (b13 ∷ b14 ∷ b15 ∷ []) h12 (rule_is 13 b13 _ _ _ (b14 ∷ b15 ∷ []) h13 (rule_is 14 b14 _ _ _ (b15 ∷ []) h14 (rule_is 15 b15 _ (Unit {0}) (λ (j : ℕ). ⊥) [] h15 tt)))))))))))))))

-- by the meanings that are kept
pub judged_by : (C : SessionConfig) (H : List Numbered) (n : Numbered) (m : Meanings) → m ≡ meanings C H → (v : Option ℕ) (b1 b2 b3 b4 b5 b6 b7 b8 b9 b10 b11 b12 b13 b14 b15 : Bool)
    → v ≡ first_broken 1 (b1 ∷ b2 ∷ b3 ∷ b4 ∷ b5 ∷ b6 ∷ b7 ∷ b8 ∷ b9 ∷ b10 ∷ b11 ∷ b12 ∷ b13 ∷ b14 ∷ b15 ∷ [])
    → (IsTrue b1 ↔ IsAbove n.number H)
    → (IsTrue b2 ↔ Comes m n.event)
    → (IsTrue b3 ↔ IsNextCommand C m n.event)
    → (IsTrue b4 ↔ IsNumbered m n.event)
    → (IsTrue b5 ↔ IsTagged m n.event)
    → (IsTrue b6 ↔ IsNextData m n.event)
    → (IsTrue b7 ↔ IsFirstEnded m n.event)
    → (IsTrue b8 ↔ DrawsAll m n.event)
    → (IsTrue b9 ↔ IsAsked C m n.event)
    → (IsTrue b10 ↔ GoesOn m n.event)
    → (IsTrue b11 ↔ HasCause C m n.event)
    → (IsTrue b12 ↔ IsNextLogin m n.event)
    → (IsTrue b13 ↔ HandsOut m n.event)
    → (IsTrue b14 ↔ IsHeeded m n.event)
    → (IsTrue b15 ↔ StandsBehind m n.event)
    → IsJudged v C H n
judged_by C H n m is v b1 b2 b3 b4 b5 b6 b7 b8 b9 b10 b11 b12 b13 b14 b15 made h1 h2 h3 h4 h5 h6 h7 h8 h9 h10 h11 h12 h13 h14 h15 =
    subst (λ (w : Option ℕ). IsJudged w C H n) (sym made) (judged C H n b1 b2 b3 b4 b5 b6 b7 b8 b9 b10 b11 b12 b13 b14 b15 h1 (subst (λ (z : Meanings). IsTrue b2 ↔ Comes z n.event) is h2) (subst (λ (z : Meanings). IsTrue b3 ↔ IsNextCommand C z n.event) is h3) (subst (λ (z : Meanings). IsTrue b4 ↔ IsNumbered z n.event) is h4) (subst (λ (z : Meanings). IsTrue b5 ↔ IsTagged z n.event) is h5) (subst (λ (z : Meanings). IsTrue b6 ↔ IsNextData z n.event) is h6) (subst (λ (z : Meanings). IsTrue b7 ↔ IsFirstEnded z n.event) is h7) (subst (λ (z : Meanings). IsTrue b8 ↔ DrawsAll z n.event) is h8) (subst (λ (z : Meanings). IsTrue b9 ↔ IsAsked C z n.event) is h9) (subst (λ (z : Meanings). IsTrue b10 ↔ GoesOn z n.event) is h10) (subst (λ (z : Meanings). IsTrue b11 ↔ HasCause C z n.event) is h11) (subst (λ (z : Meanings). IsTrue b12 ↔ IsNextLogin z n.event) is h12) (subst (λ (z : Meanings). IsTrue b13 ↔ HandsOut z n.event) is h13) (subst (λ (z : Meanings). IsTrue b14 ↔ IsHeeded z n.event) is h14) (subst (λ (z : Meanings). IsTrue b15 ↔ StandsBehind z n.event) is h15))

-- where none is broken, a step can be made

abbrev AllHold : List Bool → Type 0
AllHold [] = Unit {0}
AllHold (b ∷ bs) = Both (b ≡ true) (AllHold bs)

none_broken : (k : ℕ) (bs : List Bool) → first_broken k bs ≡ None → AllHold bs
none_broken k [] is = tt
none_broken k (true ∷ bs) is = record { first = refl; rest = none_broken (k + 1) bs is }
none_broken k (false ∷ bs) is = absurd cc

can_login : (m : Meanings) (e : Event) → IsNextLogin m e → IsLogin e
can_login m (Login generation params cmdsn max exp_stat) h = (omega (arith, h.0), h.1)
can_login m e h = tt

and_first : (b c : Bool) → (b && c) ≡ true → b ≡ true
and_first true c is = refl
and_first false c is = absurd cc

-- the submission whose command is next waits
sendable_waits : (depth id : ℕ) (ts : List Task) (t : Task) → sendable depth ts ≡ Some id → slice_get ts id ≡ Some t → is_waiting t.fate ≡ true
sendable_waits depth id ts t is there =
    let found = position-Some (λ (x : Task). is_waiting x.fate && nat_lt (live_on_lun x.command.lun ts) depth) ts id t is in
    let both = subst (λ (x : Task). (is_waiting x.fate && nat_lt (live_on_lun x.command.lun ts) depth) ≡ true) (get_or_from_slice_get ts id t t there) found.1 in
    and_first (is_waiting t.fate) (nat_lt (live_on_lun t.command.lun ts) depth) both

can_advance : (m : Meanings) (e : Event) → IsNumbered m e → CanAdvance e m.window
can_advance m (Issue id generation tag cmdsn) h = h.1
can_advance m e h = tt

can_wait : (C : SessionConfig) (m : Meanings) (e : Event) → IsNextCommand C m e → Waits e m.tasks
can_wait C m (Issue id generation tag cmdsn) h = λ t there. sendable_waits C.queue_depth id m.tasks t h.0 there
can_wait C m e h = tt

pub steps : (C : SessionConfig) (m : Meanings) (e : Event) (v : Option ℕ) (b1 b2 b3 b4 b5 b6 b7 b8 b9 b10 b11 b12 b13 b14 b15 : Bool) → v ≡ first_broken 1 (b1 ∷ b2 ∷ b3 ∷ b4 ∷ b5 ∷ b6 ∷ b7 ∷ b8 ∷ b9 ∷ b10 ∷ b11 ∷ b12 ∷ b13 ∷ b14 ∷ b15 ∷ []) → (IsTrue b3 ↔ IsNextCommand C m e) → (IsTrue b4 ↔ IsNumbered m e) → (IsTrue b12 ↔ IsNextLogin m e) → v ≡ None → CanStep m e
steps C m e v b1 b2 b3 b4 b5 b6 b7 b8 b9 b10 b11 b12 b13 b14 b15 made command numbered login none =
    let all = none_broken 1 (b1 ∷ b2 ∷ b3 ∷ b4 ∷ b5 ∷ b6 ∷ b7 ∷ b8 ∷ b9 ∷ b10 ∷ b11 ∷ b12 ∷ b13 ∷ b14 ∷ b15 ∷ []) (sym made ∙ none) in
    record {
      login = can_login m e (login.0 all.rest.rest.rest.rest.rest.rest.rest.rest.rest.rest.rest.first);
      window = can_advance m e (numbered.0 all.rest.rest.rest.first);
      waits = can_wait C m e (command.0 all.rest.rest.first);
    }
