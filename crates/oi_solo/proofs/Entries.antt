-- One entry more: ledger, list and loads agree again.
use Rattle.std.proofs.Common.{◌≡◌, ◌≤◌, ◌+◌, ◌-◌, ◌∙◌, ◌==◌, ◌&&◌, ◌||◌, inl, inr, ℕ, Bool, true, false, not, Some, None, List, [], ◌∷◌, ◌++◌, length, reverse, sym, ap, subst, refl, arith, vec_len, nat_lt, if◌then◌else◌}
use Rattle.std.specs.Vec.{vec_capacity}
use Rattle.std.proofs.lemmas.Bool.{eqb-true, false≢true, ltb-false, true≢false}
use Rattle.std.proofs.lemmas.List.{length-reverse, reverse-append}
use Rattle.oi_history.specs.Configs.{IsValidConfig}
use Rattle.oi_history.specs.Locks.{is_sending}
use Rattle.oi_history.specs.Meanings.{Meanings, meanings, step}
use Rattle.oi_history.specs.Ledgers.{CanStep}
use Rattle.oi_history.specs.Permitted.{ArePermitted, IsNextCommand, IsNextLogin, IsNumbered as IsCommandNumber, IsPermitted}
use Rattle.oi_history.specs.Phases.{is_ended}
use Rattle.oi_history.specs.declared.config.SessionConfig.{SessionConfig}
use Rattle.oi_history.specs.declared.event.Event.{Event}
use Rattle.oi_history.specs.declared.event.Event.TheVariants.{Issue, Login}
use Rattle.oi_history.specs.declared.event.Numbered.{Numbered}
use Rattle.oi_session_laws.proofs.Moved.{sendable_waits}
use Rattle.oi_solo.specs.Cores.{IsKept, IsNumbered, kept_back, next_entry, session_of}
use Rattle.oi_solo.specs.Issues.{issues_of, issues_step}
use Rattle.oi_solo.specs.Limits.{Fits, first_passed, kept_bytes, loaded, needs_receiving, passes, receiving_load, sending_load}
use Rattle.oi_solo.specs.Sessions.{entered}
use Rattle.oi_solo.specs.declared.kept.Kept.{Kept}
use Rattle.oi_solo.specs.declared.load.Load.{Load}

pub record Enters (old new : Kept) (e : Event) : Type 0 where
  pub kept : IsKept new
  pub session : session_of new ≡ entered (session_of old) e

-- what one step leaves, with the entry and the loads behind it
pub record Stepped (old new : Kept) (e : Event) : Type 0 where
  pub config : new.ledger.config ≡ old.ledger.config
  pub now : new.ledger.now ≡ step old.ledger.config e (vec_len old.events) old.ledger.now
  pub items : new.events.items ≡ old.events.items ++ record { number = vec_len old.events; event = e } ∷ []
  pub len : vec_len new.events ≡ vec_len old.events + 1
  pub sending : new.sending ≡ loaded (is_sending e) e old.sending
  pub receiving : new.receiving ≡ loaded (needs_receiving old.ledger.now e) e old.receiving
  pub issues : new.issues.items ≡ issues_step e old.issues.items

pub kept_back_most : (b : Bool) → kept_back b ≤ 1
kept_back_most true = omega arith
kept_back_most false = omega arith

newest : (xs : List Numbered) (x : Numbered) → reverse (xs ++ x ∷ []) ≡ x ∷ reverse xs
newest xs x = reverse-append xs (x ∷ [])

-- a load that was within its limit is within it behind an entry that fits

loaded_steps : (covers : Bool) (e : Event) (l : Load) (n : ℕ) → l.steps ≤ n → (loaded covers e l).steps ≤ n + 1
loaded_steps true e l n h = omega (arith, h)
loaded_steps false e l n h = omega (arith, h)

loaded_empty : (covers : Bool) (e : Event) (l : Load) (most : ℕ) → l.kept ≤ most → kept_bytes e ≡ 0 → (loaded covers e l).kept ≤ most
loaded_empty true e l most h none = omega (arith, h, none)
loaded_empty false e l most h none = h

or_false : (a b : Bool) → (a || b) ≡ false → b ≡ false
or_false true b is = absurd (true≢false is)
or_false false b is = is

and_false : (a b : Bool) → a ≡ true → (a && b) ≡ false → b ≡ false
and_false true b is none = none
and_false false b is none = absurd (false≢true is)

one_more : (n : ℕ) (b : Bool) → (n + 1 == n) ≡ b → not b ≡ true
one_more n false is = refl
one_more n true is = let same = eqb-true (n + 1) n is in absurd (omega (arith, same))

pub loaded_within : (C : SessionConfig) (covers : Bool) (e : Event) (l : Load) → l.kept ≤ C.kept → passes C l (loaded covers e l) ≡ false → (loaded covers e l).kept ≤ C.kept
loaded_within C false e l h none = h
loaded_within C true e l h none =
    ltb-false C.kept (l.kept + kept_bytes e) (or_false (nat_lt (C.steps - 16) (l.steps + 1)) (nat_lt C.kept (l.kept + kept_bytes e))
    (and_false (not (l.steps + 1 == l.steps)) (nat_lt (C.steps - 16) (l.steps + 1) || nat_lt C.kept (l.kept + kept_bytes e)) (one_more l.steps (l.steps + 1 == l.steps) refl) none))

some≢none : {A : Type 0} {x : A} → Some x ≡ None → ⊥
some≢none is = absurd cc

both_none : (p q : Bool) (s r : Load) → (if p then Some s else (if q then Some r else None)) ≡ None → (p ≡ false) × (q ≡ false)
both_none true q s r none = absurd (some≢none none)
both_none false true s r none = absurd (some≢none none)
both_none false false s r none = (refl, refl)

pub first_none : (C : SessionConfig) (s s' r r' : Load) → first_passed C s s' r r' ≡ None → (passes C s s' ≡ false) × (passes C r r' ≡ false)
first_none C s s' r r' none = both_none (passes C s s') (passes C r r') s r none

sending_fits : (old : Kept) (e : Event) → IsKept old → Fits (session_of old) e → (loaded (is_sending e) e old.sending).kept ≤ old.ledger.config.kept
sending_fits old e k (inl none) =
    let C = old.ledger.config in
    let H = reverse old.events.items in
    let both = first_none C (sending_load H) (loaded (is_sending e) e (sending_load H)) (receiving_load C H) (loaded (needs_receiving (meanings C H) e) e (receiving_load C H)) none in
    loaded_within C (is_sending e) e old.sending k.sending_kept (subst (λ (l : Load). passes C l (loaded (is_sending e) e l) ≡ false) (sym k.sending) both.0)
sending_fits old e k (inr empty) = loaded_empty (is_sending e) e old.sending old.ledger.config.kept k.sending_kept empty

receiving_fits : (old : Kept) (e : Event) → IsKept old → Fits (session_of old) e → (loaded (needs_receiving old.ledger.now e) e old.receiving).kept ≤ old.ledger.config.kept
receiving_fits old e k (inl none) =
    let C = old.ledger.config in
    let H = reverse old.events.items in
    let both = first_none C (sending_load H) (loaded (is_sending e) e (sending_load H)) (receiving_load C H) (loaded (needs_receiving (meanings C H) e) e (receiving_load C H)) none in
    let here : passes C old.receiving (loaded (needs_receiving (meanings C H) e) e old.receiving) ≡ false = subst (λ (l : Load). passes C l (loaded (needs_receiving (meanings C H) e) e l) ≡ false) (sym k.receiving) both.1 in
    loaded_within C (needs_receiving old.ledger.now e) e old.receiving k.receiving_kept (subst (λ (m : Meanings). passes C old.receiving (loaded (needs_receiving m e) e old.receiving) ≡ false) (sym k.now) here)
receiving_fits old e k (inr empty) = loaded_empty (needs_receiving old.ledger.now e) e old.receiving old.ledger.config.kept k.receiving_kept empty

pub enters : (old new : Kept) (e : Event) → IsKept old → Stepped old new e → Fits (session_of old) e → IsPermitted old.ledger.config (session_of old).history (next_entry (session_of old) e)
    → vec_len new.events + kept_back (is_ended new.ledger.now.phase) ≤ vec_capacity new.events → Enters old new e
enters old new e k s fits allowed room =
    let C = old.ledger.config in
    let H = reverse old.events.items in
    let n : Numbered = record { number = vec_len old.events; event = e } in
    let count : vec_len old.events ≡ length H = omega (arith, length-reverse old.events.items) in
    let next : n ≡ next_entry (session_of old) e = ap (λ (m : ℕ). let made : Numbered = record { number = m; event = e } in made) count in
    let list : reverse new.events.items ≡ n ∷ H = ap (λ (z : List Numbered). reverse z) s.items ∙ newest old.events.items n in
    let now : new.ledger.now ≡ meanings C (n ∷ H) = s.now ∙ ap (λ (m : Meanings). step C e (vec_len old.events) m) k.now in
    let legal : ArePermitted C (n ∷ H) = (subst (λ (z : Numbered). IsPermitted C H z) (sym next) allowed, k.legal) in
    let sending : new.sending ≡ sending_load (n ∷ H) = s.sending ∙ ap (λ (l : Load). loaded (is_sending e) e l) k.sending in
    let receiving : new.receiving ≡ receiving_load C (n ∷ H) =
    s.receiving ∙ (ap (λ (m : Meanings). loaded (needs_receiving m e) e old.receiving) k.now ∙ ap (λ (l : Load). loaded (needs_receiving (meanings C H) e) e l) k.receiving) in
    record {
      kept = record {
        valid = subst (λ (z : SessionConfig). IsValidConfig z) (sym s.config) k.valid;
        now = now ∙ (ap (λ (z : List Numbered). meanings C z) (sym list) ∙ ap (λ (z : SessionConfig). meanings z (reverse new.events.items)) (sym s.config));
        legal = subst (λ (z : SessionConfig). ArePermitted z (reverse new.events.items)) (sym s.config) (subst (λ (z : List Numbered). ArePermitted C z) (sym list) legal);
        numbered = subst (λ (z : List Numbered). IsNumbered z) (sym list) (count, k.numbered);
        sending = sending ∙ ap (λ (z : List Numbered). sending_load z) (sym list);
        receiving = receiving ∙ (ap (λ (z : List Numbered). receiving_load C z) (sym list) ∙ ap (λ (z : SessionConfig). receiving_load z (reverse new.events.items)) (sym s.config));
        sending_steps = subst (λ (l : Load). l.steps ≤ vec_len new.events) (sym s.sending) (subst (λ (m : ℕ). (loaded (is_sending e) e old.sending).steps ≤ m) (sym s.len) (loaded_steps (is_sending e) e old.sending (vec_len old.events) k.sending_steps));
        receiving_steps = subst (λ (l : Load). l.steps ≤ vec_len new.events) (sym s.receiving) (subst (λ (m : ℕ). (loaded (needs_receiving old.ledger.now e) e old.receiving).steps ≤ m) (sym s.len) (loaded_steps (needs_receiving old.ledger.now e) e old.receiving (vec_len old.events) k.receiving_steps));
        sending_kept = subst (λ (z : SessionConfig). new.sending.kept ≤ z.kept) (sym s.config) (subst (λ (l : Load). l.kept ≤ C.kept) (sym s.sending) (sending_fits old e k fits));
        receiving_kept = subst (λ (z : SessionConfig). new.receiving.kept ≤ z.kept) (sym s.config) (subst (λ (l : Load). l.kept ≤ C.kept) (sym s.receiving) (receiving_fits old e k fits));
        issues = s.issues ∙ (ap (issues_step e) k.issues ∙ ap (λ (z : List Numbered). issues_of z) (sym list));
        room = room;
      };
      session = rw (s.config, list, count) refl;
    }

-- what a step asks of its event

pub can_step : (C : SessionConfig) (H : List Numbered) (n : Numbered) → IsPermitted C H n → CanStep (meanings C H) n.event
can_step C H n allowed = step_of n.event allowed.command allowed.numbered allowed.login
  where
    step_of : (e : Event) → IsNextCommand C (meanings C H) e → IsCommandNumber (meanings C H) e → IsNextLogin (meanings C H) e → CanStep (meanings C H) e
    step_of (Issue id generation tag cmdsn) command numbered login = record { login = tt; window = numbered.1; waits = λ t there. sendable_waits C.queue_depth id (meanings C H).tasks t command.0 there }
    step_of (Login generation params cmdsn max exp_stat) command numbered login = let next = login.0 in record { login = (omega (arith, next), login.1); window = tt; waits = tt }
    step_of e command numbered login = record { login = tt; window = tt; waits = tt }
