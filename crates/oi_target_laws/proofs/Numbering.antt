-- Over all events since a target was made, the numbers of a session succeed.
use Rattle.std.proofs.Common.{ℕ, Bool, true, false, ◌≡◌, ◌∙◌, Option, Some, None, List, [], ◌∷◌, ◌++◌, bytes_eq, flat_map, refl, ap, sym, subst, append-nil, append_assoc, if◌then◌else◌, ◌==◌}
use Rattle.std.proofs.lemmas.Bool.{eqb-true}
use Rattle.std.proofs.lemmas.List.Concat.{flat_map-append}
use Rattle.oi_pdu.specs.declared.codec.Pdu.{Pdu}
use Rattle.oi_target.proofs.Bared.{aside_step, is_aside}
use Rattle.oi_target.proofs.Numbered.{others_found, true_not}
use Rattle.oi_target.proofs.Told.{step_told}
use Rattle.oi_target.specs.Events.{Event, Joined, Left, Told, Whole, Malformed, happened, heard_of, shut, state_after}
use Rattle.oi_target.specs.Steps.{Step, logged_in_by, received_by, serving_by, stepped, with_words}
use Rattle.oi_target.specs.Targets.{Target, aside, ended_standing, learned, link_of, nexus_of, new_link, without}
use Rattle.oi_target.specs.Turns.{Received}
use Rattle.oi_target.specs.declared.config.TargetConfig.{TargetConfig}
use Rattle.oi_target.specs.declared.link.Link.{Link}
use Rattle.oi_target.specs.declared.link.Serving.{Serving}
use Rattle.oi_target.specs.declared.link.Standing.{Standing}
use Rattle.oi_target.specs.declared.link.Standing.TheVariants as standing
use Rattle.oi_target_laws.proofs.Accounts.{all_busy, aside_closed, aside_standing, other_standing, own_standing}
use Rattle.oi_target_laws.proofs.Counting.{AreAhead, Awaits, Counts, behind_join, received_counts, succeed_join}
use Rattle.oi_target_laws.proofs.Idle.{OneIsBusy, idle_serves, is_serving}
use Rattle.oi_target_laws.proofs.Learning.{told_keep}
use Rattle.oi_target_laws.proofs.Steps.{ended_standings}
use Rattle.oi_target_laws.specs.Histories.{event_turns, link_turns, standing_in, standing_of, step_turns, turns_on}
use Rattle.oi_target_laws.specs.Numbers.{AreLast, NextIsExpected, NumbersSucceed, Succeed, TurnsAreLast, behind_all, event_opened, first_by, first_on, link_opened, numbers_in, numbers_on, opened_by, session_turns, since, step_opened}
use Rattle.oi_target_laws.specs.Turned.{Turned}
use Rattle.oi_target_login.specs.Logins.{turned}
use Rattle.oi_target_login.specs.declared.answer.Answer.{Answer}
use Rattle.oi_target_login.specs.declared.answer.Verdict.{Verdict}
use Rattle.oi_target_login.specs.declared.answer.Verdict.TheVariants as verdict
use Rattle.oi_target_session.specs.Owing.{paid}
use Rattle.oi_target_session.specs.declared.fed.Fed.{Fed}
use Rattle.oi_target_session.specs.declared.fed.Fed.TheVariants.{Going, Closed}
use Rattle.oi_target_session.specs.declared.reset.Reset.{Reset}
use Rattle.oi_units.specs.declared.unit.LogicalUnit.{LogicalUnit}

-- a connection that is served expects this number
abbrev pub AwaitsAt : ℕ → Standing → Type 0
AwaitsAt exp (standing.Serving v) = Awaits v.session.discovers exp v.session v.held
AwaitsAt exp s = Unit {0}

-- the numbers of these PDUs succeed, and the connection expects the one behind the last
record Numbered (first : ℕ) (turns : List Turned) (s : Standing) : Type 0 where
  succeed : Succeed first (flat_map numbers_in turns)
  awaits : AwaitsAt (behind_all first (flat_map numbers_in turns)) s

-- no PDU has its turn
as_before : (first : ℕ) (turns : List Turned) (s u : Standing) → Numbered first turns s → ((exp : ℕ) → AwaitsAt exp s → AwaitsAt exp u) → Numbered first (turns ++ []) u
as_before first turns s u was same =
    subst (λ (z : List Turned). Numbered first z u) (sym (append-nil turns))
    (record { succeed = was.succeed; awaits = same (behind_all first (flat_map numbers_in turns)) was.awaits })

idle_awaits : (exp : ℕ) (s : Standing) → is_serving s ≡ false → AwaitsAt exp s
idle_awaits exp (standing.LoggingIn p) idle = tt
idle_awaits exp (standing.Serving v) idle = true_not idle
idle_awaits exp standing.Ended idle = tt
idle_awaits exp standing.Closed idle = tt

shut_awaits : (exp : ℕ) (s : Standing) → AwaitsAt exp s → AwaitsAt exp (shut s)
shut_awaits exp (standing.LoggingIn p) a = tt
shut_awaits exp (standing.Serving v) a = a
shut_awaits exp standing.Ended a = tt
shut_awaits exp standing.Closed a = tt

-- its own PDUs

login_numbered : (t : Target) (a : Answer) (v : Verdict) (first : ℕ) (turns : List Turned) (s : Standing) → Numbered first turns s
    → Numbered (first_by (opened_by v) first) (since (opened_by v) turns ++ []) (logged_in_by t a v).standing
login_numbered t a verdict.Going first turns s was = as_before first turns s (standing.LoggingIn a.progress) was (λ exp a. tt)
login_numbered t a verdict.Closed first turns s was = as_before first turns s standing.Closed was (λ exp a. tt)
login_numbered t a (verdict.Done n) first turns s was = record { succeed = tt; awaits = record { discovers_is = refl; expects = refl; ahead = tt } }

-- as the session goes on
going_awaits : (d : Bool) (exp : ℕ) (r : Received) (f : Fed) → (f ≡ Going → Awaits d exp r.session r.held) → AwaitsAt exp (serving_by f r)
going_awaits d exp r Closed a = tt
going_awaits d exp r Going a =
    let it = a refl in
    record { discovers_is = refl; expects = it.expects; ahead = subst (λ (b : Bool). AreAhead b exp 1 r.held) (sym it.discovers_is) it.ahead }

served_numbered : (t : Target) (v : Serving) (p : Pdu) (first : ℕ) (turns : List Turned) → Numbered first turns (standing.Serving v)
    → Numbered first (turns ++ step_turns t (standing.Serving v) p) (stepped t (standing.Serving v) p).standing
served_numbered t v p first turns was = record {
  succeed = subst (λ (z : List ℕ). Succeed first z) (sym (flat_map-append numbers_in turns new))
      (succeed_join first (flat_map numbers_in turns) (flat_map numbers_in new) was.succeed counts.succeed);
  awaits = subst (λ (z : ℕ). AwaitsAt z (serving_by r.fed r))
      (sym (ap (behind_all first) (flat_map-append numbers_in turns new) ∙ behind_join first (flat_map numbers_in turns) (flat_map numbers_in new)))
      (going_awaits v.session.discovers (behind_all exp (flat_map numbers_in new)) r r.fed counts.awaits);
} where
  exp : ℕ
  exp = behind_all first (flat_map numbers_in turns)

  new : List Turned
  new = step_turns t (standing.Serving v) p

  r : Received
  r = received_by v t p

  counts : Counts v.session.discovers exp new r.fed r.session r.held
  counts = subst (λ (z : ℕ). Counts v.session.discovers z new r.fed r.session r.held) was.awaits.expects
      (received_counts t (paid v.session v.owed) v.held p (subst (λ (z : ℕ). AreAhead v.session.discovers z 1 v.held) (sym was.awaits.expects) was.awaits.ahead))

own_numbered : (t : Target) (s : Standing) (p : Pdu) (first : ℕ) (turns : List Turned) → Numbered first turns s
    → Numbered (first_by (step_opened t s p) first) (since (step_opened t s p) turns ++ step_turns t s p) (stepped t s p).standing
own_numbered t (standing.LoggingIn login) p first turns was =
    login_numbered (with_words t (turned t.rules t.handle login p t.words).words) (turned t.rules t.handle login p t.words).answer
    (turned t.rules t.handle login p t.words).answer.verdict first turns (standing.LoggingIn login) was
own_numbered t (standing.Serving v) p first turns was = served_numbered t v p first turns was
own_numbered t standing.Ended p first turns was = as_before first turns standing.Ended standing.Closed was (λ exp a. tt)
own_numbered t standing.Closed p first turns was = as_before first turns standing.Closed standing.Closed was (λ exp a. tt)

-- those of others

learned_awaits : (exp : ℕ) (r : Reset) (u : List LogicalUnit) (s : Standing) → AwaitsAt exp s → AwaitsAt exp (learned r u s).standing
learned_awaits exp r u (standing.LoggingIn p) a = tt
learned_awaits exp r u (standing.Serving v) a = record { discovers_is = refl; expects = a.expects; ahead = a.ahead }
learned_awaits exp r u standing.Ended a = tt
learned_awaits exp r u standing.Closed a = tt

ended_awaits : (exp : ℕ) (nexus : List ℕ) (s : Standing) → AwaitsAt exp s → AwaitsAt exp (ended_standing nexus s)
ended_awaits exp nexus (standing.LoggingIn p) a = tt
ended_awaits exp nexus (standing.Serving v) a = go (bytes_eq v.session.nexus nexus) where
  go : (b : Bool) → AwaitsAt exp (if b then standing.Ended else standing.Serving v)
  go true = tt
  go false = a
ended_awaits exp nexus standing.Ended a = tt
ended_awaits exp nexus standing.Closed a = tt

login_awaits : (exp n : ℕ) (t : Target) (a : Answer) (v : Verdict) → AwaitsAt exp (standing_in n t.links) → AwaitsAt exp (standing_in n (logged_in_by t a v).target.links)
login_awaits exp n t a verdict.Going h = h
login_awaits exp n t a verdict.Closed h = h
login_awaits exp n t a (verdict.Done s) h =
    subst (λ (z : Standing). AwaitsAt exp z) (sym (ended_standings n (nexus_of s.who) t.links)) (ended_awaits exp (nexus_of s.who) (standing_in n t.links) h)

other_awaits : (exp n : ℕ) (t : Target) (s : Standing) (p : Pdu) → AwaitsAt exp (standing_in n t.links) → AwaitsAt exp (standing_in n (stepped t s p).target.links)
other_awaits exp n t (standing.LoggingIn login) p h =
    login_awaits exp n (with_words t (turned t.rules t.handle login p t.words).words) (turned t.rules t.handle login p t.words).answer
    (turned t.rules t.handle login p t.words).answer.verdict h
other_awaits exp n t (standing.Serving v) p h =
    told_keep (λ s. AwaitsAt exp s) (learned_awaits exp) n (received_by v t p).resets t.links (received_by v t p).target.links (step_told t v p).links h
other_awaits exp n t standing.Ended p h = h
other_awaits exp n t standing.Closed p h = h

-- a new connection
new_awaits : (exp n m : ℕ) (ls : List Link) → AwaitsAt exp (standing_in n ls) → AwaitsAt exp (standing_in n (ls ++ new_link m ∷ []))
new_awaits exp n m [] a = go (m == n) where
  go : (b : Bool) → AwaitsAt exp (standing_of (if b then Some (new_link m) else None))
  go true = tt
  go false = tt
new_awaits exp n m (l ∷ ls) a = go (l.number == n) a (λ h. new_awaits exp n m ls h) where
  go : (b : Bool) → AwaitsAt exp (standing_of (if b then Some l else link_of n ls))
      → (AwaitsAt exp (standing_in n ls) → AwaitsAt exp (standing_in n (ls ++ new_link m ∷ [])))
      → AwaitsAt exp (standing_of (if b then Some l else link_of n (ls ++ new_link m ∷ [])))
  go true h more = h
  go false h more = more h

-- where the connection closes or is gone
lost_awaits : (exp n m : ℕ) (t : Target) (u : Standing) → ((m == n) ≡ true → is_serving u ≡ false) → ((m == n) ≡ false → u ≡ standing_in n t.links) → AwaitsAt exp (standing_in n t.links)
    → AwaitsAt exp u
lost_awaits exp n m t u mine other a = go (m == n) refl where
  go : (b : Bool) → (m == n) ≡ b → AwaitsAt exp u
  go true is = idle_awaits exp u (mine is)
  go false is = subst (λ (z : Standing). AwaitsAt exp z) (sym (other is)) a

link_numbered : (n m : ℕ) (t : Target) (p : Pdu) (o : Option Link) (first : ℕ) (turns : List Turned) → link_of m t.links ≡ o → Numbered first turns (standing_in n t.links)
    → Numbered (first_by (if m == n then link_opened t m o p else None) first) (since (if m == n then link_opened t m o p else None) turns ++ (if m == n then link_turns t m o p else []))
    (standing_in n (heard_of t m o p).target.links)
link_numbered n m t p None first turns found was = go (m == n) where
  go : (b : Bool) → Numbered (first_by (if b then None else None) first) (since (if b then None else None) turns ++ (if b then [] else [])) (standing_in n t.links)
  go true = as_before first turns (standing_in n t.links) (standing_in n t.links) was (λ exp a. a)
  go false = as_before first turns (standing_in n t.links) (standing_in n t.links) was (λ exp a. a)
link_numbered n m t p (Some l) first turns found was = go (m == n) refl where
  s : Step
  s = stepped (aside m t) l.standing p

  mine : m ≡ n → Numbered (first_by (link_opened t m (Some l) p) first) (since (link_opened t m (Some l) p) turns ++ link_turns t m (Some l) p) (shut s.standing)
  mine same =
      let own = own_numbered (aside m t) l.standing p first turns
      (subst (λ (z : Standing). Numbered first turns z)
      (subst (λ (k : ℕ). standing_in k t.links ≡ l.standing) same (ap standing_of found)) was) in
      record {
        succeed = own.succeed;
        awaits = shut_awaits (behind_all (first_by (link_opened t m (Some l) p) first) (flat_map numbers_in (since (link_opened t m (Some l) p) turns ++ link_turns t m (Some l) p)))
            s.standing own.awaits;
      }

  go : (b : Bool) → (m == n) ≡ b
      → Numbered (first_by (if b then link_opened t m (Some l) p else None) first)
      (since (if b then link_opened t m (Some l) p else None) turns ++ (if b then link_turns t m (Some l) p else [])) (standing_in n (heard_of t m (Some l) p).target.links)
  go true is =
      subst (λ (z : Standing). Numbered (first_by (link_opened t m (Some l) p) first) (since (link_opened t m (Some l) p) turns ++ link_turns t m (Some l) p) z)
      (sym (subst (λ (k : ℕ). standing_in k (heard_of t m (Some l) p).target.links ≡ shut s.standing) (eqb-true m n is)
      (own_standing m s.standing s.target.links (aside_step m (aside m t) l.standing p (is_aside m t.links l found)))))
      (mine (eqb-true m n is))
  go false is =
      as_before first turns (standing_in n t.links) (standing_in n (heard_of t m (Some l) p).target.links) was
      (λ exp a. subst (λ (z : Standing). AwaitsAt exp z) (sym (other_standing n m s.standing s.target.links is))
      (shut_awaits exp (standing_in n s.target.links)
      (other_awaits exp n (aside m t) l.standing p (subst (λ (z : Standing). AwaitsAt exp z) (sym (aside_standing n m t is)) a))))

event_numbered : (n : ℕ) (t : Target) (e : Event) (first : ℕ) (turns : List Turned) → OneIsBusy n t.links → Numbered first turns (standing_in n t.links)
    → Numbered (first_by (event_opened n t e) first) (since (event_opened n t e) turns ++ event_turns n t e) (standing_in n (happened t e).target.links)
event_numbered n t (Joined m) first turns i was =
    as_before first turns (standing_in n t.links) (standing_in n (t.links ++ new_link m ∷ [])) was (λ exp a. new_awaits exp n m t.links a)
event_numbered n t (Left m) first turns i was =
    as_before first turns (standing_in n t.links) (standing_in n (without m t.links)) was
    (λ exp a. lost_awaits exp n m t (standing_in n (without m t.links))
    (λ is. subst (λ (k : ℕ). is_serving (standing_in n (without k t.links)) ≡ false) (sym (eqb-true m n is)) (idle_serves n (without n t.links) i))
    (λ is. ap standing_of (others_found n m t.links is)) a)
event_numbered n t (Told listing) first turns i was = as_before first turns (standing_in n t.links) (standing_in n t.links) was (λ exp a. a)
event_numbered n t (Whole m p) first turns i was = link_numbered n m t p (link_of m t.links) first turns refl was
event_numbered n t (Malformed m) first turns i was =
    as_before first turns (standing_in n t.links) (standing_in n (aside m t).links) was
    (λ exp a. lost_awaits exp n m t (standing_in n (aside m t).links)
    (λ is. subst (λ (k : ℕ). is_serving (standing_in n (aside k t).links) ≡ false) (sym (eqb-true m n is)) (ap is_serving (aside_closed n t)))
    (λ is. aside_standing n m t is) a)

all_numbered : (n : ℕ) (c : TargetConfig) (es : List Event) → Numbered (first_on n c es) (session_turns n c es) (standing_in n (state_after c es).links)
all_numbered n c [] = record { succeed = tt; awaits = tt }
all_numbered n c (e ∷ es) = event_numbered n (state_after c es) e (first_on n c es) (session_turns n c es) (all_busy n c es) (all_numbered n c es)

pub numbers_succeed : NumbersSucceed
numbers_succeed n c es = (all_numbered n c es).succeed

pub next_is_expected : NextIsExpected
next_is_expected n c es v is =
    (subst (λ (z : Standing). AwaitsAt (behind_all (first_on n c es) (numbers_on n c es)) z) is (all_numbered n c es).awaits).expects

last_join : (n : ℕ) (c : TargetConfig) (es : List Event) (new : List Turned) (o : Option ℕ) → AreLast n c es
    → (before : List Turned) × (turns_on n c es ++ new ≡ before ++ (since o (session_turns n c es) ++ new))
last_join n c es new None last = (last.before, ap (λ (z : List Turned). z ++ new) last.split ∙ append_assoc last.before (session_turns n c es) new)
last_join n c es new (Some first) last = (turns_on n c es, refl)

pub turns_are_last : TurnsAreLast
turns_are_last n c [] = record { before = []; split = refl }
turns_are_last n c (e ∷ es) =
    let joined = last_join n c es (event_turns n (state_after c es) e) (event_opened n (state_after c es) e) (turns_are_last n c es) in
    record { before = joined.0; split = joined.1 }
