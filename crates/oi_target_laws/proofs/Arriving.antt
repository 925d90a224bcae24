-- Over all events since a target was made, each PDU of a session had its turn once, or is held.
use Rattle.std.proofs.Common.{ℕ, ◌+◌, Bool, true, false, ◌≡◌, ◌∙◌, Option, Some, None, List, [], ◌∷◌, ◌++◌, bytes_eq, count_by, refl, ap, sym, subst, arith, append-nil, if◌then◌else◌, ◌==◌}
use Rattle.std.proofs.lemmas.Bool.{eqb-true}
use Rattle.std.proofs.lemmas.List.{map-append}
use Rattle.oi_pdu.specs.declared.codec.Pdu.{Pdu}
use Rattle.oi_target.proofs.Bared.{aside_step, is_aside}
use Rattle.oi_target.proofs.Numbered.{others_found, true_not}
use Rattle.oi_target.proofs.Told.{step_told}
use Rattle.oi_target.specs.Events.{Event, Joined, Left, Told, Whole, Malformed, happened, heard_of, shut, state_after}
use Rattle.oi_target.specs.Steps.{Step, logged_in_by, received_by, serving_by, stepped, with_words}
use Rattle.oi_target.specs.Targets.{Target, aside, ended_standing, learned, link_of, nexus_of, new_link, without}
use Rattle.oi_target.specs.Turns.{Received}
use Rattle.oi_target.specs.declared.config.TargetConfig.{TargetConfig}
use Rattle.oi_target.specs.declared.link.Link.{Link}
use Rattle.oi_target.specs.declared.link.Serving.{Serving}
use Rattle.oi_target.specs.declared.link.Standing.{Standing}
use Rattle.oi_target.specs.declared.link.Standing.TheVariants as standing
use Rattle.oi_target_laws.proofs.Accounts.{all_busy, aside_closed, aside_standing, other_standing, own_standing}
use Rattle.oi_target_laws.proofs.Idle.{OneIsBusy, idle_serves, is_serving}
use Rattle.oi_target_laws.proofs.Learning.{told_keep}
use Rattle.oi_target_laws.proofs.Placing.{count_join, received_placed}
use Rattle.oi_target_laws.proofs.Steps.{ended_standings}
use Rattle.oi_target_laws.specs.Arrivals.{EachHasItsTurn, came_since, event_pdus, held_pdus, pdu_of, pdus_of, session_pdus}
use Rattle.oi_target_laws.specs.Histories.{event_turns, link_turns, standing_in, standing_of, step_turns}
use Rattle.oi_target_laws.specs.Numbers.{event_opened, link_opened, opened_by, session_turns, since, step_opened}
use Rattle.oi_target_laws.specs.Turned.{Turned}
use Rattle.oi_target_login.specs.Logins.{turned}
use Rattle.oi_target_login.specs.declared.answer.Answer.{Answer}
use Rattle.oi_target_login.specs.declared.answer.Verdict.{Verdict}
use Rattle.oi_target_login.specs.declared.answer.Verdict.TheVariants as verdict
use Rattle.oi_target_session.specs.Arrivals.{place_of}
use Rattle.oi_target_session.specs.Owing.{paid}
use Rattle.oi_target_session.specs.declared.fed.Fed.{Fed}
use Rattle.oi_target_session.specs.declared.fed.Fed.TheVariants.{Going, Closed}
use Rattle.oi_target_session.specs.declared.reset.Reset.{Reset}
use Rattle.oi_units.specs.declared.unit.LogicalUnit.{LogicalUnit}

-- the PDUs of a session that is served had their turn, or are held
abbrev IsPlaced : List Pdu → List Turned → Standing → Type 0
IsPlaced ps turns (standing.Serving v) = (f : Pdu → Bool) → count_by f ps ≡ count_by f (pdus_of turns) + count_by f (held_pdus v.held)
IsPlaced ps turns s = Unit {0}

-- no PDU came
as_before : (ps : List Pdu) (turns : List Turned) (s : Standing) → IsPlaced ps turns s → IsPlaced (ps ++ []) (turns ++ []) s
as_before ps turns s h =
    subst (λ (z : List Pdu). IsPlaced z (turns ++ []) s) (sym (append-nil ps)) (subst (λ (z : List Turned). IsPlaced ps z s) (sym (append-nil turns)) h)

idle_placed : (ps : List Pdu) (turns : List Turned) (s : Standing) → is_serving s ≡ false → IsPlaced ps turns s
idle_placed ps turns (standing.LoggingIn p) idle = tt
idle_placed ps turns (standing.Serving v) idle = true_not idle
idle_placed ps turns standing.Ended idle = tt
idle_placed ps turns standing.Closed idle = tt

shut_placed : (ps : List Pdu) (turns : List Turned) (s : Standing) → IsPlaced ps turns s → IsPlaced ps turns (shut s)
shut_placed ps turns (standing.LoggingIn p) h = tt
shut_placed ps turns (standing.Serving v) h = h
shut_placed ps turns standing.Ended h = tt
shut_placed ps turns standing.Closed h = tt

-- its own PDUs

login_placed : (t : Target) (a : Answer) (v : Verdict) (ps : List Pdu) (turns : List Turned) (p : Pdu)
    → IsPlaced (came_since (opened_by v) ps (p ∷ [])) (since (opened_by v) turns ++ []) (logged_in_by t a v).standing
login_placed t a verdict.Going ps turns p = tt
login_placed t a verdict.Closed ps turns p = tt
login_placed t a (verdict.Done s) ps turns p = λ f. refl

summed : (ps turns held one more new held' all turned : ℕ) → ps ≡ turns + held → more ≡ one + held → more ≡ new + held' → all ≡ ps + one → turned ≡ turns + new → all ≡ turned + held'
summed ps turns held one more new held' all turned a b c d e = omega arith

going_placed : (ps : List Pdu) (turns new : List Turned) (v : Serving) (p : Pdu) (r : Received) (g : Fed) → IsPlaced ps turns (standing.Serving v)
    → (g ≡ Going → (f : Pdu → Bool) → count_by f (p ∷ held_pdus v.held) ≡ count_by f (pdus_of new) + count_by f (held_pdus r.held))
    → IsPlaced (ps ++ p ∷ []) (turns ++ new) (serving_by g r)
going_placed ps turns new v p r Closed was placed = tt
going_placed ps turns new v p r Going was placed = λ f.
    summed (count_by f ps) (count_by f (pdus_of turns)) (count_by f (held_pdus v.held)) (count_by f (p ∷ [])) (count_by f (p ∷ held_pdus v.held)) (count_by f (pdus_of new))
    (count_by f (held_pdus r.held)) (count_by f (ps ++ p ∷ [])) (count_by f (pdus_of (turns ++ new))) (was f) (count_join f (p ∷ []) (held_pdus v.held)) (placed refl f)
    (count_join f ps (p ∷ [])) (ap (count_by f) (map-append pdu_of turns new) ∙ count_join f (pdus_of turns) (pdus_of new))

own_placed : (t : Target) (s : Standing) (p : Pdu) (ps : List Pdu) (turns : List Turned) → IsPlaced ps turns s
    → IsPlaced (came_since (step_opened t s p) ps (p ∷ [])) (since (step_opened t s p) turns ++ step_turns t s p) (stepped t s p).standing
own_placed t (standing.LoggingIn login) p ps turns h =
    login_placed (with_words t (turned t.rules t.handle login p t.words).words) (turned t.rules t.handle login p t.words).answer
    (turned t.rules t.handle login p t.words).answer.verdict ps turns p
own_placed t (standing.Serving v) p ps turns h =
    going_placed ps turns (step_turns t (standing.Serving v) p) v p (received_by v t p) (received_by v t p).fed h
    (received_placed (place_of v.session.discovers v.session.numbers.exp.0 p.head) t (paid v.session v.owed) v.held p)
own_placed t standing.Ended p ps turns h = tt
own_placed t standing.Closed p ps turns h = tt

-- those of others

learned_placed : (ps : List Pdu) (turns : List Turned) (r : Reset) (u : List LogicalUnit) (s : Standing) → IsPlaced ps turns s → IsPlaced ps turns (learned r u s).standing
learned_placed ps turns r u (standing.LoggingIn p) h = tt
learned_placed ps turns r u (standing.Serving v) h = h
learned_placed ps turns r u standing.Ended h = tt
learned_placed ps turns r u standing.Closed h = tt

ended_placed : (ps : List Pdu) (turns : List Turned) (nexus : List ℕ) (s : Standing) → IsPlaced ps turns s → IsPlaced ps turns (ended_standing nexus s)
ended_placed ps turns nexus (standing.LoggingIn p) h = tt
ended_placed ps turns nexus (standing.Serving v) h = go (bytes_eq v.session.nexus nexus) where
  go : (b : Bool) → IsPlaced ps turns (if b then standing.Ended else standing.Serving v)
  go true = tt
  go false = h
ended_placed ps turns nexus standing.Ended h = tt
ended_placed ps turns nexus standing.Closed h = tt

opening_placed : (ps : List Pdu) (turns : List Turned) (n : ℕ) (t : Target) (a : Answer) (v : Verdict) → IsPlaced ps turns (standing_in n t.links)
    → IsPlaced ps turns (standing_in n (logged_in_by t a v).target.links)
opening_placed ps turns n t a verdict.Going h = h
opening_placed ps turns n t a verdict.Closed h = h
opening_placed ps turns n t a (verdict.Done s) h =
    subst (λ (z : Standing). IsPlaced ps turns z) (sym (ended_standings n (nexus_of s.who) t.links)) (ended_placed ps turns (nexus_of s.who) (standing_in n t.links) h)

other_placed : (ps : List Pdu) (turns : List Turned) (n : ℕ) (t : Target) (s : Standing) (p : Pdu) → IsPlaced ps turns (standing_in n t.links)
    → IsPlaced ps turns (standing_in n (stepped t s p).target.links)
other_placed ps turns n t (standing.LoggingIn login) p h =
    opening_placed ps turns n (with_words t (turned t.rules t.handle login p t.words).words) (turned t.rules t.handle login p t.words).answer
    (turned t.rules t.handle login p t.words).answer.verdict h
other_placed ps turns n t (standing.Serving v) p h =
    told_keep (λ s. IsPlaced ps turns s) (learned_placed ps turns) n (received_by v t p).resets t.links (received_by v t p).target.links (step_told t v p).links h
other_placed ps turns n t standing.Ended p h = h
other_placed ps turns n t standing.Closed p h = h

-- a new connection
new_placed : (ps : List Pdu) (turns : List Turned) (n m : ℕ) (ls : List Link) → IsPlaced ps turns (standing_in n ls) → IsPlaced ps turns (standing_in n (ls ++ new_link m ∷ []))
new_placed ps turns n m [] h = go (m == n) where
  go : (b : Bool) → IsPlaced ps turns (standing_of (if b then Some (new_link m) else None))
  go true = tt
  go false = tt
new_placed ps turns n m (l ∷ ls) h = go (l.number == n) h (λ x. new_placed ps turns n m ls x) where
  go : (b : Bool) → IsPlaced ps turns (standing_of (if b then Some l else link_of n ls))
      → (IsPlaced ps turns (standing_in n ls) → IsPlaced ps turns (standing_in n (ls ++ new_link m ∷ [])))
      → IsPlaced ps turns (standing_of (if b then Some l else link_of n (ls ++ new_link m ∷ [])))
  go true x more = x
  go false x more = more x

-- where the connection closes or is gone
lost_placed : (ps : List Pdu) (turns : List Turned) (n m : ℕ) (t : Target) (u : Standing) → ((m == n) ≡ true → is_serving u ≡ false) → ((m == n) ≡ false → u ≡ standing_in n t.links)
    → IsPlaced ps turns (standing_in n t.links) → IsPlaced ps turns u
lost_placed ps turns n m t u mine other h = go (m == n) refl where
  go : (b : Bool) → (m == n) ≡ b → IsPlaced ps turns u
  go true is = idle_placed ps turns u (mine is)
  go false is = subst (λ (z : Standing). IsPlaced ps turns z) (sym (other is)) h

link_placed : (ps : List Pdu) (turns : List Turned) (n m : ℕ) (t : Target) (p : Pdu) (o : Option Link) → link_of m t.links ≡ o → IsPlaced ps turns (standing_in n t.links)
    → IsPlaced (came_since (if m == n then link_opened t m o p else None) ps (if m == n then p ∷ [] else []))
    (since (if m == n then link_opened t m o p else None) turns ++ (if m == n then link_turns t m o p else [])) (standing_in n (heard_of t m o p).target.links)
link_placed ps turns n m t p None found h = go (m == n) refl where
  go : (b : Bool) → (m == n) ≡ b
      → IsPlaced (came_since (if b then None else None) ps (if b then p ∷ [] else [])) (since (if b then None else None) turns ++ (if b then [] else [])) (standing_in n t.links)
  go true is =
      idle_placed (ps ++ p ∷ []) (turns ++ []) (standing_in n t.links)
      (ap is_serving (subst (λ (k : ℕ). standing_in k t.links ≡ standing.Closed) (eqb-true m n is) (ap standing_of found)))
  go false is = as_before ps turns (standing_in n t.links) h
link_placed ps turns n m t p (Some l) found h = go (m == n) refl where
  s : Step
  s = stepped (aside m t) l.standing p

  came : List Pdu
  came = came_since (link_opened t m (Some l) p) ps (p ∷ [])

  after : List Turned
  after = since (link_opened t m (Some l) p) turns ++ link_turns t m (Some l) p

  go : (b : Bool) → (m == n) ≡ b
      → IsPlaced (came_since (if b then link_opened t m (Some l) p else None) ps (if b then p ∷ [] else []))
      (since (if b then link_opened t m (Some l) p else None) turns ++ (if b then link_turns t m (Some l) p else [])) (standing_in n (heard_of t m (Some l) p).target.links)
  go true is =
      subst (λ (z : Standing). IsPlaced came after z)
      (sym (subst (λ (k : ℕ). standing_in k (heard_of t m (Some l) p).target.links ≡ shut s.standing) (eqb-true m n is)
      (own_standing m s.standing s.target.links (aside_step m (aside m t) l.standing p (is_aside m t.links l found)))))
      (shut_placed came after s.standing
      (own_placed (aside m t) l.standing p ps turns
      (subst (λ (z : Standing). IsPlaced ps turns z) (subst (λ (k : ℕ). standing_in k t.links ≡ l.standing) (eqb-true m n is) (ap standing_of found)) h)))
  go false is =
      as_before ps turns (standing_in n (heard_of t m (Some l) p).target.links)
      (subst (λ (z : Standing). IsPlaced ps turns z) (sym (other_standing n m s.standing s.target.links is))
      (shut_placed ps turns (standing_in n s.target.links)
      (other_placed ps turns n (aside m t) l.standing p (subst (λ (z : Standing). IsPlaced ps turns z) (sym (aside_standing n m t is)) h))))

event_placed : (ps : List Pdu) (turns : List Turned) (n : ℕ) (t : Target) (e : Event) → OneIsBusy n t.links → IsPlaced ps turns (standing_in n t.links)
    → IsPlaced (came_since (event_opened n t e) ps (event_pdus n e)) (since (event_opened n t e) turns ++ event_turns n t e) (standing_in n (happened t e).target.links)
event_placed ps turns n t (Joined m) i h = as_before ps turns (standing_in n (t.links ++ new_link m ∷ [])) (new_placed ps turns n m t.links h)
event_placed ps turns n t (Left m) i h =
    as_before ps turns (standing_in n (without m t.links))
    (lost_placed ps turns n m t (standing_in n (without m t.links))
    (λ is. subst (λ (k : ℕ). is_serving (standing_in n (without k t.links)) ≡ false) (sym (eqb-true m n is)) (idle_serves n (without n t.links) i))
    (λ is. ap standing_of (others_found n m t.links is)) h)
event_placed ps turns n t (Told listing) i h = as_before ps turns (standing_in n t.links) h
event_placed ps turns n t (Whole m p) i h = link_placed ps turns n m t p (link_of m t.links) refl h
event_placed ps turns n t (Malformed m) i h =
    as_before ps turns (standing_in n (aside m t).links)
    (lost_placed ps turns n m t (standing_in n (aside m t).links)
    (λ is. subst (λ (k : ℕ). is_serving (standing_in n (aside k t).links) ≡ false) (sym (eqb-true m n is)) (ap is_serving (aside_closed n t)))
    (λ is. aside_standing n m t is) h)

all_placed : (n : ℕ) (c : TargetConfig) (es : List Event) → IsPlaced (session_pdus n c es) (session_turns n c es) (standing_in n (state_after c es).links)
all_placed n c [] = tt
all_placed n c (e ∷ es) = event_placed (session_pdus n c es) (session_turns n c es) n (state_after c es) e (all_busy n c es) (all_placed n c es)

pub each_has_its_turn : EachHasItsTurn
each_has_its_turn n c es v f is = subst (λ (z : Standing). IsPlaced (session_pdus n c es) (session_turns n c es) z) is (all_placed n c es) f
