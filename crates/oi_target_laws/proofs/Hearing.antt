-- Over all events since a target was made, logins are functions of the PDUs of their connections.
use Rattle.std.proofs.Common.{ℕ, Bool, true, false, ◌≡◌, ◌∙◌, ◌⊎◌, inl, inr, Option, Some, None, List, [], ◌∷◌, ◌++◌, bytes_eq, refl, ap, sym, subst, if◌then◌else◌, ◌==◌}
use Rattle.std.proofs.lemmas.Bool.{eqb-true}
use Rattle.oi_pdu.specs.declared.codec.Pdu.{Pdu}
use Rattle.oi_target.proofs.Bared.{aside_step, is_aside}
use Rattle.oi_target.proofs.Numbered.{others_found}
use Rattle.oi_target.proofs.Shown.{only_proved_log_in}
use Rattle.oi_target.proofs.Told.{step_told}
use Rattle.oi_target.specs.Events.{Event, Joined, Left, Told, Whole, Malformed, happened, heard_of, shut, state_after}
use Rattle.oi_target.specs.Shown.{HasProved, Heard, answer_to, login_after}
use Rattle.oi_target.specs.Steps.{Step, logged_in_by, received_by, serving_by, stepped, with_words}
use Rattle.oi_target.specs.Targets.{Target, aside, ended_standing, learned, link_of, nexus_of, new_link, rules_of, without}
use Rattle.oi_target.specs.Turns.{Received}
use Rattle.oi_target.specs.declared.config.TargetConfig.{TargetConfig}
use Rattle.oi_target.specs.declared.link.Link.{Link}
use Rattle.oi_target.specs.declared.link.Serving.{Serving}
use Rattle.oi_target.specs.declared.link.Standing.{Standing}
use Rattle.oi_target.specs.declared.link.Standing.TheVariants as standing
use Rattle.oi_target_laws.proofs.Accounts.{all_busy, aside_closed, aside_standing, other_standing, own_standing}
use Rattle.oi_target_laws.proofs.Idle.{IsNew, OneIsBusy, idle_standing}
use Rattle.oi_target_laws.proofs.Keeps.{received_nexus}
use Rattle.oi_target_laws.proofs.Learning.{told_keep}
use Rattle.oi_target_laws.proofs.Steps.{ended_standings}
use Rattle.oi_target_laws.specs.Histories.{standing_in, standing_of}
use Rattle.oi_target_laws.specs.Logins.{LoginsAreHeard, ServedHaveProved, begun, event_heard, heard_as, heard_on, opened_at, opened_on}
use Rattle.oi_target_laws.specs.Numbers.{event_opened, link_opened, opened_by, step_opened}
use Rattle.oi_target_login.specs.Logins.{turned}
use Rattle.oi_target_login.specs.declared.answer.Answer.{Answer}
use Rattle.oi_target_login.specs.declared.answer.NewSession.{NewSession}
use Rattle.oi_target_login.specs.declared.answer.Verdict.{Verdict}
use Rattle.oi_target_login.specs.declared.answer.Verdict.TheVariants as verdict
use Rattle.oi_target_login.specs.declared.config.LoginRules.{LoginRules}
use Rattle.oi_target_login.specs.declared.progress.Progress.{Progress}
use Rattle.oi_target_session.specs.Arrivals.{place_of}
use Rattle.oi_target_session.specs.Owing.{paid}
use Rattle.oi_target_session.specs.Sessions.{Session}
use Rattle.oi_target_session.specs.declared.fed.Fed.{Fed}
use Rattle.oi_target_session.specs.declared.fed.Fed.TheVariants.{Going, Closed}
use Rattle.oi_target_session.specs.declared.reset.Reset.{Reset}
use Rattle.oi_units.specs.declared.unit.LogicalUnit.{LogicalUnit}

-- the login of these PDUs opened the session
record IsOpened (r : LoginRules) (opened : List Heard) (s : Session) : Type 0 where
  last : Heard
  before : List Heard
  login : NewSession
  heard : opened ≡ last ∷ before
  leads : (answer_to r (login_after r before) last).verdict ≡ verdict.Done login
  nexus : s.nexus ≡ nexus_of login.who
  discovers : s.discovers ≡ login.who.discovers

-- a login is that of its PDUs, and a session was opened by one
abbrev HeardAt : LoginRules → List Heard → List Heard → Standing → Type 0
HeardAt r hs opened (standing.LoggingIn p) = p ≡ login_after r hs
HeardAt r hs opened (standing.Serving v) = IsOpened r opened v.session
HeardAt r hs opened s = Unit {0}

new_heard : (r : LoginRules) (opened : List Heard) (s : Standing) → IsNew s → HeardAt r [] opened s
new_heard r opened s new = subst (λ (z : Standing). HeardAt r [] opened z) (sym new) refl

idle_heard : (r : LoginRules) (opened : List Heard) (s : Standing) → (s ≡ standing.Closed) ⊎ IsNew s → HeardAt r [] opened s
idle_heard r opened s (inl closed) = subst (λ (z : Standing). HeardAt r [] opened z) (sym closed) tt
idle_heard r opened s (inr new) = new_heard r opened s new

closed_heard : (r : LoginRules) (hs opened : List Heard) (s : Standing) → s ≡ standing.Closed → HeardAt r hs opened s
closed_heard r hs opened s closed = subst (λ (z : Standing). HeardAt r hs opened z) (sym closed) tt

shut_heard : (r : LoginRules) (hs opened : List Heard) (s : Standing) → HeardAt r hs opened s → HeardAt r hs opened (shut s)
shut_heard r hs opened (standing.LoggingIn p) h = h
shut_heard r hs opened (standing.Serving v) h = h
shut_heard r hs opened standing.Ended h = tt
shut_heard r hs opened standing.Closed h = tt

-- its own PDUs

login_heard : (t : Target) (r : LoginRules) (hs opened : List Heard) (h : Heard) (a : Answer) (v : Verdict) → a ≡ answer_to r (login_after r hs) h → a.verdict ≡ v
    → HeardAt r (h ∷ hs) (opened_at (opened_by v) (h ∷ hs) opened) (logged_in_by t a v).standing
login_heard t r hs opened h a verdict.Going is says = ap (λ (z : Answer). z.progress) is
login_heard t r hs opened h a verdict.Closed is says = tt
login_heard t r hs opened h a (verdict.Done s) is says = record {
  last = h;
  before = hs;
  login = s;
  heard = refl;
  leads = ap (λ (z : Answer). z.verdict) (sym is) ∙ says;
  nexus = refl;
  discovers = refl;
}

going_heard : (r : LoginRules) (hs hs' opened : List Heard) (v : Serving) (e : Received) (f : Fed) → e.session.nexus ≡ v.session.nexus → e.session.discovers ≡ v.session.discovers
    → HeardAt r hs opened (standing.Serving v) → HeardAt r hs' opened (serving_by f e)
going_heard r hs hs' opened v e Closed same kind h = tt
going_heard r hs hs' opened v e Going same kind h = record {
  last = h.last;
  before = h.before;
  login = h.login;
  heard = h.heard;
  leads = h.leads;
  nexus = same ∙ h.nexus;
  discovers = kind ∙ h.discovers;
}

own_heard : (t : Target) (s : Standing) (p : Pdu) (r : LoginRules) (hs opened : List Heard) → t.rules ≡ r → HeardAt r hs opened s
    → HeardAt r (heard_as t p ∷ hs) (opened_at (step_opened t s p) (heard_as t p ∷ hs) opened) (stepped t s p).standing
own_heard t (standing.LoggingIn login) p r hs opened rules h =
    login_heard (with_words t (turned t.rules t.handle login p t.words).words) r hs opened (heard_as t p) (turned t.rules t.handle login p t.words).answer
    (turned t.rules t.handle login p t.words).answer.verdict
    (ap (λ (z : LoginRules). (turned z t.handle login p t.words).answer) rules ∙ ap (λ (z : Progress). (turned r t.handle z p t.words).answer) h) refl
own_heard t (standing.Serving v) p r hs opened rules h =
    let same = received_nexus (place_of v.session.discovers v.session.numbers.exp.0 p.head) t (paid v.session v.owed) v.held p in
    going_heard r hs (heard_as t p ∷ hs) opened v (received_by v t p) (received_by v t p).fed same.nexus same.discovers h
own_heard t standing.Ended p r hs opened rules h = tt
own_heard t standing.Closed p r hs opened rules h = tt

-- those of others

learned_heard : (r : LoginRules) (hs opened : List Heard) (reset : Reset) (u : List LogicalUnit) (s : Standing) → HeardAt r hs opened s → HeardAt r hs opened (learned reset u s).standing
learned_heard r hs opened reset u (standing.LoggingIn p) h = h
learned_heard r hs opened reset u (standing.Serving v) h = record {
  last = h.last;
  before = h.before;
  login = h.login;
  heard = h.heard;
  leads = h.leads;
  nexus = h.nexus;
  discovers = h.discovers;
}
learned_heard r hs opened reset u standing.Ended h = tt
learned_heard r hs opened reset u standing.Closed h = tt

ended_heard : (r : LoginRules) (hs opened : List Heard) (nexus : List ℕ) (s : Standing) → HeardAt r hs opened s → HeardAt r hs opened (ended_standing nexus s)
ended_heard r hs opened nexus (standing.LoggingIn p) h = h
ended_heard r hs opened nexus (standing.Serving v) h = go (bytes_eq v.session.nexus nexus) where
  go : (b : Bool) → HeardAt r hs opened (if b then standing.Ended else standing.Serving v)
  go true = tt
  go false = h
ended_heard r hs opened nexus standing.Ended h = tt
ended_heard r hs opened nexus standing.Closed h = tt

opening_heard : (r : LoginRules) (hs opened : List Heard) (n : ℕ) (t : Target) (a : Answer) (v : Verdict) → HeardAt r hs opened (standing_in n t.links)
    → HeardAt r hs opened (standing_in n (logged_in_by t a v).target.links)
opening_heard r hs opened n t a verdict.Going h = h
opening_heard r hs opened n t a verdict.Closed h = h
opening_heard r hs opened n t a (verdict.Done s) h =
    subst (λ (z : Standing). HeardAt r hs opened z) (sym (ended_standings n (nexus_of s.who) t.links)) (ended_heard r hs opened (nexus_of s.who) (standing_in n t.links) h)

other_heard : (r : LoginRules) (hs opened : List Heard) (n : ℕ) (t : Target) (s : Standing) (p : Pdu) → HeardAt r hs opened (standing_in n t.links)
    → HeardAt r hs opened (standing_in n (stepped t s p).target.links)
other_heard r hs opened n t (standing.LoggingIn login) p h =
    opening_heard r hs opened n (with_words t (turned t.rules t.handle login p t.words).words) (turned t.rules t.handle login p t.words).answer
    (turned t.rules t.handle login p t.words).answer.verdict h
other_heard r hs opened n t (standing.Serving v) p h =
    told_keep (λ s. HeardAt r hs opened s) (learned_heard r hs opened) n (received_by v t p).resets t.links (received_by v t p).target.links (step_told t v p).links h
other_heard r hs opened n t standing.Ended p h = h
other_heard r hs opened n t standing.Closed p h = h

-- a new connection

new_behind : (r : LoginRules) (hs opened : List Heard) (n m : ℕ) (b : Bool) → HeardAt r (if b then [] else hs) opened (standing_of (if b then Some (new_link m) else None))
new_behind r hs opened n m true = refl
new_behind r hs opened n m false = tt

joined_behind : (r : LoginRules) (hs opened : List Heard) (n m : ℕ) (ls : List Link) → HeardAt r hs opened (standing_in n ls)
    → HeardAt r (if m == n then begun (link_of n ls) hs else hs) opened (standing_in n (ls ++ new_link m ∷ []))
joined_behind r hs opened n m [] h = new_behind r hs opened n m (m == n)
joined_behind r hs opened n m (l ∷ ls) h = go (m == n) (l.number == n) h (λ x. joined_behind r hs opened n m ls x) where
  go : (b d : Bool) → HeardAt r hs opened (standing_of (if d then Some l else link_of n ls))
      → (HeardAt r hs opened (standing_in n ls) → HeardAt r (if b then begun (link_of n ls) hs else hs) opened (standing_in n (ls ++ new_link m ∷ [])))
      → HeardAt r (if b then begun (if d then Some l else link_of n ls) hs else hs) opened (standing_of (if d then Some l else link_of n (ls ++ new_link m ∷ [])))
  go true true x more = x
  go false true x more = x
  go b false x more = more x

joined_heard : (r : LoginRules) (hs opened : List Heard) (n m : ℕ) (ls : List Link) → HeardAt r hs opened (standing_in n ls)
    → HeardAt r (if m == n then begun (link_of m ls) hs else hs) opened (standing_in n (ls ++ new_link m ∷ []))
joined_heard r hs opened n m ls h = go (m == n) refl (joined_behind r hs opened n m ls h) where
  go : (b : Bool) → (m == n) ≡ b → HeardAt r (if b then begun (link_of n ls) hs else hs) opened (standing_in n (ls ++ new_link m ∷ []))
      → HeardAt r (if b then begun (link_of m ls) hs else hs) opened (standing_in n (ls ++ new_link m ∷ []))
  go true is x = subst (λ (k : ℕ). HeardAt r (begun (link_of k ls) hs) opened (standing_in n (ls ++ new_link m ∷ []))) (sym (eqb-true m n is)) x
  go false is x = x

-- each event

left_heard : (r : LoginRules) (hs opened : List Heard) (n m : ℕ) (t : Target) → OneIsBusy n t.links → HeardAt r hs opened (standing_in n t.links)
    → HeardAt r (if m == n then [] else hs) opened (standing_in n (without m t.links))
left_heard r hs opened n m t i h = go (m == n) refl where
  go : (b : Bool) → (m == n) ≡ b → HeardAt r (if b then [] else hs) opened (standing_in n (without m t.links))
  go true is =
      subst (λ (k : ℕ). HeardAt r [] opened (standing_in n (without k t.links))) (sym (eqb-true m n is))
      (idle_heard r opened (standing_in n (without n t.links)) (idle_standing n (without n t.links) i))
  go false is = subst (λ (z : Standing). HeardAt r hs opened z) (sym (ap standing_of (others_found n m t.links is))) h

closes_heard : (r : LoginRules) (hs opened : List Heard) (n m : ℕ) (t : Target) → HeardAt r hs opened (standing_in n t.links) → HeardAt r hs opened (standing_in n (aside m t).links)
closes_heard r hs opened n m t h = go (m == n) refl where
  go : (b : Bool) → (m == n) ≡ b → HeardAt r hs opened (standing_in n (aside m t).links)
  go true is =
      subst (λ (k : ℕ). HeardAt r hs opened (standing_in n (aside k t).links)) (sym (eqb-true m n is))
      (closed_heard r hs opened (standing_in n (aside n t).links) (aside_closed n t))
  go false is = subst (λ (z : Standing). HeardAt r hs opened z) (sym (aside_standing n m t is)) h

link_heard : (r : LoginRules) (hs opened : List Heard) (n m : ℕ) (t : Target) (p : Pdu) (o : Option Link) → t.rules ≡ r → link_of m t.links ≡ o
    → HeardAt r hs opened (standing_in n t.links)
    → HeardAt r (if m == n then heard_as t p ∷ hs else hs)
    (opened_at (if m == n then link_opened t m o p else None) (if m == n then heard_as t p ∷ hs else hs) opened) (standing_in n (heard_of t m o p).target.links)
link_heard r hs opened n m t p None rules found h = go (m == n) refl where
  go : (b : Bool) → (m == n) ≡ b
      → HeardAt r (if b then heard_as t p ∷ hs else hs) (opened_at (if b then None else None) (if b then heard_as t p ∷ hs else hs) opened) (standing_in n t.links)
  go true is =
      closed_heard r (heard_as t p ∷ hs) opened (standing_in n t.links) (subst (λ (k : ℕ). standing_in k t.links ≡ standing.Closed) (eqb-true m n is) (ap standing_of found))
  go false is = h
link_heard r hs opened n m t p (Some l) rules found h = go (m == n) refl where
  s : Step
  s = stepped (aside m t) l.standing p

  after : List Heard
  after = heard_as t p ∷ hs

  go : (b : Bool) → (m == n) ≡ b
      → HeardAt r (if b then heard_as t p ∷ hs else hs)
      (opened_at (if b then link_opened t m (Some l) p else None) (if b then heard_as t p ∷ hs else hs) opened) (standing_in n (heard_of t m (Some l) p).target.links)
  go true is =
      subst (λ (z : Standing). HeardAt r after (opened_at (link_opened t m (Some l) p) after opened) z)
      (sym (subst (λ (k : ℕ). standing_in k (heard_of t m (Some l) p).target.links ≡ shut s.standing) (eqb-true m n is)
      (own_standing m s.standing s.target.links (aside_step m (aside m t) l.standing p (is_aside m t.links l found)))))
      (shut_heard r after (opened_at (link_opened t m (Some l) p) after opened) s.standing
      (own_heard (aside m t) l.standing p r hs opened rules
      (subst (λ (z : Standing). HeardAt r hs opened z) (subst (λ (k : ℕ). standing_in k t.links ≡ l.standing) (eqb-true m n is) (ap standing_of found)) h)))
  go false is =
      subst (λ (z : Standing). HeardAt r hs opened z) (sym (other_standing n m s.standing s.target.links is))
      (shut_heard r hs opened (standing_in n s.target.links)
      (other_heard r hs opened n (aside m t) l.standing p (subst (λ (z : Standing). HeardAt r hs opened z) (sym (aside_standing n m t is)) h)))

event_is_heard : (r : LoginRules) (hs opened : List Heard) (n : ℕ) (t : Target) (e : Event) → t.rules ≡ r → OneIsBusy n t.links → HeardAt r hs opened (standing_in n t.links)
    → HeardAt r (event_heard n t e hs) (opened_at (event_opened n t e) (event_heard n t e hs) opened) (standing_in n (happened t e).target.links)
event_is_heard r hs opened n t (Joined m) rules i h = joined_heard r hs opened n m t.links h
event_is_heard r hs opened n t (Left m) rules i h = left_heard r hs opened n m t i h
event_is_heard r hs opened n t (Told listing) rules i h = h
event_is_heard r hs opened n t (Whole m p) rules i h = link_heard r hs opened n m t p (link_of m t.links) rules refl h
event_is_heard r hs opened n t (Malformed m) rules i h = closes_heard r hs opened n m t h

-- the rules stay

login_rules : (t : Target) (a : Answer) (v : Verdict) → (logged_in_by t a v).target.rules ≡ t.rules
login_rules t a verdict.Going = refl
login_rules t a verdict.Closed = refl
login_rules t a (verdict.Done s) = refl

step_rules : (t : Target) (s : Standing) (p : Pdu) → (stepped t s p).target.rules ≡ t.rules
step_rules t (standing.LoggingIn login) p =
    login_rules (with_words t (turned t.rules t.handle login p t.words).words) (turned t.rules t.handle login p t.words).answer
    (turned t.rules t.handle login p t.words).answer.verdict
step_rules t (standing.Serving v) p = ap (λ (z : Target). z.rules) (step_told t v p).same
step_rules t standing.Ended p = refl
step_rules t standing.Closed p = refl

link_rules : (t : Target) (m : ℕ) (o : Option Link) (p : Pdu) → (heard_of t m o p).target.rules ≡ t.rules
link_rules t m None p = refl
link_rules t m (Some l) p = step_rules (aside m t) l.standing p

event_rules : (t : Target) (e : Event) → (happened t e).target.rules ≡ t.rules
event_rules t (Joined m) = refl
event_rules t (Left m) = refl
event_rules t (Told listing) = refl
event_rules t (Whole m p) = link_rules t m (link_of m t.links) p
event_rules t (Malformed m) = refl

rules_stay : (c : TargetConfig) (es : List Event) → (state_after c es).rules ≡ rules_of c
rules_stay c [] = refl
rules_stay c (e ∷ es) = event_rules (state_after c es) e ∙ rules_stay c es

all_heard : (n : ℕ) (c : TargetConfig) (es : List Event) → HeardAt (rules_of c) (heard_on n c es) (opened_on n c es) (standing_in n (state_after c es).links)
all_heard n c [] = tt
all_heard n c (e ∷ es) =
    event_is_heard (rules_of c) (heard_on n c es) (opened_on n c es) n (state_after c es) e (rules_stay c es) (all_busy n c es) (all_heard n c es)

pub logins_are_heard : LoginsAreHeard
logins_are_heard n c es p is = subst (λ (z : Standing). HeardAt (rules_of c) (heard_on n c es) (opened_on n c es) z) is (all_heard n c es)

pub served_have_proved : ServedHaveProved
served_have_proved n c es chap v asks is normal =
    let by : IsOpened (rules_of c) (opened_on n c es) v.session = subst (λ (z : Standing). HeardAt (rules_of c) (heard_on n c es) (opened_on n c es) z) is (all_heard n c es) in (
      by.login.who,
      by.nexus,
      subst (λ (z : List Heard). HasProved (rules_of c) chap by.login.who z) (sym by.heard)
          (only_proved_log_in (rules_of c) chap by.last by.before by.login asks by.leads (sym by.discovers ∙ normal)),
    )
