-- PDUs that became whole one after another are as many events.
use Rattle.std.proofs.Common.{ℕ, Bool, true, false, ◌≡◌, ◌∙◌, Option, Some, None, List, [], ◌∷◌, ◌++◌, map, refl, ap, sym, subst, append-nil, append_assoc, if◌then◌else◌, ◌==◌}
use Rattle.oi_pdu.specs.declared.codec.Pdu.{Pdu}
use Rattle.oi_stream.specs.Framing.{Stop, BadHeader, TooLong, Short}
use Rattle.oi_target.proofs.Bared.{IsAside, aside_step, heard_alike, seat, seat_again, seat_bare, seat_closed, step_alike, step_shut}
use Rattle.oi_target.proofs.Placed.{link_map, link_placed, over, placed_none}
use Rattle.oi_target.specs.Courses.{came, spoilt}
use Rattle.oi_target.specs.Events.{Event, Whole, Malformed, Happened, bare, bare_link, happened, heard, heard_of, sent_to, shut, state_after}
use Rattle.oi_target.specs.Steps.{Step, logged_in_by, one_then, received_by, serving_by, stepped, steps, with_words}
use Rattle.oi_target.specs.Targets.{Target, aside, closed_link, link_at, link_of, no_bytes, with_links}
use Rattle.oi_target.specs.declared.config.TargetConfig.{TargetConfig}
use Rattle.oi_target.specs.declared.link.Link.{Link}
use Rattle.oi_target.specs.declared.link.Standing.{Standing}
use Rattle.oi_target.specs.declared.link.Standing.TheVariants as standing
use Rattle.oi_target_login.specs.Logins.{turned}
use Rattle.oi_target_login.specs.declared.answer.Answer.{Answer}
use Rattle.oi_target_login.specs.declared.answer.Verdict.{Verdict}
use Rattle.oi_target_login.specs.declared.answer.Verdict.TheVariants as verdict
use Rattle.oi_target_session.specs.declared.fed.Fed.{Fed}
use Rattle.oi_target_session.specs.declared.fed.Fed.TheVariants.{Going, Closed}

-- where a connection that is aside stands
abbrev pub seated : ℕ → Standing → Target → Target
seated n s t = seat n (shut s) (bare t)

link_seated : (n : ℕ) (s : Standing) (t : Target) → IsAside n t.links → link_of n (seated n s t).links ≡ Some (link_at n no_bytes (shut s))
link_seated n s t a =
    link_placed (link_at n no_bytes (shut s)) (map bare_link t.links)
    ∙ ap (over (λ l. link_at n no_bytes (shut s))) (link_map bare_link (λ l. refl) n t.links ∙ ap (over bare_link) a.found)

aside_seated : (n : ℕ) (s : Standing) (t : Target) → IsAside n t.links → aside n (seated n s t) ≡ bare t
aside_seated n s t a = seat_again n standing.Closed (shut s) (bare t) ∙ seat_closed n t a

-- one PDU
one_event : (n : ℕ) (s : Standing) (t : Target) (p : Pdu) → IsAside n t.links
    → happened (seated n s t) (Whole n p) ≡ record { target = seated n (stepped t s p).standing (stepped t s p).target; sent = (stepped t s p).sent }
one_event n s t p a =
    ap (λ (o : Option Link). heard_of (seated n s t) n o p) (link_seated n s t a)
    ∙ ap (λ (u : Target). heard n (stepped u (shut s) p)) (aside_seated n s t a)
    ∙ ap (λ (z : Step). heard n z) (step_shut (bare t) s p)
    ∙ heard_alike n (stepped (bare t) s p) (stepped t s p) (step_alike t s p)
    ∙ ap (λ (u : Target). record { target = u; sent = (stepped t s p).sent }) (seat_bare n no_bytes (stepped t s p))

-- what was sent, behind what was sent before
pub record Comes (c : TargetConfig) (n : ℕ) (es after : List Event) (target : Target) (sent : List Pdu) : Type 0 where
  pub state : state_after c after ≡ target
  pub sends : (k : ℕ) → sent_to k c after ≡ sent_to k c es ++ (if n == k then sent else [])

nothing_more : (b : Bool) (xs : List Pdu) → xs ≡ xs ++ (if b then [] else [])
nothing_more true xs = sym (append-nil xs)
nothing_more false xs = sym (append-nil xs)

both_parts : (b : Bool) (xs ys zs : List Pdu) → (xs ++ (if b then ys else [])) ++ (if b then zs else []) ≡ xs ++ (if b then ys ++ zs else [])
both_parts true xs ys zs = append_assoc xs ys zs
both_parts false xs ys zs = append_assoc xs [] []

no_events : (c : TargetConfig) (n : ℕ) (es : List Event) (target : Target) → state_after c es ≡ target → Comes c n es es target []
no_events c n es target is = record { state = is; sends = λ k. nothing_more (n == k) (sent_to k c es) }

-- one event, and then others
more_events : (c : TargetConfig) (n : ℕ) (p : Pdu) (es after : List Event) (target : Target) (first rest : List Pdu)
    → (happened (state_after c es) (Whole n p)).sent ≡ first → Comes c n (Whole n p ∷ es) after target rest → Comes c n es after target (first ++ rest)
more_events c n p es after target first rest says more = record {
  state = more.state;
  sends = λ k. more.sends k
      ∙ ap (λ (z : List Pdu). (sent_to k c es ++ (if n == k then z else [])) ++ (if n == k then rest else [])) says
      ∙ both_parts (n == k) (sent_to k c es) first rest;
}

-- a connection on which a PDU has no effect
pub deaf_events : (c : TargetConfig) (n : ℕ) (ps : List Pdu) (es : List Event) (target : Target)
    → ((p : Pdu) → happened target (Whole n p) ≡ record { target = target; sent = [] }) → state_after c es ≡ target → Comes c n es (came n ps es) target []
deaf_events c n [] es target deaf is = no_events c n es target is
deaf_events c n (p ∷ ps) es target deaf is =
    let here : happened (state_after c es) (Whole n p) ≡ record { target = target; sent = [] } = ap (λ (z : Target). happened z (Whole n p)) is ∙ deaf p in
    more_events c n p es (came n ps (Whole n p ∷ es)) target [] [] (ap (λ (z : Happened). z.sent) here)
    (deaf_events c n ps (Whole n p ∷ es) target deaf (ap (λ (z : Happened). z.target) here))

-- a closed one
pub closed_events : (c : TargetConfig) (n : ℕ) (ps : List Pdu) (es : List Event) (t : Target) → IsAside n t.links → state_after c es ≡ seated n standing.Closed t
    → Comes c n es (came n ps es) (seated n standing.Closed t) []
closed_events c n ps es t a is = deaf_events c n ps es (seated n standing.Closed t) (λ p. one_event n standing.Closed t p a) is

-- one that is not there
pub lost_events : (c : TargetConfig) (n : ℕ) (ps : List Pdu) (es : List Event) (t : Target) → link_of n t.links ≡ None → state_after c es ≡ t
    → Comes c n es (came n ps es) t []
lost_events c n ps es t none is = deaf_events c n ps es t (λ p. ap (λ (o : Option Link). heard_of t n o p) none) is

login_shuts : (t : Target) (a : Answer) (v : Verdict) → (logged_in_by t a v).fed ≡ Closed → (logged_in_by t a v).standing ≡ standing.Closed
login_shuts t a verdict.Going e = absurd (let n : ⊥ = cc in n)
login_shuts t a verdict.Closed e = refl
login_shuts t a (verdict.Done s) e = absurd (let n : ⊥ = cc in n)

pub step_shuts : (t : Target) (s : Standing) (p : Pdu) → (stepped t s p).fed ≡ Closed → (stepped t s p).standing ≡ standing.Closed
step_shuts t (standing.LoggingIn login) p e =
    login_shuts (with_words t (turned t.rules t.handle login p t.words).words) (turned t.rules t.handle login p t.words).answer
    (turned t.rules t.handle login p t.words).answer.verdict e
step_shuts t (standing.Serving v) p e =
    ap (λ (f : Fed). serving_by f (received_by v t p)) e
step_shuts t standing.Ended p e = refl
step_shuts t standing.Closed p e = refl

-- all PDUs of a piece
pub came_events : (c : TargetConfig) (n : ℕ) (ps : List Pdu) (es : List Event) (s : Standing) (t : Target) → IsAside n t.links
    → state_after c es ≡ seated n s t → Comes c n es (came n ps es) (seated n (steps t s ps).standing (steps t s ps).target) (steps t s ps).sent
came_events c n [] es s t a is = no_events c n es (seated n s t) is
came_events c n (p ∷ ps) es s t a is =
    go (stepped t s p).fed refl (λ aside_then stands_then. came_events c n ps (Whole n p ∷ es) (stepped t s p).standing (stepped t s p).target aside_then stands_then) where
      one : Step
      one = stepped t s p

      here : happened (state_after c es) (Whole n p) ≡ record { target = seated n one.standing one.target; sent = one.sent }
      here = ap (λ (z : Target). happened z (Whole n p)) is ∙ one_event n s t p a

      stands : state_after c (Whole n p ∷ es) ≡ seated n one.standing one.target
      stands = ap (λ (z : Happened). z.target) here

      aside_still : IsAside n one.target.links
      aside_still = aside_step n t s p a

      shuts : one.fed ≡ Closed → Comes c n es (came n ps (Whole n p ∷ es)) (seated n one.standing one.target) (one.sent ++ [])
      shuts closed = more_events c n p es (came n ps (Whole n p ∷ es)) (seated n one.standing one.target) one.sent [] (ap (λ (z : Happened). z.sent) here)
          (subst (λ (z : Standing). Comes c n (Whole n p ∷ es) (came n ps (Whole n p ∷ es)) (seated n z one.target) []) (sym (step_shuts t s p closed))
          (closed_events c n ps (Whole n p ∷ es) one.target aside_still (stands ∙ ap (λ (z : Standing). seated n z one.target) (step_shuts t s p closed))))

      go : (f : Fed) → one.fed ≡ f
          → (IsAside n one.target.links → state_after c (Whole n p ∷ es) ≡ seated n one.standing one.target
          → Comes c n (Whole n p ∷ es) (came n ps (Whole n p ∷ es)) (seated n (steps one.target one.standing ps).standing (steps one.target one.standing ps).target)
          (steps one.target one.standing ps).sent)
          → Comes c n es (came n ps (Whole n p ∷ es))
          (seated n (one_then f one (steps one.target one.standing ps)).standing (one_then f one (steps one.target one.standing ps)).target)
          (one_then f one (steps one.target one.standing ps)).sent
      go Closed closed more =
          subst (λ (z : List Pdu). Comes c n es (came n ps (Whole n p ∷ es)) (seated n one.standing one.target) z) (append-nil one.sent) (shuts closed)
      go Going going more = more_events c n p es (came n ps (Whole n p ∷ es))
          (seated n (steps one.target one.standing ps).standing (steps one.target one.standing ps).target) one.sent (steps one.target one.standing ps).sent
          (ap (λ (z : Happened). z.sent) here)
          (more aside_still stands)

-- a malformed PDU behind them
pub spoilt_events : (c : TargetConfig) (n : ℕ) (stop : Stop) (es before : List Event) (target : Target) (sent : List Pdu) → Comes c n before es target sent
    → aside n target ≡ target → Comes c n before (spoilt n stop es) target sent
spoilt_events c n Short es before target sent comes deaf = comes
spoilt_events c n (BadHeader byte) es before target sent comes deaf =
    record { state = ap (λ (z : Target). aside n z) comes.state ∙ deaf; sends = comes.sends }
spoilt_events c n (TooLong size) es before target sent comes deaf =
    record { state = ap (λ (z : Target). aside n z) comes.state ∙ deaf; sends = comes.sends }

pub shut_events : (c : TargetConfig) (n : ℕ) (es before : List Event) (t : Target) (s : Standing) (sent : List Pdu) → IsAside n t.links
    → Comes c n before es (seated n s t) sent → Comes c n before (Malformed n ∷ es) (seated n standing.Closed t) sent
shut_events c n es before t s sent a comes =
    record { state = ap (λ (z : Target). aside n z) comes.state ∙ seat_again n standing.Closed (shut s) (bare t); sends = comes.sends }

pub aside_closed : (n : ℕ) (t : Target) → aside n (seated n standing.Closed t) ≡ seated n standing.Closed t
aside_closed n t = seat_again n standing.Closed standing.Closed (bare t)

pub aside_lost : (n : ℕ) (t : Target) → link_of n t.links ≡ None → aside n t ≡ t
aside_lost n t none = ap (λ (z : List Link). with_links t z) (placed_none (closed_link n) t.links none)
