-- PDUs of a connection in two parts, and what they let the units execute.
use Rattle.std.proofs.Common.{◌≡◌, ◌∙◌, Some, None, List, [], ◌∷◌, ◌++◌, refl, ap, sym, append_assoc}
use Rattle.std.specs.List.{flat_map}
use Rattle.oi_pdu.specs.declared.codec.Pdu.{Pdu}
use Rattle.oi_target.specs.Runs.{StepsExecute, StepsJoin, in_turn_requests, learned_requests, link_learned, requests_at, reset_requests, step_requests, steps_requests, turn_others, turn_own, turn_requests}
use Rattle.oi_target.specs.Steps.{Step, behind, logged_in_by, one_then, step_of, stepped, steps, with_words}
use Rattle.oi_target.specs.Targets.{Reached, Target, learned, reset_each, reset_links}
use Rattle.oi_target.specs.Turns.{Received, followed, in_turn, received_at, received_turn, told, turn_of}
use Rattle.oi_target.specs.declared.link.Link.{Link}
use Rattle.oi_target.specs.declared.link.Standing.{Standing}
use Rattle.oi_target.specs.declared.link.Standing.TheVariants as standing
use Rattle.oi_target_login.specs.Logins.{turned}
use Rattle.oi_target_login.specs.declared.answer.Answer.{Answer}
use Rattle.oi_target_login.specs.declared.answer.Verdict.{Verdict}
use Rattle.oi_target_login.specs.declared.answer.Verdict.TheVariants as verdict
use Rattle.oi_target_session.proofs.Executed.{joined_units, served_units, stopped_units}
use Rattle.oi_target_session.proofs.Wakes.{woken_in_order}
use Rattle.oi_target_session.specs.Arrivals.{Held, advanced, place_of}
use Rattle.oi_target_session.specs.Executions.{if_going}
use Rattle.oi_target_session.specs.Owing.{paid}
use Rattle.oi_target_session.specs.Sessions.{Session, Turn, spared, without_resets}
use Rattle.oi_target_session.specs.declared.fed.Fed.{Fed}
use Rattle.oi_target_session.specs.declared.fed.Fed.TheVariants.{Going, Closed}
use Rattle.oi_target_session.specs.declared.place.Place.{Place}
use Rattle.oi_target_session.specs.declared.place.Place.TheVariants.{Now, InTurn, Early, Outside}
use Rattle.oi_target_session.specs.declared.reset.Reset.{Reset}
use Rattle.oi_units.specs.Runs.{Request, units_after}
use Rattle.oi_units.specs.declared.unit.LogicalUnit.{LogicalUnit}

after_both : (f g : Fed) (a b c : Step) → f ≡ a.fed → g ≡ b.fed → one_then f a (one_then g b c) ≡ one_then (one_then f a b).fed (one_then f a b) c
after_both Closed g a b c is was = ap (λ (z : Fed). one_then z a c) is
after_both Going Closed a b c is was = ap (λ (z : Fed). one_then z (behind a.sent b) c) was
after_both Going Going a b c is was =
    ap (λ (z : List Pdu). step_of c.target c.standing z c.fed) (sym (append_assoc a.sent b.sent c.sent))
    ∙ ap (λ (z : Fed). one_then z (behind a.sent b) c) was

same_end : (f : Fed) (a b : Step) (qs : List Pdu) → f ≡ a.fed
    → one_then (one_then f a b).fed (one_then f a b) (steps b.target b.standing qs)
    ≡ one_then (one_then f a b).fed (one_then f a b) (steps (one_then f a b).target (one_then f a b).standing qs)
same_end Going a b qs is = refl
same_end Closed a b qs is =
    ap (λ (z : Fed). one_then z a (steps b.target b.standing qs)) (sym is) ∙ ap (λ (z : Fed). one_then z a (steps a.target a.standing qs)) is

pub steps_join : StepsJoin
steps_join t s [] qs = refl
steps_join t s (p ∷ ps) qs =
    ap (λ (z : Step). one_then a.fed a z) (steps_join a.target a.standing ps qs)
    ∙ after_both a.fed b.fed a b (steps b.target b.standing qs) refl refl
    ∙ same_end a.fed a b qs refl where
      a : Step
      a = stepped t s p

      b : Step
      b = steps a.target a.standing ps

login_units : (t : Target) (a : Answer) (v : Verdict) → (logged_in_by t a v).target.units ≡ t.units
login_units t a verdict.Going = refl
login_units t a verdict.Closed = refl
login_units t a (verdict.Done s) = refl

-- commands behind resets
pub learned_units : (reset : Reset) (units : List LogicalUnit) (s : Standing) → (learned reset units s).units ≡ units_after units (learned_requests reset s)
learned_units reset units (standing.LoggingIn p) = refl
learned_units reset units (standing.Serving v) = (woken_in_order v.session.nexus units (spared reset v.session.tasks)).0
learned_units reset units standing.Ended = refl
learned_units reset units standing.Closed = refl

pub each_units : (reset : Reset) (units : List LogicalUnit) (ls : List Link)
    → (reset_each reset units ls).units ≡ units_after units (flat_map (link_learned reset) ls)
each_units reset units [] = refl
each_units reset units (l ∷ ls) =
    let one : List LogicalUnit = (learned reset units l.standing).units in
    joined_units units one (reset_each reset one ls).units (link_learned reset l) (flat_map (link_learned reset) ls) (learned_units reset units l.standing)
    (each_units reset one ls)

resets_units : (resets : List Reset) (units : List LogicalUnit) (ls : List Link)
    → (reset_links resets units ls).units ≡ units_after units (reset_requests resets units ls)
resets_units [] units ls = refl
resets_units (reset ∷ resets) units ls =
    let one : Reached = reset_each reset units ls in
    joined_units units one.units (reset_links resets one.units one.links).units (flat_map (link_learned reset) ls)
    (reset_requests resets one.units one.links) (each_units reset units ls) (resets_units resets one.units one.links)

-- a PDU whose turn it is
pub told_units : (t : Target) (s : Session) (p : Pdu) → (told t (turn_of t s p)).units ≡ units_after t.units (turn_requests t s p)
told_units t s p =
    let turn : Turn = turn_of t s p in
    joined_units t.units turn.units (told t turn).units (turn_own t s p) (turn_others t s p) (served_units s t.units t.listing p)
    (resets_units turn.session.resets turn.units t.links)

-- with those that were held
in_turn_units : (t : Target) (s : Session) (p : Pdu) (held : Held) → (in_turn t s p held).target.units ≡ units_after t.units (in_turn_requests t s p held)
in_turn_units t s p [] = told_units t (advanced s) p
in_turn_units t s p (None ∷ held) = told_units t (advanced s) p
in_turn_units t s p (Some next ∷ held) = go turn.fed (told_units t (advanced s) p) (in_turn_units (told t turn) (without_resets turn.session) next held) where
  turn : Turn
  turn = turn_of t (advanced s) p

  first : List Request
  first = turn_requests t (advanced s) p

  rest : List Request
  rest = in_turn_requests (told t turn) (without_resets turn.session) next held

  end : Received
  end = in_turn (told t turn) (without_resets turn.session) next held

  go : (f : Fed) → (told t turn).units ≡ units_after t.units first → end.target.units ≡ units_after (told t turn).units rest
      → (followed f (received_turn t held turn) end).target.units ≡ units_after t.units (first ++ if_going f rest)
  go Closed is was = stopped_units t.units (told t turn).units first is
  go Going is was = joined_units t.units (told t turn).units end.target.units first rest is was

received_units : (place : Place) (t : Target) (s : Session) (held : Held) (p : Pdu)
    → (received_at place t s held p).target.units ≡ units_after t.units (requests_at place t s held p)
received_units Now t s held p = told_units t s p
received_units InTurn t s held p = in_turn_units t s p held
received_units (Early at) t s held p = refl
received_units Outside t s held p = refl

pub step_units : (t : Target) (s : Standing) (p : Pdu) → (stepped t s p).target.units ≡ units_after t.units (step_requests t s p)
step_units t (standing.LoggingIn login) p =
    login_units (with_words t (turned t.rules t.handle login p t.words).words) (turned t.rules t.handle login p t.words).answer
    (turned t.rules t.handle login p t.words).answer.verdict
step_units t (standing.Serving v) p =
    received_units (place_of v.session.discovers v.session.numbers.exp.0 p.head) t (paid v.session v.owed) v.held p
step_units t standing.Ended p = refl
step_units t standing.Closed p = refl

pub steps_execute : StepsExecute
steps_execute t s [] = refl
steps_execute t s (p ∷ ps) = go a.fed (step_units t s p) (steps_execute a.target a.standing ps) where
  a : Step
  a = stepped t s p

  go : (f : Fed) → a.target.units ≡ units_after t.units (step_requests t s p)
      → (steps a.target a.standing ps).target.units ≡ units_after a.target.units (steps_requests a.target a.standing ps)
      → (one_then f a (steps a.target a.standing ps)).target.units
      ≡ units_after t.units (step_requests t s p ++ if_going f (steps_requests a.target a.standing ps))
  go Closed is was = stopped_units t.units a.target.units (step_requests t s p) is
  go Going is was =
      joined_units t.units a.target.units (steps a.target a.standing ps).target.units (step_requests t s p)
      (steps_requests a.target a.standing ps) is was
