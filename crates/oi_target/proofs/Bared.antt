-- What a target does asks for no bytes of its connections, and for none that was ended.
use Rattle.std.proofs.Common.{ℕ, ◌≡◌, ◌∙◌, Some, None, List, [], ◌∷◌, ◌++◌, map, refl, ap, sym, subst}
use Rattle.oi_pdu.specs.declared.codec.Pdu.{Pdu}
use Rattle.oi_stream.specs.Feeding.{State}
use Rattle.oi_target.proofs.Learned.{link_reached, relearned}
use Rattle.oi_target.proofs.Told.{AreTold, step_told}
use Rattle.oi_target.proofs.Placed.{link_map, link_placed, over, placed_map, placed_same, placed_twice}
use Rattle.oi_target.specs.Events.{bare, bare_link, heard, shut}
use Rattle.oi_target.specs.Feeding.{put_back}
use Rattle.oi_target.specs.Steps.{Step, behind, logged_in_by, one_then, received_by, served_as, serving_by, stepped, steps, with_words}
use Rattle.oi_target.specs.Targets.{Learned, Reached, Target, aside, closed_link, ended_by, ended_standing, learned, link_at, link_of, nexus_of, no_bytes, placed, reached_behind, reset_each, reset_links, with_links}
use Rattle.oi_target.specs.Turns.{Received, followed, in_turn, reached, received_at, received_turn, told, turn_of}
use Rattle.oi_target.specs.declared.link.Link.{Link}
use Rattle.oi_target.specs.declared.link.Standing.{Standing}
use Rattle.oi_target.specs.declared.link.Standing.TheVariants as standing
use Rattle.oi_target_login.specs.Logins.{turned}
use Rattle.oi_target_login.specs.declared.answer.Answer.{Answer}
use Rattle.oi_target_login.specs.declared.answer.Verdict.{Verdict}
use Rattle.oi_target_login.specs.declared.answer.Verdict.TheVariants as verdict
use Rattle.oi_target_session.specs.Arrivals.{Held, advanced, place_of}
use Rattle.oi_target_session.specs.Owing.{owed_pdus, paid}
use Rattle.oi_target_session.specs.Sessions.{Session, Turn, without_resets}
use Rattle.oi_target_session.specs.declared.fed.Fed.{Fed}
use Rattle.oi_target_session.specs.declared.fed.Fed.TheVariants.{Going, Closed}
use Rattle.oi_target_session.specs.declared.place.Place.{Place}
use Rattle.oi_target_session.specs.declared.place.Place.TheVariants.{Now, InTurn, Early, Outside}
use Rattle.oi_target_session.specs.declared.reset.Reset.{Reset}
use Rattle.oi_units.specs.declared.unit.LogicalUnit.{LogicalUnit}

ended_shut : (nexus : List ℕ) (s : Standing) → shut (ended_standing nexus s) ≡ shut (ended_standing nexus (shut s))
ended_shut nexus (standing.LoggingIn p) = refl
ended_shut nexus (standing.Serving v) = refl
ended_shut nexus standing.Ended = refl
ended_shut nexus standing.Closed = refl

abbrev pub shut_learned : Learned → Learned
shut_learned d = record { units = d.units; standing = shut d.standing }

learned_shut : (reset : Reset) (units : List LogicalUnit) (s : Standing) → shut_learned (learned reset units s) ≡ shut_learned (learned reset units (shut s))
learned_shut reset units (standing.LoggingIn p) = refl
learned_shut reset units (standing.Serving v) = refl
learned_shut reset units standing.Ended = refl
learned_shut reset units standing.Closed = refl

pub shut_twice : (s : Standing) → shut (shut s) ≡ shut s
shut_twice (standing.LoggingIn p) = refl
shut_twice (standing.Serving v) = refl
shut_twice standing.Ended = refl
shut_twice standing.Closed = refl

ended_bare : (nexus : List ℕ) (ls : List Link) → map bare_link (map (ended_by nexus) (map bare_link ls)) ≡ map bare_link (map (ended_by nexus) ls)
ended_bare nexus [] = refl
ended_bare nexus (l ∷ ls) =
    ap (λ (s : Standing). link_at l.number no_bytes s ∷ map bare_link (map (ended_by nexus) (map bare_link ls))) (sym (ended_shut nexus l.standing))
    ∙ ap (λ (z : List Link). bare_link (ended_by nexus l) ∷ z) (ended_bare nexus ls)

abbrev pub bare_reached : Reached → Reached
bare_reached r = record { units = r.units; links = map bare_link r.links }

each_bare : (reset : Reset) (units : List LogicalUnit) (ls : List Link)
    → bare_reached (reset_each reset units (map bare_link ls)) ≡ bare_reached (reset_each reset units ls)
each_bare reset units [] = refl
each_bare reset units (l ∷ ls) =
    ap (λ (d : Learned). reached_behind (link_at l.number no_bytes d.standing) (bare_reached (reset_each reset d.units (map bare_link ls))))
    (sym (learned_shut reset units l.standing))
    ∙ ap (λ (z : Reached). reached_behind (bare_link (relearned reset units l)) z) (each_bare reset (learned reset units l.standing).units ls)

pub bare_twice : (ls : List Link) → map bare_link (map bare_link ls) ≡ map bare_link ls
bare_twice [] = refl
bare_twice (l ∷ ls) =
    ap (λ (s : Standing). link_at l.number no_bytes s ∷ map bare_link (map bare_link ls)) (shut_twice l.standing)
    ∙ ap (λ (z : List Link). bare_link l ∷ z) (bare_twice ls)

resets_bare : (resets : List Reset) (units : List LogicalUnit) (ls : List Link)
    → bare_reached (reset_links resets units (map bare_link ls)) ≡ bare_reached (reset_links resets units ls)
resets_bare [] units ls = ap (λ (z : List Link). record { units = units; links = z }) (bare_twice ls)
resets_bare (reset ∷ resets) units ls =
    let barely : Reached = reset_each reset units (map bare_link ls) in
    let fully : Reached = reset_each reset units ls in
    sym (resets_bare resets barely.units barely.links)
    ∙ ap (λ (z : Reached). bare_reached (reset_links resets z.units z.links)) (each_bare reset units ls)
    ∙ resets_bare resets fully.units fully.links

-- two steps that differ in bytes alone
pub record AreAlike (a b : Step) : Type 0 where
  pub target : bare a.target ≡ bare b.target
  pub standing : a.standing ≡ b.standing
  pub sent : a.sent ≡ b.sent
  pub fed : a.fed ≡ b.fed

login_alike : (t : Target) (a : Answer) (v : Verdict) → AreAlike (logged_in_by (bare t) a v) (logged_in_by t a v)
login_alike t a verdict.Going = record { target = ap (λ (z : List Link). with_links t z) (bare_twice t.links); standing = refl; sent = refl; fed = refl }
login_alike t a verdict.Closed = record { target = ap (λ (z : List Link). with_links t z) (bare_twice t.links); standing = refl; sent = refl; fed = refl }
login_alike t a (verdict.Done s) = record {
  target = ap (λ (z : List Link). with_links (logged_in_by t a (verdict.Done s)).target z) (ended_bare (nexus_of s.who) t.links);
  standing = refl;
  sent = refl;
  fed = refl;
}

-- two outcomes of a PDU that differ in bytes alone
record AreNear (a b : Received) : Type 0 where
  pub target : bare a.target ≡ bare b.target
  pub session : a.session ≡ b.session
  pub held : a.held ≡ b.held
  pub sent : a.sent ≡ b.sent
  pub fed : a.fed ≡ b.fed

-- both are near the same one
near_both : (a b c : Received) → AreNear a b → AreNear a c → AreNear b c
near_both a b c x y = record {
  target = sym x.target ∙ y.target;
  session = sym x.session ∙ y.session;
  held = sym x.held ∙ y.held;
  sent = sym x.sent ∙ y.sent;
  fed = sym x.fed ∙ y.fed;
}

told_bare : (t : Target) (turn : Turn) → bare (told (bare t) turn) ≡ bare (told t turn)
told_bare t turn = ap (λ (z : Reached). reached t z) (resets_bare turn.session.resets turn.units t.links)

turn_near : (t : Target) (held : Held) (turn : Turn) → AreNear (received_turn (bare t) held turn) (received_turn t held turn)
turn_near t held turn = record { target = told_bare t turn; session = refl; held = refl; sent = refl; fed = refl }

in_turn_near : (t : Target) (s : Session) (p : Pdu) (held : Held) → AreNear (in_turn (bare t) s p held) (in_turn t s p held)
in_turn_near t s p [] = turn_near t [] (turn_of t (advanced s) p)
in_turn_near t s p (None ∷ held) = turn_near t held (turn_of t (advanced s) p)
in_turn_near t s p (Some next ∷ held) = go turn.fed (near_both (in_turn (bare barely) behind_it next held) (in_turn barely behind_it next held)
    (in_turn fully behind_it next held) (in_turn_near barely behind_it next held)
    (subst (λ (z : Target). AreNear (in_turn z behind_it next held) (in_turn fully behind_it next held)) (sym (told_bare t turn))
    (in_turn_near fully behind_it next held))) where
      turn : Turn
      turn = turn_of t (advanced s) p

      behind_it : Session
      behind_it = without_resets turn.session

      barely : Target
      barely = told (bare t) turn

      fully : Target
      fully = told t turn

      go : (f : Fed) → AreNear (in_turn barely behind_it next held) (in_turn fully behind_it next held)
          → AreNear (followed f (received_turn (bare t) held turn) (in_turn barely behind_it next held)) (followed f (received_turn t held turn) (in_turn fully behind_it next held))
      go Closed near = turn_near t held turn
      go Going near = record {
        target = near.target;
        session = near.session;
        held = near.held;
        sent = ap (λ (z : List Pdu). turn.sent ++ z) near.sent;
        fed = near.fed;
      }

received_near : (place : Place) (t : Target) (s : Session) (held : Held) (p : Pdu) → AreNear (received_at place (bare t) s held p) (received_at place t s held p)
received_near Now t s held p = turn_near t held (turn_of t s p)
received_near InTurn t s held p = in_turn_near t s p held
received_near (Early at) t s held p =
    record { target = ap (λ (z : List Link). with_links t z) (bare_twice t.links); session = refl; held = refl; sent = refl; fed = refl }
received_near Outside t s held p =
    record { target = ap (λ (z : List Link). with_links t z) (bare_twice t.links); session = refl; held = refl; sent = refl; fed = refl }

serving_near : (a b : Received) → AreNear a b → serving_by a.fed a ≡ serving_by b.fed b
serving_near a b near =
    ap (λ (z : Fed). serving_by z a) near.fed ∙ go b.fed where
      go : (f : Fed) → serving_by f a ≡ serving_by f b
      go Closed = refl
      go Going =
          ap (λ (z : Session). standing.Serving (record { session = z; held = a.held; owed = [] })) near.session
          ∙ ap (λ (z : Held). standing.Serving (record { session = b.session; held = z; owed = [] })) near.held

served_near : (sent : List Pdu) (a b : Received) → AreNear a b → AreAlike (behind sent (served_as a)) (behind sent (served_as b))
served_near sent a b near =
    record { target = near.target; standing = serving_near a b near; sent = ap (λ (z : List Pdu). sent ++ z) near.sent; fed = near.fed }

pub step_alike : (t : Target) (s : Standing) (p : Pdu) → AreAlike (stepped (bare t) s p) (stepped t s p)
step_alike t (standing.LoggingIn login) p =
    login_alike (with_words t (turned t.rules t.handle login p t.words).words) (turned t.rules t.handle login p t.words).answer
    (turned t.rules t.handle login p t.words).answer.verdict
step_alike t (standing.Serving v) p = served_near (owed_pdus v.session v.owed) (received_at place (bare t) s v.held p) (received_at place t s v.held p)
    (received_near place t s v.held p) where
      place : Place
      place = place_of v.session.discovers v.session.numbers.exp.0 p.head

      s : Session
      s = paid v.session v.owed
step_alike t standing.Ended p = record { target = ap (λ (z : List Link). with_links t z) (bare_twice t.links); standing = refl; sent = refl; fed = refl }
step_alike t standing.Closed p = record { target = ap (λ (z : List Link). with_links t z) (bare_twice t.links); standing = refl; sent = refl; fed = refl }

-- a connection that was ended is as a closed one
pub step_shut : (t : Target) (s : Standing) (p : Pdu) → stepped t (shut s) p ≡ stepped t s p
step_shut t (standing.LoggingIn login) p = refl
step_shut t (standing.Serving v) p = refl
step_shut t standing.Ended p = refl
step_shut t standing.Closed p = refl

-- the connection in its place, without bytes
abbrev pub seat : ℕ → Standing → Target → Target
seat n s u = with_links u (placed (link_at n no_bytes s) u.links)

pub seat_bare : (n : ℕ) (splitter : State) (s : Step) → bare (put_back n splitter s) ≡ seat n (shut s.standing) (bare s.target)
seat_bare n splitter s = ap (λ (z : List Link). with_links s.target z) (placed_map bare_link (λ l. refl) (link_at n splitter s.standing) s.target.links)

pub heard_alike : (n : ℕ) (a b : Step) → AreAlike a b → heard n a ≡ heard n b
heard_alike n a b are =
    ap (λ (z : Target). record { target = z; sent = a.sent }) (seat_bare n no_bytes a)
    ∙ ap (λ (z : Target). record { target = seat n (shut a.standing) z; sent = a.sent }) are.target
    ∙ ap (λ (z : Standing). record { target = seat n (shut z) (bare b.target); sent = a.sent }) are.standing
    ∙ ap (λ (z : List Pdu). record { target = seat n (shut b.standing) (bare b.target); sent = z }) are.sent
    ∙ ap (λ (z : Target). record { target = z; sent = b.sent }) (sym (seat_bare n no_bytes b))

-- the connection is aside
pub record IsAside (n : ℕ) (ls : List Link) : Type 0 where
  pub link : Link
  pub found : link_of n ls ≡ Some link
  pub closed : link.standing ≡ standing.Closed

aside_ended : (n : ℕ) (nexus : List ℕ) (ls : List Link) → IsAside n ls → IsAside n (map (ended_by nexus) ls)
aside_ended n nexus ls a = record {
  link = ended_by nexus a.link;
  found = link_map (ended_by nexus) (λ l. refl) n ls ∙ ap (over (ended_by nexus)) a.found;
  closed = ap (ended_standing nexus) a.closed;
}

aside_each : (n : ℕ) (reset : Reset) (units : List LogicalUnit) (ls : List Link) → IsAside n ls → IsAside n (reset_each reset units ls).links
aside_each n reset units ls a = record {
  link = relearned reset found.0 a.link;
  found = found.1 ∙ ap (over (relearned reset found.0)) a.found;
  closed = ap (λ (s : Standing). (learned reset found.0 s).standing) a.closed;
} where
  found : (u : List LogicalUnit) × (link_of n (reset_each reset units ls).links ≡ over (relearned reset u) (link_of n ls))
  found = link_reached n reset units ls

aside_told : (n : ℕ) (resets : List Reset) (ls ks : List Link) → AreTold resets ls ks → IsAside n ls → IsAside n ks
aside_told n [] ls ks told a = subst (λ (z : List Link). IsAside n z) (sym told) a
aside_told n (reset ∷ resets) ls ks told a =
    aside_told n resets (reset_each reset told.0 ls).links ks told.1 (aside_each n reset told.0 ls a)

aside_login : (n : ℕ) (t : Target) (a : Answer) (v : Verdict) → IsAside n t.links → IsAside n (logged_in_by t a v).target.links
aside_login n t a verdict.Going h = h
aside_login n t a verdict.Closed h = h
aside_login n t a (verdict.Done s) h = aside_ended n (nexus_of s.who) t.links h

pub aside_step : (n : ℕ) (t : Target) (s : Standing) (p : Pdu) → IsAside n t.links → IsAside n (stepped t s p).target.links
aside_step n t (standing.LoggingIn login) p h =
    aside_login n (with_words t (turned t.rules t.handle login p t.words).words) (turned t.rules t.handle login p t.words).answer
    (turned t.rules t.handle login p t.words).answer.verdict h
aside_step n t (standing.Serving v) p h = aside_told n (received_by v t p).resets t.links (received_by v t p).target.links (step_told t v p).links h
aside_step n t standing.Ended p h = h
aside_step n t standing.Closed p h = h

pub aside_steps : (n : ℕ) (t : Target) (s : Standing) (ps : List Pdu) → IsAside n t.links → IsAside n (steps t s ps).target.links
aside_steps n t s [] h = h
aside_steps n t s (p ∷ ps) h = go a.fed (aside_step n t s p h) (λ now. aside_steps n a.target a.standing ps now) where
  a : Step
  a = stepped t s p

  go : (f : Fed) → IsAside n a.target.links → (IsAside n a.target.links → IsAside n (steps a.target a.standing ps).target.links)
      → IsAside n (one_then f a (steps a.target a.standing ps)).target.links
  go Closed now more = now
  go Going now more = more now

-- a connection that is there
pub is_aside : (n : ℕ) (ls : List Link) (l : Link) → link_of n ls ≡ Some l → IsAside n (placed (closed_link n) ls)
is_aside n ls l found = record { link = closed_link n; found = link_placed (closed_link n) ls ∙ ap (over (λ k. closed_link n)) found; closed = refl }

-- aside it changes nothing
pub seat_closed : (n : ℕ) (t : Target) → IsAside n t.links → seat n standing.Closed (bare t) ≡ bare t
seat_closed n t a =
    ap (λ (z : List Link). with_links t z)
    (ap (λ (s : Standing). placed (link_at n no_bytes (shut s)) (map bare_link t.links)) (sym a.closed)
    ∙ placed_same n (map bare_link t.links) (bare_link a.link) (link_map bare_link (λ l. refl) n t.links ∙ ap (over bare_link) a.found))

pub seat_again : (n : ℕ) (r s : Standing) (u : Target) → seat n r (seat n s u) ≡ seat n r u
seat_again n r s u = ap (λ (z : List Link). with_links u z) (placed_twice (link_at n no_bytes r) (link_at n no_bytes s) u.links refl)

-- where it stood before it was aside
pub seat_before : (n : ℕ) (t : Target) (l : Link) → link_of n t.links ≡ Some l → seat n (shut l.standing) (bare (aside n t)) ≡ bare t
seat_before n t l found =
    ap (λ (z : List Link). with_links t (placed (link_at n no_bytes (shut l.standing)) z)) (placed_map bare_link (λ k. refl) (closed_link n) t.links)
    ∙ ap (λ (z : List Link). with_links t z) (placed_twice (link_at n no_bytes (shut l.standing)) (closed_link n) (map bare_link t.links) refl)
    ∙ ap (λ (z : List Link). with_links t z)
    (placed_same n (map bare_link t.links) (bare_link l) (link_map bare_link (λ k. refl) n t.links ∙ ap (over bare_link) found))
