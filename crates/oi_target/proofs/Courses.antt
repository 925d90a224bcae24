-- All calls of a target are events.
use Rattle.std.proofs.Common.{ℕ, Bool, true, false, ◌≡◌, ◌∙◌, Option, Some, None, List, [], ◌∷◌, ◌++◌, map, refl, ap, sym, subst, append-nil, if◌then◌else◌, ◌==◌}
use Rattle.std.proofs.lemmas.Bool.{eqb-true}
use Rattle.std.proofs.lemmas.Grind.{flat_map-append}
use Rattle.oi_pdu.specs.Wire.{encoding}
use Rattle.oi_pdu.specs.declared.codec.Pdu.{Pdu}
use Rattle.oi_sendtargets.specs.declared.found.Found.{Found}
use Rattle.oi_stream.proofs.Bytewise.{fed_in_a_row, fed_stays}
use Rattle.oi_stream.specs.Bytewise.{Fed as Framed, fed, joined_by}
use Rattle.oi_stream.specs.Feeding.{State}
use Rattle.oi_stream.specs.Framing.{Stop, BadHeader, TooLong, Short}
use Rattle.oi_target.proofs.Bared.{IsAside, aside_steps, is_aside, seat, seat_bare, seat_before}
use Rattle.oi_target.proofs.Came.{Comes, aside_closed, aside_lost, came_events, closed_events, lost_events, seated, shut_events, spoilt_events}
use Rattle.oi_target.proofs.Linked.{AreKept, FindsKept, finds_kept, is_open, kept_all, steps_kept}
use Rattle.oi_target.proofs.Numbered.{AreUnique, found_before, found_behind, none_kept, none_placed, none_without, others_found, taken_out, true_not, unique_behind, unique_kept, unique_placed, unique_without}
use Rattle.oi_target.proofs.Placed.{itself, link_map, link_placed, none_some, others_placed, over, placed_twice, same_link}
use Rattle.oi_target.specs.Courses.{AreNumbered, Call, Connected, CoursesAreEvents, Gone, Listed, Piece, WritesAreOfEvents, arrived, bytes_on, came, course, events_of, framed_on, is_given, news, news_by, spoilt, written_on}
use Rattle.oi_target.specs.Events.{Event, Malformed, bare, bare_link, sent_to, shut, state_after}
use Rattle.oi_target.specs.Feeding.{Cut, Taken, cut_by, cut_of, put_back, taken, taken_by, taken_of, taken_open, unanswered, wire, with_new}
use Rattle.oi_target.specs.Steps.{Step, faulted, step_of, steps}
use Rattle.oi_target.specs.Targets.{Target, aside, closed_link, link_at, link_of, new_link, no_bytes, with_links, without}
use Rattle.oi_target.specs.declared.config.TargetConfig.{TargetConfig}
use Rattle.oi_target.specs.declared.link.Link.{Link}
use Rattle.oi_target.specs.declared.link.Standing.{Standing}
use Rattle.oi_target.specs.declared.link.Standing.TheVariants as standing
use Rattle.oi_target_session.specs.declared.fed.Fed.{Fed}
use Rattle.oi_target_session.specs.declared.fed.Fed.TheVariants.{Going, Closed}

no_open : {C : Type 0} → false ≡ true → C
no_open e = absurd (let n : ⊥ = cc in n)

-- a splitter stands where all bytes of a connection have led it, and nothing stopped it
pub record IsAt (n : ℕ) (calls : List Call) (k : State) : Type 0 where
  pub state : k ≡ (framed_on n calls).state
  pub stop : (framed_on n calls).stop ≡ Short
  pub going : k.ended ≡ false

at_same : (n : ℕ) (calls later : List Call) (k : State) → bytes_on n later ≡ bytes_on n calls → IsAt n calls k → IsAt n later k
at_same n calls later k same a = record {
  state = a.state ∙ ap (λ (bytes : List ℕ). (fed no_bytes bytes).state) (sym same);
  stop = ap (λ (bytes : List ℕ). (fed no_bytes bytes).stop) same ∙ a.stop;
  going = a.going;
}

at_first : (n : ℕ) (calls : List Call) → bytes_on n calls ≡ [] → IsAt n calls no_bytes
at_first n calls none = record {
  state = ap (λ (bytes : List ℕ). (fed no_bytes bytes).state) (sym none);
  stop = ap (λ (bytes : List ℕ). (fed no_bytes bytes).stop) none;
  going = refl;
}

-- all calls so far
pub record Stands (c : TargetConfig) (calls : List Call) (t : Target) : Type 0 where
  pub target : bare t ≡ state_after c (events_of calls)
  pub unique : AreUnique t.links
  pub fresh : (n : ℕ) → is_given n calls ≡ false → link_of n t.links ≡ None
  pub opened : (n : ℕ) (l : Link) → link_of n t.links ≡ Some l → is_open l.standing ≡ true → IsAt n calls l.splitter
  pub written : (k : ℕ) → written_on k c calls ≡ wire (sent_to k c (events_of calls))

new_bare : (ls : List Link) (n : ℕ) → map bare_link (ls ++ new_link n ∷ []) ≡ map bare_link ls ++ new_link n ∷ []
new_bare [] n = refl
new_bare (l ∷ ls) n = ap (λ (z : List Link). bare_link l ∷ z) (new_bare ls n)

links_bare : (n : ℕ) (ls : List Link) → map bare_link (without n ls) ≡ without n (map bare_link ls)
links_bare n [] = refl
links_bare n (l ∷ ls) = go (l.number == n) (links_bare n ls) where
  go : (b : Bool) → map bare_link (without n ls) ≡ without n (map bare_link ls)
      → map bare_link (if b then ls else l ∷ without n ls) ≡ (if b then map bare_link ls else bare_link l ∷ without n (map bare_link ls))
  go true was = refl
  go false was = ap (λ (z : List Link). bare_link l ∷ z) was

connected_next : (c : TargetConfig) (calls : List Call) (before : Target) (m : ℕ) → is_given m calls ≡ false → Stands c calls before
    → Stands c (Connected m ∷ calls) (with_new before m)
connected_next c calls before m new was = record {
  target = ap (λ (z : List Link). with_links before z) (new_bare before.links m) ∙ ap (λ (z : Target). with_new z m) was.target;
  unique = unique_behind before.links (new_link m) was.unique (was.fresh m new);
  fresh = λ n e. fresh (m == n) n refl e;
  opened = λ n l found opens. first (m == n) n l refl found opens;
  written = λ k. was.written k;
} where
  fresh : (b : Bool) (n : ℕ) → (m == n) ≡ b → (if b then true else is_given n calls) ≡ false → link_of n (before.links ++ new_link m ∷ []) ≡ None
  fresh true n is e = true_not e
  fresh false n is e = found_before n before.links (new_link m) is ∙ was.fresh n e

  first : (b : Bool) (n : ℕ) (l : Link) → (m == n) ≡ b → link_of n (before.links ++ new_link m ∷ []) ≡ Some l → is_open l.standing ≡ true
      → IsAt n (Connected m ∷ calls) l.splitter
  first true n l is found opens =
      let none = subst (λ (z : ℕ). link_of z before.links ≡ None) (eqb-true m n is) (was.fresh m new) in
      let here = found_behind n before.links (new_link m) none ∙ ap (λ (b : Bool). if b then Some (new_link m) else None) is in
      subst (λ (z : Link). IsAt n (Connected m ∷ calls) z.splitter) (same_link (new_link m) l (sym here ∙ found))
      (at_first n (Connected m ∷ calls) (ap (λ (b : Bool). if b then [] else bytes_on n calls) is))
  first false n l is found opens =
      at_same n calls (Connected m ∷ calls) l.splitter (ap (λ (b : Bool). if b then [] else bytes_on n calls) is)
      (was.opened n l (sym (found_before n before.links (new_link m) is) ∙ found) opens)

gone_next : (c : TargetConfig) (calls : List Call) (before : Target) (m : ℕ) → Stands c calls before
    → Stands c (Gone m ∷ calls) (with_links before (without m before.links))
gone_next c calls before m was = record {
  target = ap (λ (z : List Link). with_links before z) (links_bare m before.links) ∙ ap (λ (z : Target). with_links z (without m z.links)) was.target;
  unique = unique_without m before.links was.unique;
  fresh = λ n e. none_without n m before.links (was.fresh n e);
  opened = λ n l found opens. first (m == n) n l refl found opens;
  written = λ k. was.written k;
} where
  first : (b : Bool) (n : ℕ) (l : Link) → (m == n) ≡ b → link_of n (without m before.links) ≡ Some l → is_open l.standing ≡ true
      → IsAt n (Gone m ∷ calls) l.splitter
  first true n l is found opens =
      none_some l (sym (subst (λ (z : ℕ). link_of z (without m before.links) ≡ None) (eqb-true m n is) (taken_out m before.links was.unique)) ∙ found)
  first false n l is found opens =
      at_same n calls (Gone m ∷ calls) l.splitter refl (was.opened n l (sym (others_found n m before.links is) ∙ found) opens)

listed_next : (c : TargetConfig) (calls : List Call) (before : Target) (listing : List Found) → Stands c calls before
    → Stands c (Listed listing ∷ calls) (record before { listing = listing })
listed_next c calls before listing was = record {
  target = ap (λ (z : Target). record z { listing = listing }) was.target;
  unique = was.unique;
  fresh = was.fresh;
  opened = λ n l found opens. at_same n calls (Listed listing ∷ calls) l.splitter refl (was.opened n l found opens);
  written = λ k. was.written k;
}

-- what a piece comes to
pub record Fares (c : TargetConfig) (calls : List Call) (before : Target) (m : ℕ) (piece : List ℕ) (u : Taken) : Type 0 where
  pub target : bare u.target ≡ state_after c (events_of (Piece m piece ∷ calls))
  pub unique : AreUnique u.target.links
  pub none : (n : ℕ) → link_of n before.links ≡ None → link_of n u.target.links ≡ None
  pub others : (n : ℕ) (l : Link) → (m == n) ≡ false → link_of n u.target.links ≡ Some l → FindsKept n before.links l
  pub own : (l : Link) → link_of m u.target.links ≡ Some l → is_open l.standing ≡ true → IsAt m (Piece m piece ∷ calls) l.splitter
  pub sends : (k : ℕ) → sent_to k c (events_of (Piece m piece ∷ calls)) ≡ sent_to k c (events_of calls) ++ (if m == k then u.sent else [])

-- for a connection that is not there
lost_fares : (c : TargetConfig) (calls : List Call) (before : Target) (m : ℕ) (piece : List ℕ) → Stands c calls before → link_of m before.links ≡ None
    → Fares c calls before m piece (unanswered before Closed)
lost_fares c calls before m piece was none = record {
  target = was.target ∙ sym comes.state;
  unique = was.unique;
  none = λ n h. h;
  others = λ n l d found. record { link = l; found = found; kept = record { number = refl; splitter = refl; opens = λ h. h } };
  own = λ l found opens. none_some l (sym none ∙ found);
  sends = comes.sends;
} where
  state : Target
  state = state_after c (events_of calls)

  nobody : link_of m state.links ≡ None
  nobody = ap (λ (z : Target). link_of m z.links) (sym was.target) ∙ link_map bare_link (λ l. refl) m before.links ∙ ap (over bare_link) none

  comes : Comes c m (events_of calls) (events_of (Piece m piece ∷ calls)) state []
  comes = spoilt_events c m (news m piece calls).stop (came m (news m piece calls).pdus (events_of calls)) (events_of calls) state []
      (lost_events c m (news m piece calls).pdus (events_of calls) state nobody refl) (aside_lost m state nobody)

-- for one that is there
seated_fares : (c : TargetConfig) (calls : List Call) (before : Target) (m : ℕ) (piece : List ℕ) (k : State) (x : Step) (f : Fed) → Stands c calls before
    → AreKept (aside m before).links x.target.links → Comes c m (events_of calls) (events_of (Piece m piece ∷ calls)) (seated m x.standing x.target) x.sent
    → (is_open x.standing ≡ true → IsAt m (Piece m piece ∷ calls) k)
    → Fares c calls before m piece (record { target = put_back m k x; sent = x.sent; fed = f })
seated_fares c calls before m piece k x f was are comes at = record {
  target = seat_bare m k x ∙ sym comes.state;
  unique = unique_placed here x.target.links (unique_kept (aside m before).links x.target.links are (unique_placed (closed_link m) before.links was.unique));
  none = λ n h. none_placed n here x.target.links (none_kept n (aside m before).links x.target.links are (none_placed n (closed_link m) before.links h));
  others = λ n l d found. other n l d (finds_kept n (aside m before).links x.target.links l are (sym (others_placed n here x.target.links d) ∙ found));
  own = λ l found opens. own (link_of m x.target.links) l (sym (link_placed here x.target.links) ∙ found) opens;
  sends = comes.sends;
} where
  here : Link
  here = link_at m k x.standing

  other : (n : ℕ) (l : Link) → (m == n) ≡ false → FindsKept n (aside m before).links l → FindsKept n before.links l
  other n l d f = record { link = f.link; found = sym (others_placed n (closed_link m) before.links d) ∙ f.found; kept = f.kept }

  own : (o : Option Link) (l : Link) → over (λ z. here) o ≡ Some l → is_open l.standing ≡ true → IsAt m (Piece m piece ∷ calls) l.splitter
  own None l e opens = none_some l e
  own (Some z) l e opens =
      let same = same_link here l e in
      subst (λ (j : Link). IsAt m (Piece m piece ∷ calls) j.splitter) same (at (ap (λ (j : Link). is_open j.standing) same ∙ opens))

-- a connection that is closed, and one whose session was ended
shut_fares : (c : TargetConfig) (calls : List Call) (before : Target) (m : ℕ) (l : Link) (piece : List ℕ) (k : State) (s : Standing) (f : Fed) → Stands c calls before
    → link_of m before.links ≡ Some l → shut l.standing ≡ standing.Closed → shut s ≡ standing.Closed → is_open s ≡ false
    → Fares c calls before m piece (unanswered (put_back m k (step_of (aside m before) s [] f)) f)
shut_fares c calls before m l piece k s f was found is shuts shuts_off =
    seated_fares c calls before m piece k (step_of (aside m before) s [] f) f was (kept_all (aside m before).links)
    (subst (λ (z : Standing). Comes c m (events_of calls) (events_of (Piece m piece ∷ calls)) (seat m z (bare (aside m before))) []) (sym shuts) comes)
    (λ h. no_open (sym shuts_off ∙ h)) where
      t : Target
      t = aside m before

      a : IsAside m t.links
      a = is_aside m before.links l found

      stands : state_after c (events_of calls) ≡ seated m standing.Closed t
      stands = sym was.target ∙ sym (seat_before m before l found) ∙ ap (λ (z : Standing). seat m z (bare t)) is

      comes : Comes c m (events_of calls) (events_of (Piece m piece ∷ calls)) (seated m standing.Closed t) []
      comes = spoilt_events c m (news m piece calls).stop (came m (news m piece calls).pdus (events_of calls)) (events_of calls) (seated m standing.Closed t) []
          (closed_events c m (news m piece calls).pdus (events_of calls) t a stands) (aside_closed m t)

closed_fares : (c : TargetConfig) (calls : List Call) (before : Target) (m : ℕ) (l : Link) (piece : List ℕ) → Stands c calls before
    → link_of m before.links ≡ Some l → shut l.standing ≡ standing.Closed → Fares c calls before m piece (unanswered (aside m before) Closed)
closed_fares c calls before m l piece was found is =
    subst (λ (z : List Link). Fares c calls before m piece (unanswered (with_links before z) Closed))
    (placed_twice (closed_link m) (closed_link m) before.links refl)
    (shut_fares c calls before m l piece no_bytes standing.Closed Closed was found is refl refl)

ended_fares : (c : TargetConfig) (calls : List Call) (before : Target) (m : ℕ) (l : Link) (piece : List ℕ) → Stands c calls before
    → link_of m before.links ≡ Some l → shut l.standing ≡ standing.Closed → Fares c calls before m piece (taken_by (aside m before) m l.splitter standing.Ended piece)
ended_fares c calls before m l [] was found is = shut_fares c calls before m l [] l.splitter standing.Ended Going was found is refl refl
ended_fares c calls before m l (b ∷ bs) was found is = closed_fares c calls before m l (b ∷ bs) was found is

-- where all bytes with those of a piece have led to
pub bytes_more : (m : ℕ) (piece : List ℕ) (calls : List Call) → bytes_on m (Piece m piece ∷ calls) ≡ bytes_on m calls ++ piece
bytes_more m piece calls = ap (λ (b : Bool). if b then bytes_on m calls ++ piece else bytes_on m calls) (itself m)

framed_more : (m : ℕ) (piece : List ℕ) (calls : List Call) (k : State) → IsAt m calls k
    → framed_on m (Piece m piece ∷ calls) ≡ joined_by Short (framed_on m calls) (fed k piece)
framed_more m piece calls k at =
    ap (λ (bytes : List ℕ). fed no_bytes bytes) (bytes_more m piece calls)
    ∙ fed_in_a_row no_bytes (bytes_on m calls) piece
    ∙ ap (λ (z : Stop). joined_by z (framed_on m calls) (fed (framed_on m calls).state piece)) at.stop
    ∙ ap (λ (z : State). joined_by Short (framed_on m calls) (fed z piece)) (sym at.state)

-- an open one
open_fares : (c : TargetConfig) (calls : List Call) (before : Target) (m : ℕ) (l : Link) (piece : List ℕ) (s : Standing) → Stands c calls before
    → link_of m before.links ≡ Some l → l.standing ≡ s → IsAt m calls l.splitter
    → Fares c calls before m piece (taken_open (aside m before) m s (cut_of l.splitter piece))
open_fares c calls before m l piece s was found is at =
    subst (λ (z : Cut). Fares c calls before m piece (taken_open t m s z)) (sym cut_is) (go f.stop refl) where
      t : Target
      t = aside m before

      a : IsAside m t.links
      a = is_aside m before.links l found

      f : Framed
      f = fed l.splitter piece

      cut_is : cut_of l.splitter piece ≡ cut_by f f.stop
      cut_is = ap (λ (b : Bool). if b then record { state = no_bytes; pdus = []; fault = true } else cut_by f f.stop) at.going

      news_is : news m piece calls ≡ f
      news_is = ap (λ (z : Stop). news_by z (framed_on m calls).state piece) at.stop ∙ ap (λ (z : State). fed z piece) (sym at.state)

      stands : state_after c (events_of calls) ≡ seated m s t
      stands = sym was.target ∙ sym (seat_before m before l found) ∙ ap (λ (z : Standing). seat m (shut z) (bare t)) is

      x : Step
      x = steps t s f.pdus

      comes : Comes c m (events_of calls) (came m f.pdus (events_of calls)) (seated m x.standing x.target) x.sent
      comes = came_events c m f.pdus (events_of calls) s t a stands

      kept : AreKept t.links x.target.links
      kept = steps_kept t s f.pdus

      events : (stop : Stop) → f.stop ≡ stop → spoilt m stop (came m f.pdus (events_of calls)) ≡ events_of (Piece m piece ∷ calls)
      events stop e = ap (λ (z : Stop). spoilt m z (came m f.pdus (events_of calls))) (sym e) ∙ ap (λ (z : Framed). arrived m z (events_of calls)) (sym news_is)

      goes_on : f.stop ≡ Short → IsAt m (Piece m piece ∷ calls) f.state
      goes_on e = record {
        state = sym (ap (λ (z : Framed). z.state) (framed_more m piece calls l.splitter at));
        stop = ap (λ (z : Framed). z.stop) (framed_more m piece calls l.splitter at) ∙ e;
        going = (fed_stays l.splitter piece).1 e ∙ at.going;
      }

      spoils : (stop : Stop) → f.stop ≡ stop → spoilt m stop (came m f.pdus (events_of calls)) ≡ Malformed m ∷ came m f.pdus (events_of calls)
          → Fares c calls before m piece (taken_open t m s (record { state = no_bytes; pdus = f.pdus; fault = true }))
      spoils stop e is = seated_fares c calls before m piece no_bytes (faulted true x) Closed was kept
          (subst (λ (es : List Event). Comes c m (events_of calls) es (seated m standing.Closed x.target) x.sent) (sym is ∙ events stop e)
          (shut_events c m (came m f.pdus (events_of calls)) (events_of calls) x.target x.standing x.sent (aside_steps m t s f.pdus a) comes))
          (λ h. no_open h)

      go : (stop : Stop) → f.stop ≡ stop → Fares c calls before m piece (taken_open t m s (cut_by f stop))
      go Short e = seated_fares c calls before m piece f.state (faulted false x) x.fed was kept
          (subst (λ (es : List Event). Comes c m (events_of calls) es (seated m x.standing x.target) x.sent) (events Short e) comes) (λ h. goes_on e)
      go (BadHeader byte) e = spoils (BadHeader byte) e refl
      go (TooLong size) e = spoils (TooLong size) e refl

fares_by : (c : TargetConfig) (calls : List Call) (before : Target) (m : ℕ) (l : Link) (piece : List ℕ) (s : Standing) → Stands c calls before
    → link_of m before.links ≡ Some l → l.standing ≡ s → Fares c calls before m piece (taken_by (aside m before) m l.splitter s piece)
fares_by c calls before m l piece (standing.LoggingIn p) was found is =
    open_fares c calls before m l piece (standing.LoggingIn p) was found is (was.opened m l found (ap is_open is))
fares_by c calls before m l piece (standing.Serving v) was found is =
    open_fares c calls before m l piece (standing.Serving v) was found is (was.opened m l found (ap is_open is))
fares_by c calls before m l piece standing.Ended was found is = ended_fares c calls before m l piece was found (ap shut is)
fares_by c calls before m l piece standing.Closed was found is = closed_fares c calls before m l piece was found (ap shut is)

fares : (c : TargetConfig) (calls : List Call) (before : Target) (m : ℕ) (piece : List ℕ) (o : Option Link) → Stands c calls before
    → link_of m before.links ≡ o → Fares c calls before m piece (taken_of before m o piece)
fares c calls before m piece None was is = lost_fares c calls before m piece was is
fares c calls before m piece (Some l) was is = fares_by c calls before m l piece l.standing was is refl

wire_parts : (b : Bool) (xs ys : List Pdu) → wire xs ++ (if b then wire ys else []) ≡ wire (xs ++ (if b then ys else []))
wire_parts true xs ys = sym (flat_map-append encoding xs ys)
wire_parts false xs ys = append-nil (wire xs) ∙ ap wire (sym (append-nil xs))

piece_next : (c : TargetConfig) (calls : List Call) (m : ℕ) (piece : List ℕ) → Stands c calls (course c calls)
    → Fares c calls (course c calls) m piece (taken (course c calls) m piece) → Stands c (Piece m piece ∷ calls) (taken (course c calls) m piece).target
piece_next c calls m piece was u = record {
  target = u.target;
  unique = u.unique;
  fresh = λ n e. u.none n (was.fresh n e);
  opened = λ n l found opens. first (m == n) n l refl found opens;
  written = λ k.
      ap (λ (z : List ℕ). z ++ (if m == k then wire (taken (course c calls) m piece).sent else [])) (was.written k)
      ∙ wire_parts (m == k) (sent_to k c (events_of calls)) (taken (course c calls) m piece).sent
      ∙ ap wire (sym (u.sends k));
} where
  first : (b : Bool) (n : ℕ) (l : Link) → (m == n) ≡ b → link_of n (taken (course c calls) m piece).target.links ≡ Some l → is_open l.standing ≡ true
      → IsAt n (Piece m piece ∷ calls) l.splitter
  first true n l is found opens =
      subst (λ (z : ℕ). IsAt z (Piece m piece ∷ calls) l.splitter) (eqb-true m n is)
      (u.own l (subst (λ (z : ℕ). link_of z (taken (course c calls) m piece).target.links ≡ Some l) (sym (eqb-true m n is)) found) opens)
  first false n l is found opens =
      let old = u.others n l is found in
      at_same n calls (Piece m piece ∷ calls) l.splitter (ap (λ (b : Bool). if b then bytes_on n calls ++ piece else bytes_on n calls) is)
      (subst (λ (z : State). IsAt n calls z) (sym old.kept.splitter) (was.opened n old.link old.found (old.kept.opens opens)))

pub stands : (c : TargetConfig) (calls : List Call) → AreNumbered calls → Stands c calls (course c calls)
stands c [] numbered = record {
  target = refl;
  unique = tt;
  fresh = λ n e. refl;
  opened = λ n l found opens. none_some l found;
  written = λ k. refl;
}
stands c (Connected m ∷ calls) numbered = connected_next c calls (course c calls) m numbered.0 (stands c calls numbered.1)
stands c (Gone m ∷ calls) numbered = gone_next c calls (course c calls) m (stands c calls numbered)
stands c (Listed listing ∷ calls) numbered = listed_next c calls (course c calls) listing (stands c calls numbered)
stands c (Piece m piece ∷ calls) numbered =
    piece_next c calls m piece (stands c calls numbered)
    (fares c calls (course c calls) m piece (link_of m (course c calls).links) (stands c calls numbered) refl)

pub courses_are_events : CoursesAreEvents
courses_are_events c calls numbered = (stands c calls numbered).target

pub writes_are_of_events : WritesAreOfEvents
writes_are_of_events c calls k numbered = (stands c calls numbered).written k
