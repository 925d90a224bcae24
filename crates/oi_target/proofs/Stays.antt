-- A connection stays just where its standing says so.
use Rattle.std.proofs.Common.{ℕ, Bool, true, false, ◌≡◌, ◌∙◌, Option, Some, None, List, [], ◌∷◌, refl, ap, sym}
use Rattle.oi_pdu.specs.declared.codec.Pdu.{Pdu}
use Rattle.oi_target.proofs.Bared.{IsAside, aside_steps, is_aside}
use Rattle.oi_target.proofs.Came.{step_shuts}
use Rattle.oi_target.proofs.Courses.{courses_are_events}
use Rattle.oi_target.proofs.Linked.{is_open}
use Rattle.oi_target.proofs.Placed.{link_map, link_placed, over}
use Rattle.oi_target.specs.Courses.{ClosesByEvents, Piece, course, stays, stays_at}
use Rattle.oi_target.specs.Events.{bare_link, shut}
use Rattle.oi_target.specs.Feeding.{Cut, Taken, cut_of, taken, taken_by, taken_of, taken_open}
use Rattle.oi_target.specs.Steps.{Step, faulted, logged_in_by, one_then, received_by, serving_by, stepped, steps, with_words}
use Rattle.oi_target.specs.Targets.{Target, aside, closed_link, link_at, link_of}
use Rattle.oi_target.specs.declared.link.Link.{Link}
use Rattle.oi_target.specs.declared.link.Standing.{Standing}
use Rattle.oi_target.specs.declared.link.Standing.TheVariants as standing
use Rattle.oi_target_login.specs.Logins.{turned}
use Rattle.oi_target_login.specs.declared.answer.Answer.{Answer}
use Rattle.oi_target_login.specs.declared.answer.Verdict.{Verdict}
use Rattle.oi_target_login.specs.declared.answer.Verdict.TheVariants as verdict
use Rattle.oi_target_session.specs.declared.fed.Fed.{Fed}
use Rattle.oi_target_session.specs.declared.fed.Fed.TheVariants.{Going, Closed}

closed_going : {C : Type 0} → Closed ≡ Going → C
closed_going e = absurd (let n : ⊥ = cc in n)

login_opens : (t : Target) (a : Answer) (v : Verdict) → (logged_in_by t a v).fed ≡ Going → is_open (logged_in_by t a v).standing ≡ true
login_opens t a verdict.Going e = refl
login_opens t a verdict.Closed e = closed_going e
login_opens t a (verdict.Done s) e = refl

step_opens : (t : Target) (s : Standing) (p : Pdu) → (stepped t s p).fed ≡ Going → is_open (stepped t s p).standing ≡ true
step_opens t (standing.LoggingIn login) p e =
    login_opens (with_words t (turned t.rules t.handle login p t.words).words) (turned t.rules t.handle login p t.words).answer
    (turned t.rules t.handle login p t.words).answer.verdict e
step_opens t (standing.Serving v) p e = ap (λ (f : Fed). is_open (serving_by f (received_by v t p))) e
step_opens t standing.Ended p e = closed_going e
step_opens t standing.Closed p e = closed_going e

open_stays : (s : Standing) → is_open s ≡ true → Going ≡ stays_at (shut s)
open_stays (standing.LoggingIn p) h = refl
open_stays (standing.Serving v) h = refl
open_stays standing.Ended h = absurd (let n : ⊥ = cc in n)
open_stays standing.Closed h = absurd (let n : ⊥ = cc in n)

steps_stay : (t : Target) (s : Standing) (ps : List Pdu) → is_open s ≡ true → (steps t s ps).fed ≡ stays_at (shut (steps t s ps).standing)
steps_stay t s [] h = open_stays s h
steps_stay t s (p ∷ ps) h = go (stepped t s p).fed refl (λ opens. steps_stay (stepped t s p).target (stepped t s p).standing ps opens) where
  one : Step
  one = stepped t s p

  go : (f : Fed) → one.fed ≡ f
      → (is_open one.standing ≡ true → (steps one.target one.standing ps).fed ≡ stays_at (shut (steps one.target one.standing ps).standing))
      → (one_then f one (steps one.target one.standing ps)).fed ≡ stays_at (shut (one_then f one (steps one.target one.standing ps)).standing)
  go Closed closed more = closed ∙ sym (ap (λ (z : Standing). stays_at (shut z)) (step_shuts t s p closed))
  go Going going more = more (step_opens t s p going)

faulted_stays : (fault : Bool) (x : Step) → x.fed ≡ stays_at (shut x.standing) → (faulted fault x).fed ≡ stays_at (shut (faulted fault x).standing)
faulted_stays true x h = refl
faulted_stays false x h = h

abbrev pub stays_in : ℕ → Taken → Fed
stays_in n u = stays (over bare_link (link_of n u.target.links))

aside_stays : (n : ℕ) (t : Target) (l : Link) → link_of n t.links ≡ Some l → Closed ≡ stays (over bare_link (link_of n (aside n t).links))
aside_stays n t l found =
    ap (λ (o : Option Link). stays (over bare_link o)) (sym (link_placed (closed_link n) t.links ∙ ap (over (λ z. closed_link n)) found))

open_answers : (n : ℕ) (t : Target) (l : Link) (s : Standing) (c : Cut) → link_of n t.links ≡ Some l → is_open s ≡ true
    → (taken_open (aside n t) n s c).fed ≡ stays_in n (taken_open (aside n t) n s c)
open_answers n t l s c found opens =
    faulted_stays c.fault x (steps_stay (aside n t) s c.pdus opens)
    ∙ sym (ap (λ (o : Option Link). stays (over bare_link o)) (link_placed here x.target.links ∙ ap (over (λ z. here)) there.found)) where
      x : Step
      x = steps (aside n t) s c.pdus

      here : Link
      here = link_at n c.state (faulted c.fault x).standing

      there : IsAside n x.target.links
      there = aside_steps n (aside n t) s c.pdus (is_aside n t.links l found)

standing_answers : (n : ℕ) (t : Target) (l : Link) (b : ℕ) (bs : List ℕ) (s : Standing) → link_of n t.links ≡ Some l
    → (taken_by (aside n t) n l.splitter s (b ∷ bs)).fed ≡ stays_in n (taken_by (aside n t) n l.splitter s (b ∷ bs))
standing_answers n t l b bs (standing.LoggingIn p) found = open_answers n t l (standing.LoggingIn p) (cut_of l.splitter (b ∷ bs)) found refl
standing_answers n t l b bs (standing.Serving v) found = open_answers n t l (standing.Serving v) (cut_of l.splitter (b ∷ bs)) found refl
standing_answers n t l b bs standing.Ended found = aside_stays n t l found
standing_answers n t l b bs standing.Closed found = aside_stays n t l found

link_answers : (n : ℕ) (t : Target) (b : ℕ) (bs : List ℕ) (o : Option Link) → link_of n t.links ≡ o
    → (taken_of t n o (b ∷ bs)).fed ≡ stays_in n (taken_of t n o (b ∷ bs))
link_answers n t b bs None is = sym (ap (λ (o : Option Link). stays (over bare_link o)) is)
link_answers n t b bs (Some l) is = standing_answers n t l b bs l.standing is

pub closes_by_events : ClosesByEvents
closes_by_events c calls n b bs numbered =
    link_answers n (course c calls) b bs (link_of n (course c calls).links) refl
    ∙ ap stays (sym (link_map bare_link (λ l. refl) n (taken (course c calls) n (b ∷ bs)).target.links))
    ∙ ap (λ (t : Target). stays (link_of n t.links)) (courses_are_events c (Piece n (b ∷ bs) ∷ calls) numbered)
