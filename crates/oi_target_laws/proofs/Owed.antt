-- What a connection is owed are the replies to its commands that PDUs of other connections let be executed.
use Rattle.std.proofs.Common.{ℕ, suc, Bool, true, false, ◌≡◌, ◌∙◌, ◌⊎◌, inl, inr, Option, Some, None, List, [], ◌∷◌, ◌++◌, length, flat_map, map, refl, ap, sym, subst, append-nil, append_assoc, bytes_eq, if◌then◌else◌, ◌==◌}
use Rattle.std.proofs.lemmas.Bool.{eqb-true}
use Rattle.std.proofs.lemmas.List.{map-append}
use Rattle.oi_pdu.specs.declared.codec.Pdu.{Pdu}
use Rattle.oi_target.proofs.Bared.{aside_step, is_aside}
use Rattle.oi_target.proofs.Joins.{each_units, learned_units, told_units}
use Rattle.oi_target.proofs.Numbered.{others_found}
use Rattle.oi_target.specs.Events.{Event, Joined, Left, Told, Whole, Malformed, happened, heard_of, shut, state_after}
use Rattle.oi_target.specs.Runs.{in_turn_requests, link_learned, link_requests, requests_at, reset_requests, step_requests, turn_own, turn_requests}
use Rattle.oi_target.specs.Steps.{Step, logged_in_by, serving_by, stepped, with_words}
use Rattle.oi_target.specs.Targets.{Reached, Target, aside, closed_link, ended_standing, learned, link_of, nexus_of, new_link, reset_each, reset_links, without}
use Rattle.oi_target.specs.Turns.{Received, followed, in_turn, received_at, received_turn, told, turn_of}
use Rattle.oi_target.specs.declared.link.Link.{Link}
use Rattle.oi_target.specs.declared.link.Standing.{Standing}
use Rattle.oi_target.specs.declared.link.Standing.TheVariants as standing
use Rattle.oi_target_laws.proofs.Accounts.{all_busy, aside_closed, aside_standing, other_standing, own_standing}
use Rattle.oi_target_laws.proofs.Idle.{AreIdle, IsNew, OneIsBusy, busy_placed, idle_standing}
use Rattle.oi_target_laws.proofs.Learning.{busy_reset, told_busy}
use Rattle.oi_target_laws.proofs.Steps.{ended_standings}
use Rattle.oi_target_laws.specs.Histories.{standing_in, standing_of}
use Rattle.oi_target_laws.specs.Owners.{OwedAreAwaited, awaited_by, each_of, in_turn_owners, link_owners, owed_at, owners_at, owners_by, owners_if, chosen, reset_owners, step_owners, turn_owners, while_served}
use Rattle.oi_target_login.specs.Logins.{turned}
use Rattle.oi_target_login.specs.declared.answer.Answer.{Answer}
use Rattle.oi_target_login.specs.declared.answer.Verdict.{Verdict}
use Rattle.oi_target_login.specs.declared.answer.Verdict.TheVariants as verdict
use Rattle.oi_target.proofs.Told.{resets_told}
use Rattle.oi_target_session.proofs.Executed.{served_units}
use Rattle.oi_target_session.proofs.Wakes.{woken_in_order}
use Rattle.oi_target_session.specs.Arrivals.{Held, advanced, place_of}
use Rattle.oi_target_session.specs.Executions.{if_going}
use Rattle.oi_target_session.specs.Owing.{paid, reply_owed, woken}
use Rattle.oi_target_session.specs.Sessions.{Session, Turn, spared, without_resets}
use Rattle.oi_target_session.specs.declared.fed.Fed.{Fed}
use Rattle.oi_target_session.specs.declared.fed.Fed.TheVariants.{Going, Closed}
use Rattle.oi_target_session.specs.declared.place.Place.{Place}
use Rattle.oi_target_session.specs.declared.place.Place.TheVariants.{Now, InTurn, Early, Outside}
use Rattle.oi_target_session.specs.declared.reset.Reset.{Reset}
use Rattle.oi_units.specs.Runs.{Request, replies, units_after}
use Rattle.oi_units.specs.Units.{executed}
use Rattle.oi_units.specs.declared.reply.UnitReply.{UnitReply}
use Rattle.oi_units.specs.declared.unit.LogicalUnit.{LogicalUnit}

-- replies in two parts
replies_join : (units : List LogicalUnit) (first second : List Request)
    → replies units (first ++ second) ≡ replies units first ++ replies (units_after units first) second
replies_join units [] second = refl
replies_join units (r ∷ rs) second =
    ap (λ (z : List UnitReply). (executed units r.nexus r.command r.payload).reply ∷ z)
    (replies_join (executed units r.nexus r.command r.payload).units rs second)

replies_count : (units : List LogicalUnit) (rs : List Request) → length (replies units rs) ≡ length rs
replies_count units [] = refl
replies_count units (r ∷ rs) = ap suc (replies_count (executed units r.nexus r.command r.payload).units rs)

tails_match : (a b : ℕ) → suc a ≡ suc b → a ≡ b
tails_match a b e = cc

pub to_join : {A : Type 0} (n : ℕ) (ks js : List ℕ) (xs ys : List A) → length ks ≡ length xs → chosen n (ks ++ js) (xs ++ ys) ≡ chosen n ks xs ++ chosen n js ys
to_join n [] js [] ys same = refl
to_join n [] js (x ∷ xs) ys same = absurd (let n : ⊥ = cc in n)
to_join n (k ∷ ks) js [] ys same = absurd (let n : ⊥ = cc in n)
to_join {A} n (k ∷ ks) js (x ∷ xs) ys same = go (k == n) (to_join n ks js xs ys (tails_match (length ks) (length xs) same)) where
  go : (b : Bool) → chosen n (ks ++ js) (xs ++ ys) ≡ chosen n ks xs ++ chosen n js ys
      → (if b then x ∷ chosen n (ks ++ js) (xs ++ ys) else chosen n (ks ++ js) (xs ++ ys)) ≡ (if b then x ∷ chosen n ks xs else chosen n ks xs) ++ chosen n js ys
  go true was = ap (λ (z : List A). x ∷ z) was
  go false was = was

pub each_count : (n : ℕ) (rs : List Request) → length (each_of n rs) ≡ length rs
each_count n [] = refl
each_count n (r ∷ rs) = ap suc (each_count n rs)

pub count_join : {A : Type 0} (xs ys : List A) (ks js : List ℕ) → length ks ≡ length xs → length js ≡ length ys → length (ks ++ js) ≡ length (xs ++ ys)
count_join [] ys [] js one two = two
count_join [] ys (k ∷ ks) js one two = absurd (let n : ⊥ = cc in n)
count_join (x ∷ xs) ys [] js one two = absurd (let n : ⊥ = cc in n)
count_join (x ∷ xs) ys (k ∷ ks) js one two = ap suc (count_join xs ys ks js (tails_match (length ks) (length xs) one) two)

-- all are of one connection
all_to : (n k : ℕ) (qs : List Request) (units : List LogicalUnit) → (k == n) ≡ true → chosen n (each_of k qs) (replies units qs) ≡ replies units qs
all_to n k [] units is = refl
all_to n k (q ∷ qs) units is = go (k == n) is (all_to n k qs (executed units q.nexus q.command q.payload).units is) where
  r : UnitReply
  r = (executed units q.nexus q.command q.payload).reply

  rs : List UnitReply
  rs = replies (executed units q.nexus q.command q.payload).units qs

  go : (b : Bool) → b ≡ true → chosen n (each_of k qs) rs ≡ rs → (if b then r ∷ chosen n (each_of k qs) rs else chosen n (each_of k qs) rs) ≡ r ∷ rs
  go true e was = ap (λ (z : List UnitReply). r ∷ z) was
  go false e was = absurd (let n : ⊥ = cc in n)

pub none_to : {A : Type 0} (n k : ℕ) (qs : List Request) (xs : List A) → (k == n) ≡ false → chosen n (each_of k qs) xs ≡ []
none_to n k [] xs is = refl
none_to n k (q ∷ qs) [] is = refl
none_to n k (q ∷ qs) (x ∷ xs) is =
    ap (λ (b : Bool). if b then x ∷ chosen n (each_of k qs) xs else chosen n (each_of k qs) xs) is ∙ none_to n k qs xs is

-- these requests add their replies to what the connection is owed
record Gives (n : ℕ) (units : List LogicalUnit) (owners : List ℕ) (requests : List Request) (before after : Standing) : Type 0 where
  pub matched : length owners ≡ length requests
  pub adds : owed_at after ≡ owed_at before ++ chosen n owners (replies units requests)

gives_nothing : (n : ℕ) (units : List LogicalUnit) (s : Standing) → Gives n units [] [] s s
gives_nothing n units s = record { matched = refl; adds = sym (append-nil (owed_at s)) }

gives_on : (n : ℕ) (units middle : List LogicalUnit) (ks js : List ℕ) (qs rs : List Request) (a b c : Standing) → middle ≡ units_after units qs
    → Gives n units ks qs a b → Gives n middle js rs b c → Gives n units (ks ++ js) (qs ++ rs) a c
gives_on n units middle ks js qs rs a b c is one two = record {
  matched = count_join qs rs ks js one.matched two.matched;
  adds =
      two.adds
      ∙ ap (λ (z : List UnitReply). z ++ chosen n js (replies middle rs)) one.adds
      ∙ append_assoc (owed_at a) (chosen n ks (replies units qs)) (chosen n js (replies middle rs))
      ∙ ap (λ (z : List UnitReply). owed_at a ++ z)
      (ap (λ (u : List LogicalUnit). chosen n ks (replies units qs) ++ chosen n js (replies u rs)) is
      ∙ sym (to_join n ks js (replies units qs) (replies (units_after units qs) rs) (one.matched ∙ sym (replies_count units qs)))
      ∙ ap (chosen n (ks ++ js)) (sym (replies_join units qs rs)));
}

gives_nil : (n : ℕ) (units : List LogicalUnit) (ks : List ℕ) (qs : List Request) (a b : Standing) → Gives n units ks qs a b → Gives n units (ks ++ []) (qs ++ []) a b
gives_nil n units ks qs a b one = gives_on n units (units_after units qs) ks [] qs [] a b b refl one (gives_nothing n (units_after units qs) b)

-- requests of another connection
gives_another : (n k : ℕ) (units : List LogicalUnit) (qs : List Request) (s : Standing) → (k == n) ≡ false → Gives n units (each_of k qs) qs s s
gives_another n k units qs s is = record {
  matched = each_count k qs;
  adds = sym (append-nil (owed_at s)) ∙ ap (λ (z : List UnitReply). owed_at s ++ z) (sym (none_to n k qs (replies units qs) is));
}

-- a reset
learned_gives : (n : ℕ) (r : Reset) (units : List LogicalUnit) (l : Link) → (l.number == n) ≡ true
    → Gives n units (link_owners r l) (link_learned r l) l.standing (learned r units l.standing).standing
learned_gives n r units l is = record {
  matched = each_count l.number (link_learned r l);
  adds = go l.standing ∙ ap (λ (z : List UnitReply). owed_at l.standing ++ z) (sym (all_to n l.number (link_learned r l) units is));
} where
  go : (s : Standing) → owed_at (learned r units s).standing ≡ owed_at s ++ replies units (link_learned r (record { number = l.number; splitter = l.splitter; standing = s }))
  go (standing.LoggingIn p) = refl
  go (standing.Serving v) =
      map-append reply_owed v.owed (woken v.session.nexus units (spared r v.session.tasks)).owed
      ∙ ap (λ (z : List UnitReply). map reply_owed v.owed ++ z) (woken_in_order v.session.nexus units (spared r v.session.tasks)).1
  go standing.Ended = refl
  go standing.Closed = refl

pub new_learns : (r : Reset) (l : Link) → IsNew l.standing → link_learned r l ≡ []
new_learns r l new = ap (λ (s : Standing). link_learned r (record { number = l.number; splitter = l.splitter; standing = s })) new

idle_gives : (n : ℕ) (r : Reset) (units : List LogicalUnit) (ls : List Link) (s : Standing) → AreIdle n ls
    → Gives n units (flat_map (link_owners r) ls) (flat_map (link_learned r) ls) s s
idle_gives n r units [] s i = gives_nothing n units s
idle_gives n r units (l ∷ ls) s i =
    gives_on n units (units_after units (link_learned r l)) (link_owners r l) (flat_map (link_owners r) ls) (link_learned r l) (flat_map (link_learned r) ls) s s s refl
    (go (l.number == n) refl) (idle_gives n r (units_after units (link_learned r l)) ls s i.1) where
      go : (b : Bool) → (l.number == n) ≡ b → Gives n units (link_owners r l) (link_learned r l) s s
      go true is = subst (λ (z : List Request). Gives n units (each_of l.number z) z s s) (sym (new_learns r l (i.0 is))) (gives_nothing n units s)
      go false is = gives_another n l.number units (link_learned r l) s is

each_gives : (n : ℕ) (r : Reset) (units : List LogicalUnit) (ls : List Link) → OneIsBusy n ls
    → Gives n units (flat_map (link_owners r) ls) (flat_map (link_learned r) ls) (standing_in n ls) (standing_in n (reset_each r units ls).links)
each_gives n r units [] i = gives_nothing n units standing.Closed
each_gives n r units (l ∷ ls) i = go (l.number == n) refl i (λ h. each_gives n r (learned r units l.standing).units ls h) where
  after : List LogicalUnit
  after = (learned r units l.standing).units

  rest : List Link
  rest = (reset_each r after ls).links

  mine : List Request
  mine = link_learned r l

  more : List Request
  more = flat_map (link_learned r) ls

  relearnt : Link
  relearnt = record { number = l.number; splitter = l.splitter; standing = (learned r units l.standing).standing }

  go : (b : Bool) → (l.number == n) ≡ b → AreIdle n (if b then ls else l ∷ without n ls)
      → (OneIsBusy n ls → Gives n after (flat_map (link_owners r) ls) more (standing_in n ls) (standing_in n rest))
      → Gives n units (link_owners r l ++ flat_map (link_owners r) ls) (mine ++ more) (standing_of (if b then Some l else link_of n ls))
      (standing_of (if b then Some relearnt else link_of n rest))
  go true is h later =
      gives_on n units after (link_owners r l) (flat_map (link_owners r) ls) mine more l.standing relearnt.standing relearnt.standing (learned_units r units l.standing)
      (learned_gives n r units l is) (idle_gives n r after ls relearnt.standing h)
  go false is h later =
      gives_on n units after (link_owners r l) (flat_map (link_owners r) ls) mine more (standing_in n ls) (standing_in n ls) (standing_in n rest)
      (learned_units r units l.standing) (gives_another n l.number units mine (standing_in n ls) is) (later h.1)

resets_give : (n : ℕ) (resets : List Reset) (units : List LogicalUnit) (ls : List Link) → OneIsBusy n ls
    → Gives n units (reset_owners resets units ls) (reset_requests resets units ls) (standing_in n ls) (standing_in n (reset_links resets units ls).links)
resets_give n [] units ls i = gives_nothing n units (standing_in n ls)
resets_give n (r ∷ rs) units ls i =
    let all : Reached = reset_each r units ls in
    gives_on n units all.units (flat_map (link_owners r) ls) (reset_owners rs all.units all.links) (flat_map (link_learned r) ls) (reset_requests rs all.units all.links)
    (standing_in n ls) (standing_in n all.links) (standing_in n (reset_links rs all.units all.links).links) (each_units r units ls)
    (each_gives n r units ls i) (resets_give n rs all.units all.links (busy_reset n r units ls i))

-- a PDU of connection m that has its turn, and those that were held

turn_gives : (n m : ℕ) (t : Target) (s : Session) (p : Pdu) → (m == n) ≡ false → OneIsBusy n t.links
    → Gives n t.units (turn_owners m t s p) (turn_requests t s p) (standing_in n t.links) (standing_in n (told t (turn_of t s p)).links)
turn_gives n m t s p apart i =
    let turn : Turn = turn_of t s p in
    gives_on n t.units turn.units (each_of m (turn_own t s p)) (reset_owners turn.session.resets turn.units t.links) (turn_own t s p)
    (reset_requests turn.session.resets turn.units t.links) (standing_in n t.links) (standing_in n t.links) (standing_in n (told t turn).links)
    (served_units s t.units t.listing p) (gives_another n m t.units (turn_own t s p) (standing_in n t.links) apart)
    (resets_give n turn.session.resets turn.units t.links i)

in_turn_gives : (n m : ℕ) (t : Target) (s : Session) (p : Pdu) (held : Held) → (m == n) ≡ false → OneIsBusy n t.links
    → Gives n t.units (in_turn_owners m t s p held) (in_turn_requests t s p held) (standing_in n t.links) (standing_in n (in_turn t s p held).target.links)
in_turn_gives n m t s p [] apart i = turn_gives n m t (advanced s) p apart i
in_turn_gives n m t s p (None ∷ held) apart i = turn_gives n m t (advanced s) p apart i
in_turn_gives n m t s p (Some next ∷ held) apart i =
    go turn.fed (turn_gives n m t (advanced s) p apart i)
    (in_turn_gives n m after behind next held apart (told_busy n turn.session.resets t.links after.links (resets_told turn.session.resets turn.units t.links) i)) where
      turn : Turn
      turn = turn_of t (advanced s) p

      after : Target
      after = told t turn

      behind : Session
      behind = without_resets turn.session

      first : List Request
      first = turn_requests t (advanced s) p

      rest : List Request
      rest = in_turn_requests after behind next held

      firsts : List ℕ
      firsts = turn_owners m t (advanced s) p

      others : List ℕ
      others = in_turn_owners m after behind next held

      end : Received
      end = in_turn after behind next held

      go : (f : Fed) → Gives n t.units firsts first (standing_in n t.links) (standing_in n after.links)
          → Gives n after.units others rest (standing_in n after.links) (standing_in n end.target.links)
          → Gives n t.units (firsts ++ owners_if f others) (first ++ if_going f rest) (standing_in n t.links)
          (standing_in n (followed f (received_turn t held turn) end).target.links)
      go Closed one two = gives_nil n t.units firsts first (standing_in n t.links) (standing_in n after.links) one
      go Going one two =
          gives_on n t.units after.units firsts others first rest (standing_in n t.links) (standing_in n after.links) (standing_in n end.target.links)
          (told_units t (advanced s) p) one two

received_gives : (n m : ℕ) (place : Place) (t : Target) (s : Session) (held : Held) (p : Pdu) → (m == n) ≡ false → OneIsBusy n t.links
    → Gives n t.units (owners_at m place t s held p) (requests_at place t s held p) (standing_in n t.links) (standing_in n (received_at place t s held p).target.links)
received_gives n m Now t s held p apart i = turn_gives n m t s p apart i
received_gives n m InTurn t s held p apart i = in_turn_gives n m t s p held apart i
received_gives n m (Early at) t s held p apart i = gives_nothing n t.units (standing_in n t.links)
received_gives n m Outside t s held p apart i = gives_nothing n t.units (standing_in n t.links)

-- nothing is owed where no session is

served_still : (s : Standing) (rs : List UnitReply) → owed_at s ≡ rs → owed_at s ≡ while_served s rs
served_still (standing.LoggingIn p) rs is = refl
served_still (standing.Serving v) rs is = is
served_still standing.Ended rs is = refl
served_still standing.Closed rs is = refl

none_served : (s : Standing) → while_served s [] ≡ []
none_served (standing.LoggingIn p) = refl
none_served (standing.Serving v) = refl
none_served standing.Ended = refl
none_served standing.Closed = refl

shut_owed : (s : Standing) (rs : List UnitReply) → owed_at s ≡ while_served s rs → owed_at (shut s) ≡ while_served (shut s) rs
shut_owed (standing.LoggingIn p) rs is = is
shut_owed (standing.Serving v) rs is = is
shut_owed standing.Ended rs is = is
shut_owed standing.Closed rs is = is

shut_none : (s : Standing) → owed_at (shut s) ≡ owed_at s
shut_none (standing.LoggingIn p) = refl
shut_none (standing.Serving v) = refl
shut_none standing.Ended = refl
shut_none standing.Closed = refl

ended_owed : (nexus : List ℕ) (s : Standing) → owed_at (ended_standing nexus s) ≡ while_served (ended_standing nexus s) (owed_at s ++ [])
ended_owed nexus (standing.LoggingIn p) = refl
ended_owed nexus (standing.Serving v) = go (bytes_eq v.session.nexus nexus) where
  go : (b : Bool) → owed_at (if b then standing.Ended else standing.Serving v) ≡ while_served (if b then standing.Ended else standing.Serving v) (map reply_owed v.owed ++ [])
  go true = refl
  go false = sym (append-nil (map reply_owed v.owed))
ended_owed nexus standing.Ended = refl
ended_owed nexus standing.Closed = refl

-- another connection, as a PDU of connection m comes
abbrev OwesBy : ℕ → Target → List ℕ → List Request → Standing → Type 0
OwesBy n t owners requests after = owed_at after ≡ while_served after (owed_at (standing_in n t.links) ++ chosen n owners (replies t.units requests))

nothing_owes : (n : ℕ) (t : Target) → OwesBy n t [] [] (standing_in n t.links)
nothing_owes n t = served_still (standing_in n t.links) (owed_at (standing_in n t.links) ++ []) (sym (append-nil (owed_at (standing_in n t.links))))

login_owes : (n : ℕ) (t : Target) (a : Answer) (v : Verdict) → OwesBy n t [] [] (standing_in n (logged_in_by t a v).target.links)
login_owes n t a verdict.Going = nothing_owes n t
login_owes n t a verdict.Closed = nothing_owes n t
login_owes n t a (verdict.Done s) =
    subst (λ (z : Standing). owed_at z ≡ while_served z (owed_at (standing_in n t.links) ++ [])) (sym (ended_standings n (nexus_of s.who) t.links))
    (ended_owed (nexus_of s.who) (standing_in n t.links))

step_owes : (n m : ℕ) (t : Target) (s : Standing) (p : Pdu) → (m == n) ≡ false → OneIsBusy n t.links
    → OwesBy n t (step_owners m t s p) (step_requests t s p) (standing_in n (stepped t s p).target.links)
step_owes n m t (standing.LoggingIn login) p apart i =
    login_owes n (with_words t (turned t.rules t.handle login p t.words).words) (turned t.rules t.handle login p t.words).answer
    (turned t.rules t.handle login p t.words).answer.verdict
step_owes n m t (standing.Serving v) p apart i =
    served_still (standing_in n r.target.links) (owed_at (standing_in n t.links) ++ chosen n owners (replies t.units requests))
    (received_gives n m place t (paid v.session v.owed) v.held p apart i).adds where
      place : Place
      place = place_of v.session.discovers v.session.numbers.exp.0 p.head

      r : Received
      r = received_at place t (paid v.session v.owed) v.held p

      owners : List ℕ
      owners = owners_at m place t (paid v.session v.owed) v.held p

      requests : List Request
      requests = requests_at place t (paid v.session v.owed) v.held p
step_owes n m t standing.Ended p apart i = nothing_owes n t
step_owes n m t standing.Closed p apart i = nothing_owes n t

-- the connection itself
login_paid : (t : Target) (a : Answer) (v : Verdict) → owed_at (logged_in_by t a v).standing ≡ []
login_paid t a verdict.Going = refl
login_paid t a verdict.Closed = refl
login_paid t a (verdict.Done s) = refl

served_paid : (r : Received) (f : Fed) → owed_at (serving_by f r) ≡ []
served_paid r Closed = refl
served_paid r Going = refl

own_paid : (t : Target) (s : Standing) (p : Pdu) → owed_at (stepped t s p).standing ≡ []
own_paid t (standing.LoggingIn login) p =
    login_paid (with_words t (turned t.rules t.handle login p t.words).words) (turned t.rules t.handle login p t.words).answer
    (turned t.rules t.handle login p t.words).answer.verdict
own_paid t (standing.Serving v) p = go (received_at (place_of v.session.discovers v.session.numbers.exp.0 p.head) t (paid v.session v.owed) v.held p) where
  go : (r : Received) → owed_at (serving_by r.fed r) ≡ []
  go r = served_paid r r.fed
own_paid t standing.Ended p = refl
own_paid t standing.Closed p = refl

paid_served : (s : Standing) → owed_at s ≡ [] → owed_at s ≡ while_served s []
paid_served s is = is ∙ sym (none_served s)

-- each event

abbrev EventOwes : ℕ → Target → Event → Type 0
EventOwes n t e = owed_at (standing_in n (happened t e).target.links) ≡ while_served (standing_in n (happened t e).target.links) (awaited_by n t e (owed_at (standing_in n t.links)))

link_owes : (n m : ℕ) (t : Target) (p : Pdu) (o : Option Link) → link_of m t.links ≡ o → OneIsBusy n t.links
    → owed_at (standing_in n (heard_of t m o p).target.links)
    ≡ while_served (standing_in n (heard_of t m o p).target.links)
    (if m == n then [] else owed_at (standing_in n t.links) ++ chosen n (owners_by m t o p) (replies t.units (link_requests t m o p)))
link_owes n m t p None found i = go (m == n) refl where
  go : (b : Bool) → (m == n) ≡ b → owed_at (standing_in n t.links) ≡ while_served (standing_in n t.links) (if b then [] else owed_at (standing_in n t.links) ++ [])
  go true is =
      paid_served (standing_in n t.links)
      (subst (λ (k : ℕ). owed_at (standing_in k t.links) ≡ []) (eqb-true m n is) (ap (λ (o : Option Link). owed_at (standing_of o)) found))
  go false is = nothing_owes n t
link_owes n m t p (Some l) found i = go (m == n) refl where
  s : Step
  s = stepped (aside m t) l.standing p

  go : (b : Bool) → (m == n) ≡ b
      → owed_at (standing_in n (heard_of t m (Some l) p).target.links)
      ≡ while_served (standing_in n (heard_of t m (Some l) p).target.links)
      (if b then [] else owed_at (standing_in n t.links) ++ chosen n (owners_by m t (Some l) p) (replies t.units (link_requests t m (Some l) p)))
  go true is =
      paid_served (standing_in n (heard_of t m (Some l) p).target.links)
      (subst (λ (k : ℕ). owed_at (standing_in k (heard_of t m (Some l) p).target.links) ≡ []) (eqb-true m n is)
      (ap owed_at (own_standing m s.standing s.target.links (aside_step m (aside m t) l.standing p (is_aside m t.links l found)))
      ∙ shut_none s.standing ∙ own_paid (aside m t) l.standing p))
  go false is =
      subst (λ (z : Standing). owed_at z ≡ while_served z (owed_at (standing_in n t.links) ++ chosen n (owners_by m t (Some l) p) (replies t.units (link_requests t m (Some l) p))))
      (sym (other_standing n m s.standing s.target.links is))
      (shut_owed (standing_in n s.target.links) (owed_at (standing_in n t.links) ++ chosen n (owners_by m t (Some l) p) (replies t.units (link_requests t m (Some l) p)))
      (subst (λ (z : Standing). owed_at (standing_in n s.target.links)
      ≡ while_served (standing_in n s.target.links) (owed_at z ++ chosen n (owners_by m t (Some l) p) (replies t.units (link_requests t m (Some l) p))))
      (aside_standing n m t is)
      (step_owes n m (aside m t) l.standing p is (busy_placed n (closed_link m) t.links i))))

new_owed : (n m : ℕ) (ls : List Link) → owed_at (standing_in n (ls ++ new_link m ∷ [])) ≡ owed_at (standing_in n ls)
new_owed n m [] = go (m == n) where
  go : (b : Bool) → owed_at (standing_of (if b then Some (new_link m) else None)) ≡ []
  go true = refl
  go false = refl
new_owed n m (l ∷ ls) = go (l.number == n) (new_owed n m ls) where
  go : (b : Bool) → owed_at (standing_in n (ls ++ new_link m ∷ [])) ≡ owed_at (standing_in n ls)
      → owed_at (standing_of (if b then Some l else link_of n (ls ++ new_link m ∷ []))) ≡ owed_at (standing_of (if b then Some l else link_of n ls))
  go true was = refl
  go false was = was

not_served : (s : Standing) (rs : List UnitReply) → (s ≡ standing.Closed) ⊎ IsNew s → owed_at s ≡ while_served s rs
not_served s rs (inl closed) = subst (λ (z : Standing). owed_at z ≡ while_served z rs) (sym closed) refl
not_served s rs (inr new) = subst (λ (z : Standing). owed_at z ≡ while_served z rs) (sym new) refl

-- where the connection closes or is gone
lost_owes : (n m : ℕ) (t : Target) (ls : List Link) → ((m == n) ≡ true → (standing_in n ls ≡ standing.Closed) ⊎ IsNew (standing_in n ls))
    → ((m == n) ≡ false → standing_in n ls ≡ standing_in n t.links)
    → owed_at (standing_in n ls) ≡ while_served (standing_in n ls) (owed_at (standing_in n t.links))
lost_owes n m t ls mine other = go (m == n) refl where
  go : (b : Bool) → (m == n) ≡ b → owed_at (standing_in n ls) ≡ while_served (standing_in n ls) (owed_at (standing_in n t.links))
  go true is = not_served (standing_in n ls) (owed_at (standing_in n t.links)) (mine is)
  go false is = served_still (standing_in n ls) (owed_at (standing_in n t.links)) (ap owed_at (other is))

event_owes : (n : ℕ) (t : Target) (e : Event) → OneIsBusy n t.links → EventOwes n t e
event_owes n t (Joined m) i =
    served_still (standing_in n (t.links ++ new_link m ∷ [])) (owed_at (standing_in n t.links)) (new_owed n m t.links)
event_owes n t (Left m) i =
    lost_owes n m t (without m t.links)
    (λ is. subst (λ (k : ℕ). (standing_in n (without k t.links) ≡ standing.Closed) ⊎ IsNew (standing_in n (without k t.links))) (sym (eqb-true m n is))
    (idle_standing n (without n t.links) i))
    (λ is. ap standing_of (others_found n m t.links is))
event_owes n t (Told listing) i = served_still (standing_in n t.links) (owed_at (standing_in n t.links)) refl
event_owes n t (Whole m p) i = link_owes n m t p (link_of m t.links) refl i
event_owes n t (Malformed m) i =
    lost_owes n m t (aside m t).links
    (λ is. inl (subst (λ (k : ℕ). standing_in n (aside k t).links ≡ standing.Closed) (sym (eqb-true m n is)) (aside_closed n t)))
    (λ is. aside_standing n m t is)

pub owed_are_awaited : OwedAreAwaited
owed_are_awaited n c [] = refl
owed_are_awaited n c (e ∷ es) =
    event_owes n (state_after c es) e (all_busy n c es)
    ∙ ap (λ (z : List UnitReply). while_served (standing_in n (state_after c (e ∷ es)).links) (awaited_by n (state_after c es) e z)) (owed_are_awaited n c es)
