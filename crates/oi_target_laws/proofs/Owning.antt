-- The requests of a connection are its commands that are executed.
use Rattle.std.proofs.Common.{ℕ, Bool, true, false, ◌≡◌, ◌∙◌, Option, Some, None, List, [], ◌∷◌, ◌++◌, length, flat_map, map, refl, ap, sym, subst, append-nil, if◌then◌else◌, ◌==◌}
use Rattle.std.proofs.lemmas.Bool.{eqb-true}
use Rattle.std.proofs.lemmas.List.{map-append}
use Rattle.oi_pdu.specs.declared.codec.Pdu.{Pdu}
use Rattle.oi_target.proofs.Placed.{itself}
use Rattle.oi_target.proofs.Told.{resets_told}
use Rattle.oi_target.specs.Events.{Event, Joined, Left, Told, Whole, Malformed, state_after}
use Rattle.oi_target.specs.Runs.{event_requests, in_turn_own, in_turn_requests, learned_requests, link_learned, link_own, link_requests, own_at, own_requests, requests_at, reset_requests, step_requests, turn_own, turn_requests}
use Rattle.oi_target.specs.Targets.{Reached, Target, aside, closed_link, learned, link_of, reset_each, reset_links, without}
use Rattle.oi_target.specs.Turns.{Received, followed, in_turn, received_at, received_turn, told, turn_of}
use Rattle.oi_target.specs.declared.link.Link.{Link}
use Rattle.oi_target.specs.declared.link.Standing.{Standing}
use Rattle.oi_target.specs.declared.link.Standing.TheVariants as standing
use Rattle.oi_target_laws.proofs.Accounts.{all_busy, aside_closed, aside_standing}
use Rattle.oi_target_laws.proofs.Asking.{asked_by, learned_commands}
use Rattle.oi_target_laws.proofs.Idle.{AreIdle, OneIsBusy, busy_placed}
use Rattle.oi_target_laws.proofs.Learning.{after_all, busy_reset, reset_tasks, resets_tasks, told_busy, told_keep, woken_join}
use Rattle.oi_target_laws.proofs.Keeps.{handled_keeps, served_keeps}
use Rattle.oi_target_laws.proofs.Owed.{count_join, each_count, new_learns, none_to, to_join}
use Rattle.oi_target_laws.specs.Histories.{event_executed, executed_on, link_woken, standing_in, standing_of, step_woken, tasks_at, tasks_in, woken_by_all}
use Rattle.oi_target_laws.specs.Owners.{AreFor, ExecutedAreOwned, RequestsHavePort, chosen, each_of, event_owners, in_turn_owners, link_owners, owners_at, owners_by, owners_if, nexus_at, requests_on, reset_owners, step_owners, turn_owners}
use Rattle.oi_target_laws.specs.Turned.{command_of_request, command_of_task, commands_of}
use Rattle.oi_target_session.specs.Arrivals.{Held, advanced, place_of}
use Rattle.oi_target_session.specs.Executions.{if_going}
use Rattle.oi_target_session.specs.Owing.{paid, unready}
use Rattle.oi_target_session.specs.Runs.{ready, request_of}
use Rattle.oi_target_session.specs.Sessions.{Handled, Session, Turn, handled, spared, without_resets}
use Rattle.oi_target_session.specs.declared.fed.Fed.{Fed}
use Rattle.oi_target_session.specs.declared.fed.Fed.TheVariants.{Going, Closed}
use Rattle.oi_target_session.specs.declared.place.Place.{Place}
use Rattle.oi_target_session.specs.declared.place.Place.TheVariants.{Now, InTurn, Early, Outside}
use Rattle.oi_target_session.specs.declared.reset.Reset.{Reset}
use Rattle.oi_target_session.specs.declared.reset.Reset.TheVariants.{Unit as OfUnit, Whole as OfTarget}
use Rattle.oi_target_tasks.specs.declared.task.Task.{Task}
use Rattle.oi_units.specs.Runs.{Request}
use Rattle.oi_units.specs.declared.command.UnitCommand.{UnitCommand}
use Rattle.oi_units.specs.declared.unit.LogicalUnit.{LogicalUnit}

-- requests for one initiator port
for_join : (nexus : List ℕ) (first second : List Request) → AreFor nexus first → AreFor nexus second → AreFor nexus (first ++ second)
for_join nexus [] second a b = b
for_join nexus (r ∷ rs) second a b = (a.0, for_join nexus rs second a.1 b)

for_tasks : (nexus : List ℕ) (ts : List Task) → AreFor nexus (map (request_of nexus) ts)
for_tasks nexus [] = tt
for_tasks nexus (t ∷ ts) = (refl, for_tasks nexus ts)

for_learned : (r : Reset) (s : Standing) → AreFor (nexus_at s) (learned_requests r s)
for_learned r (standing.LoggingIn p) = tt
for_learned r (standing.Serving v) = for_tasks v.session.nexus (ready (spared r v.session.tasks))
for_learned r standing.Ended = tt
for_learned r standing.Closed = tt

-- none are for any
for_none : (nexus : List ℕ) (rs : List Request) → asked_by rs ≡ [] → AreFor nexus rs
for_none nexus [] none = tt
for_none nexus (r ∷ rs) none = absurd (let n : ⊥ = cc in n)

learned_nexus : (r : Reset) (units : List LogicalUnit) (s : Standing) → nexus_at (learned r units s).standing ≡ nexus_at s
learned_nexus r units (standing.LoggingIn p) = refl
learned_nexus r units (standing.Serving v) = refl
learned_nexus r units standing.Ended = refl
learned_nexus r units standing.Closed = refl

told_nexus : (n : ℕ) (resets : List Reset) (units : List LogicalUnit) (ls : List Link)
    → nexus_at (standing_in n (reset_links resets units ls).links) ≡ nexus_at (standing_in n ls)
told_nexus n resets units ls =
    told_keep (λ s. nexus_at s ≡ nexus_at (standing_in n ls)) (λ r u s same. learned_nexus r u s ∙ same) n resets ls (reset_links resets units ls).links
    (resets_told resets units ls) refl

-- of these requests those of a connection bring these commands, for this initiator port
record Owns (n : ℕ) (nexus : List ℕ) (owners : List ℕ) (requests : List Request) (commands : List UnitCommand) : Type 0 where
  pub matched : length owners ≡ length requests
  pub brings : asked_by (chosen n owners requests) ≡ commands
  pub port : AreFor nexus (chosen n owners requests)

owns_nothing : (n : ℕ) (nexus : List ℕ) → Owns n nexus [] [] []
owns_nothing n nexus = record { matched = refl; brings = refl; port = tt }

owns_join : (n : ℕ) (nexus : List ℕ) (ks js : List ℕ) (qs rs : List Request) (cs ds : List UnitCommand) → Owns n nexus ks qs cs → Owns n nexus js rs ds
    → Owns n nexus (ks ++ js) (qs ++ rs) (cs ++ ds)
owns_join n nexus ks js qs rs cs ds one two = record {
  matched = count_join qs rs ks js one.matched two.matched;
  brings =
      ap asked_by (to_join n ks js qs rs one.matched)
      ∙ map-append command_of_request (chosen n ks qs) (chosen n js rs)
      ∙ ap (λ (z : List UnitCommand). z ++ asked_by (chosen n js rs)) one.brings
      ∙ ap (λ (z : List UnitCommand). cs ++ z) two.brings;
  port = subst (AreFor nexus) (sym (to_join n ks js qs rs one.matched)) (for_join nexus (chosen n ks qs) (chosen n js rs) one.port two.port);
}

-- all are its own
all_chosen : (n k : ℕ) (qs : List Request) → (k == n) ≡ true → chosen n (each_of k qs) qs ≡ qs
all_chosen n k [] is = refl
all_chosen n k (q ∷ qs) is =
    ap (λ (b : Bool). if b then q ∷ chosen n (each_of k qs) qs else chosen n (each_of k qs) qs) is ∙ ap (λ (z : List Request). q ∷ z) (all_chosen n k qs is)

owns_all : (n k : ℕ) (nexus : List ℕ) (qs : List Request) → (k == n) ≡ true → AreFor nexus qs → Owns n nexus (each_of k qs) qs (asked_by qs)
owns_all n k nexus qs is are =
    record { matched = each_count k qs; brings = ap asked_by (all_chosen n k qs is); port = subst (AreFor nexus) (sym (all_chosen n k qs is)) are }

owns_none : (n k : ℕ) (nexus : List ℕ) (qs : List Request) → (k == n) ≡ false → Owns n nexus (each_of k qs) qs []
owns_none n k nexus qs is =
    record { matched = each_count k qs; brings = ap asked_by (none_to n k qs qs is); port = subst (AreFor nexus) (sym (none_to n k qs qs is)) tt }

-- a reset
idle_owns : (n : ℕ) (nexus : List ℕ) (r : Reset) (ls : List Link) → AreIdle n ls → Owns n nexus (flat_map (link_owners r) ls) (flat_map (link_learned r) ls) []
idle_owns n nexus r [] i = owns_nothing n nexus
idle_owns n nexus r (l ∷ ls) i =
    owns_join n nexus (link_owners r l) (flat_map (link_owners r) ls) (link_learned r l) (flat_map (link_learned r) ls) [] [] (go (l.number == n) refl)
    (idle_owns n nexus r ls i.1) where
      go : (b : Bool) → (l.number == n) ≡ b → Owns n nexus (link_owners r l) (link_learned r l) []
      go true is = subst (λ (z : List Request). Owns n nexus (each_of l.number z) z []) (sym (new_learns r l (i.0 is))) (owns_nothing n nexus)
      go false is = owns_none n l.number nexus (link_learned r l) is

each_owns : (n : ℕ) (r : Reset) (ls : List Link) → OneIsBusy n ls
    → Owns n (nexus_at (standing_in n ls)) (flat_map (link_owners r) ls) (flat_map (link_learned r) ls) (commands_of (ready (spared r (tasks_in n ls))))
each_owns n (OfUnit lun) [] i = owns_nothing n []
each_owns n OfTarget [] i = owns_nothing n []
each_owns n r (l ∷ ls) i = go (l.number == n) refl i (λ h. each_owns n r ls h) where
  owned : List ℕ → List UnitCommand → Type 0
  owned nexus cs = Owns n nexus (link_owners r l ++ flat_map (link_owners r) ls) (link_learned r l ++ flat_map (link_learned r) ls) cs

  go : (b : Bool) → (l.number == n) ≡ b → AreIdle n (if b then ls else l ∷ without n ls)
      → (OneIsBusy n ls → Owns n (nexus_at (standing_in n ls)) (flat_map (link_owners r) ls) (flat_map (link_learned r) ls) (commands_of (ready (spared r (tasks_in n ls)))))
      → owned (nexus_at (standing_of (if b then Some l else link_of n ls))) (commands_of (ready (spared r (tasks_at (standing_of (if b then Some l else link_of n ls))))))
  go true is h later =
      subst (owned (nexus_at l.standing)) (append-nil (commands_of (ready (spared r (tasks_at l.standing)))))
      (subst (λ (z : List UnitCommand). owned (nexus_at l.standing) (z ++ [])) (learned_commands r l.standing)
      (owns_join n (nexus_at l.standing) (link_owners r l) (flat_map (link_owners r) ls) (link_learned r l) (flat_map (link_learned r) ls) (asked_by (link_learned r l)) []
      (owns_all n l.number (nexus_at l.standing) (link_learned r l) is (for_learned r l.standing)) (idle_owns n (nexus_at l.standing) r ls h)))
  go false is h later =
      owns_join n (nexus_at (standing_in n ls)) (link_owners r l) (flat_map (link_owners r) ls) (link_learned r l) (flat_map (link_learned r) ls) []
      (commands_of (ready (spared r (tasks_in n ls)))) (owns_none n l.number (nexus_at (standing_in n ls)) (link_learned r l) is) (later h.1)

resets_own : (n : ℕ) (resets : List Reset) (units : List LogicalUnit) (ls : List Link) → OneIsBusy n ls
    → Owns n (nexus_at (standing_in n ls)) (reset_owners resets units ls) (reset_requests resets units ls) (commands_of (woken_by_all resets (tasks_in n ls)))
resets_own n [] units ls i = owns_nothing n (nexus_at (standing_in n ls))
resets_own n (r ∷ rs) units ls i =
    subst (λ (z : List UnitCommand). Owns n nexus (reset_owners (r ∷ rs) units ls) (reset_requests (r ∷ rs) units ls) z)
    (sym (map-append command_of_task (ready (spared r (tasks_in n ls))) (woken_by_all rs (unready (spared r (tasks_in n ls))))))
    (owns_join n nexus (flat_map (link_owners r) ls) (reset_owners rs all.units all.links) (flat_map (link_learned r) ls) (reset_requests rs all.units all.links)
    (commands_of (ready (spared r (tasks_in n ls)))) (commands_of (woken_by_all rs (unready (spared r (tasks_in n ls))))) (each_owns n r ls i)
    (subst (λ (x : List ℕ). Owns n x (reset_owners rs all.units all.links) (reset_requests rs all.units all.links)
    (commands_of (woken_by_all rs (unready (spared r (tasks_in n ls)))))) (told_nexus n (r ∷ []) units ls)
    (subst (λ (z : List Task). Owns n (nexus_at (standing_in n all.links)) (reset_owners rs all.units all.links) (reset_requests rs all.units all.links)
    (commands_of (woken_by_all rs z))) (reset_tasks n r units ls)
    (resets_own n rs all.units all.links (busy_reset n r units ls i))))) where
      nexus : List ℕ
      nexus = nexus_at (standing_in n ls)

      all : Reached
      all = reset_each r units ls

-- a PDU of connection m that has its turn, and those that were held: of another connection

turn_owns : (n m : ℕ) (t : Target) (s : Session) (p : Pdu) → (m == n) ≡ false → OneIsBusy n t.links
    → Owns n (nexus_at (standing_in n t.links)) (turn_owners m t s p) (turn_requests t s p) (commands_of (woken_by_all (turn_of t s p).session.resets (tasks_in n t.links)))
turn_owns n m t s p apart i =
    let turn : Turn = turn_of t s p in
    let nexus : List ℕ = nexus_at (standing_in n t.links) in
    owns_join n nexus (each_of m (turn_own t s p)) (reset_owners turn.session.resets turn.units t.links) (turn_own t s p)
    (reset_requests turn.session.resets turn.units t.links) [] (commands_of (woken_by_all turn.session.resets (tasks_in n t.links)))
    (owns_none n m nexus (turn_own t s p) apart) (resets_own n turn.session.resets turn.units t.links i)

owns_nil : (n : ℕ) (nexus : List ℕ) (ks : List ℕ) (qs : List Request) (cs : List UnitCommand) → Owns n nexus ks qs cs → Owns n nexus (ks ++ []) (qs ++ []) cs
owns_nil n nexus ks qs cs one =
    subst (λ (z : List UnitCommand). Owns n nexus (ks ++ []) (qs ++ []) z) (append-nil cs) (owns_join n nexus ks [] qs [] cs [] one (owns_nothing n nexus))

in_turn_owns : (n m : ℕ) (t : Target) (s : Session) (p : Pdu) (held : Held) → (m == n) ≡ false → OneIsBusy n t.links
    → Owns n (nexus_at (standing_in n t.links)) (in_turn_owners m t s p held) (in_turn_requests t s p held)
    (commands_of (woken_by_all (in_turn t s p held).resets (tasks_in n t.links)))
in_turn_owns n m t s p [] apart i = turn_owns n m t (advanced s) p apart i
in_turn_owns n m t s p (None ∷ held) apart i = turn_owns n m t (advanced s) p apart i
in_turn_owns n m t s p (Some next ∷ held) apart i =
    go turn.fed (turn_owns n m t (advanced s) p apart i)
    (in_turn_owns n m after (without_resets turn.session) next held apart (told_busy n one t.links after.links (resets_told one turn.units t.links) i)) where
      turn : Turn
      turn = turn_of t (advanced s) p

      one : List Reset
      one = turn.session.resets

      after : Target
      after = told t turn

      end : Received
      end = in_turn after (without_resets turn.session) next held

      nexus : List ℕ
      nexus = nexus_at (standing_in n t.links)

      ts : List Task
      ts = tasks_in n t.links

      first : List Request
      first = turn_requests t (advanced s) p

      rest : List Request
      rest = in_turn_requests after (without_resets turn.session) next held

      firsts : List ℕ
      firsts = turn_owners m t (advanced s) p

      others : List ℕ
      others = in_turn_owners m after (without_resets turn.session) next held

      go : (f : Fed) → Owns n nexus firsts first (commands_of (woken_by_all one ts))
          → Owns n (nexus_at (standing_in n after.links)) others rest (commands_of (woken_by_all end.resets (tasks_in n after.links)))
          → Owns n nexus (firsts ++ owners_if f others) (first ++ if_going f rest) (commands_of (woken_by_all (followed f (received_turn t held turn) end).resets ts))
      go Closed a b = owns_nil n nexus firsts first (commands_of (woken_by_all one ts)) a
      go Going a b =
          subst (λ (z : List UnitCommand). Owns n nexus (firsts ++ others) (first ++ rest) z)
          (sym (ap commands_of (woken_join one end.resets ts) ∙ map-append command_of_task (woken_by_all one ts) (woken_by_all end.resets (after_all one ts))))
          (owns_join n nexus firsts others first rest (commands_of (woken_by_all one ts)) (commands_of (woken_by_all end.resets (after_all one ts))) a
          (subst (λ (x : List ℕ). Owns n x others rest (commands_of (woken_by_all end.resets (after_all one ts)))) (told_nexus n one turn.units t.links)
          (subst (λ (z : List Task). Owns n (nexus_at (standing_in n after.links)) others rest (commands_of (woken_by_all end.resets z)))
          (resets_tasks n one turn.units t.links) b)))

received_owns : (n m : ℕ) (place : Place) (t : Target) (s : Session) (held : Held) (p : Pdu) → (m == n) ≡ false → OneIsBusy n t.links
    → Owns n (nexus_at (standing_in n t.links)) (owners_at m place t s held p) (requests_at place t s held p)
    (commands_of (woken_by_all (received_at place t s held p).resets (tasks_in n t.links)))
received_owns n m Now t s held p apart i = turn_owns n m t s p apart i
received_owns n m InTurn t s held p apart i = in_turn_owns n m t s p held apart i
received_owns n m (Early at) t s held p apart i = owns_nothing n (nexus_at (standing_in n t.links))
received_owns n m Outside t s held p apart i = owns_nothing n (nexus_at (standing_in n t.links))

step_owns : (n m : ℕ) (t : Target) (s : Standing) (p : Pdu) → (m == n) ≡ false → OneIsBusy n t.links
    → Owns n (nexus_at (standing_in n t.links)) (step_owners m t s p) (step_requests t s p) (commands_of (step_woken t s p (standing_in n t.links)))
step_owns n m t (standing.LoggingIn login) p apart i = owns_nothing n (nexus_at (standing_in n t.links))
step_owns n m t (standing.Serving v) p apart i =
    received_owns n m (place_of v.session.discovers v.session.numbers.exp.0 p.head) t (paid v.session v.owed) v.held p apart i
step_owns n m t standing.Ended p apart i = owns_nothing n (nexus_at (standing_in n t.links))
step_owns n m t standing.Closed p apart i = owns_nothing n (nexus_at (standing_in n t.links))

-- of the connection itself, in whose place a closed one stands

none_woken : (resets : List Reset) → woken_by_all resets [] ≡ []
none_woken [] = refl
none_woken (OfUnit lun ∷ rs) = none_woken rs
none_woken (OfTarget ∷ rs) = none_woken rs

none_after : (resets : List Reset) → after_all resets [] ≡ []
none_after [] = refl
none_after (OfUnit lun ∷ rs) = none_after rs
none_after (OfTarget ∷ rs) = none_after rs

own_port : (t : Target) (s : Session) (p : Pdu) → AreFor s.nexus (turn_own t s p)
own_port t s p = go h.fed where
  h : Handled
  h = handled s t.units t.listing p.head p.payload

  go : (f : Fed) → AreFor s.nexus (if_going f (map (request_of h.session.nexus) (ready h.session.tasks)))
  go Closed = tt
  go Going =
      subst (λ (x : List ℕ). AreFor s.nexus (map (request_of x) (ready h.session.tasks))) (sym (handled_keeps s t.units t.listing p.head p.payload).nexus)
      (for_tasks s.nexus (ready h.session.tasks))

turn_owns_own : (m : ℕ) (t : Target) (s : Session) (p : Pdu) → tasks_in m t.links ≡ [] → OneIsBusy m t.links
    → Owns m s.nexus (turn_owners m t s p) (turn_requests t s p) (asked_by (turn_own t s p))
turn_owns_own m t s p none i =
    subst (λ (z : List UnitCommand). Owns m s.nexus (turn_owners m t s p) (turn_requests t s p) z) (append-nil (asked_by own))
    (owns_join m s.nexus (each_of m own) owners own requests (asked_by own) [] (owns_all m m s.nexus own (itself m) (own_port t s p))
    (record { matched = others.matched; brings = empty; port = for_none s.nexus (chosen m owners requests) empty })) where
      turn : Turn
      turn = turn_of t s p

      own : List Request
      own = turn_own t s p

      owners : List ℕ
      owners = reset_owners turn.session.resets turn.units t.links

      requests : List Request
      requests = reset_requests turn.session.resets turn.units t.links

      others : Owns m (nexus_at (standing_in m t.links)) owners requests (commands_of (woken_by_all turn.session.resets (tasks_in m t.links)))
      others = resets_own m turn.session.resets turn.units t.links i

      empty : asked_by (chosen m owners requests) ≡ []
      empty = others.brings ∙ ap (λ (z : List Task). commands_of (woken_by_all turn.session.resets z)) none ∙ ap commands_of (none_woken turn.session.resets)

in_turn_owns_own : (m : ℕ) (t : Target) (s : Session) (p : Pdu) (held : Held) → tasks_in m t.links ≡ [] → OneIsBusy m t.links
    → Owns m s.nexus (in_turn_owners m t s p held) (in_turn_requests t s p held) (asked_by (in_turn_own t s p held))
in_turn_owns_own m t s p [] none i = turn_owns_own m t (advanced s) p none i
in_turn_owns_own m t s p (None ∷ held) none i = turn_owns_own m t (advanced s) p none i
in_turn_owns_own m t s p (Some next ∷ held) none i =
    go turn.fed (turn_owns_own m t (advanced s) p none i)
    (subst (λ (x : List ℕ). Owns m x others rest (asked_by more)) (served_keeps (advanced s) t.units t.listing p).nexus
    (in_turn_owns_own m after (without_resets turn.session) next held
    (resets_tasks m one turn.units t.links ∙ ap (after_all one) none ∙ none_after one)
    (told_busy m one t.links after.links (resets_told one turn.units t.links) i))) where
      turn : Turn
      turn = turn_of t (advanced s) p

      one : List Reset
      one = turn.session.resets

      after : Target
      after = told t turn

      mine : List Request
      mine = turn_own t (advanced s) p

      more : List Request
      more = in_turn_own after (without_resets turn.session) next held

      first : List Request
      first = turn_requests t (advanced s) p

      rest : List Request
      rest = in_turn_requests after (without_resets turn.session) next held

      firsts : List ℕ
      firsts = turn_owners m t (advanced s) p

      others : List ℕ
      others = in_turn_owners m after (without_resets turn.session) next held

      go : (f : Fed) → Owns m s.nexus firsts first (asked_by mine) → Owns m s.nexus others rest (asked_by more)
          → Owns m s.nexus (firsts ++ owners_if f others) (first ++ if_going f rest) (asked_by (mine ++ if_going f more))
      go Closed a b =
          subst (λ (z : List Request). Owns m s.nexus (firsts ++ []) (first ++ []) (asked_by z)) (sym (append-nil mine)) (owns_nil m s.nexus firsts first (asked_by mine) a)
      go Going a b =
          subst (λ (z : List UnitCommand). Owns m s.nexus (firsts ++ others) (first ++ rest) z) (sym (map-append command_of_request mine more))
          (owns_join m s.nexus firsts others first rest (asked_by mine) (asked_by more) a b)

received_owns_own : (m : ℕ) (place : Place) (t : Target) (s : Session) (held : Held) (p : Pdu) → tasks_in m t.links ≡ [] → OneIsBusy m t.links
    → Owns m s.nexus (owners_at m place t s held p) (requests_at place t s held p) (asked_by (own_at place t s held p))
received_owns_own m Now t s held p none i = turn_owns_own m t s p none i
received_owns_own m InTurn t s held p none i = in_turn_owns_own m t s p held none i
received_owns_own m (Early at) t s held p none i = owns_nothing m s.nexus
received_owns_own m Outside t s held p none i = owns_nothing m s.nexus

step_owns_own : (m : ℕ) (t : Target) (s : Standing) (p : Pdu) → tasks_in m t.links ≡ [] → OneIsBusy m t.links
    → Owns m (nexus_at s) (step_owners m t s p) (step_requests t s p) (asked_by (own_requests t s p))
step_owns_own m t (standing.LoggingIn login) p none i = owns_nothing m []
step_owns_own m t (standing.Serving v) p none i =
    received_owns_own m (place_of v.session.discovers v.session.numbers.exp.0 p.head) t (paid v.session v.owed) v.held p none i
step_owns_own m t standing.Ended p none i = owns_nothing m []
step_owns_own m t standing.Closed p none i = owns_nothing m []

-- each event

-- what belongs to a connection, and for whom
record Brings (nexus : List ℕ) (requests : List Request) (commands : List UnitCommand) : Type 0 where
  pub brings : asked_by requests ≡ commands
  pub port : AreFor nexus requests

link_owns : (n m : ℕ) (t : Target) (p : Pdu) (o : Option Link) → link_of m t.links ≡ o → OneIsBusy n t.links
    → Brings (nexus_at (standing_in n t.links)) (chosen n (owners_by m t o p) (link_requests t m o p))
    (if m == n then asked_by (link_own t m o p) else commands_of (link_woken t m o p (standing_in n t.links)))
link_owns n m t p None found i = record { brings = go (m == n); port = tt } where
  go : (b : Bool) → [] ≡ (if b then asked_by [] else commands_of [])
  go true = refl
  go false = refl
link_owns n m t p (Some l) found i = go (m == n) refl where
  owned : ℕ → List Request
  owned k = chosen k (owners_by m t (Some l) p) (link_requests t m (Some l) p)

  mine : m ≡ n → Brings (nexus_at (standing_in n t.links)) (owned n) (asked_by (link_own t m (Some l) p))
  mine same =
      let own = step_owns_own m (aside m t) l.standing p (ap tasks_at (aside_closed m t))
      (busy_placed m (closed_link m) t.links (subst (λ (k : ℕ). OneIsBusy k t.links) (sym same) i)) in
      subst (λ (k : ℕ). Brings (nexus_at (standing_in k t.links)) (owned k) (asked_by (link_own t m (Some l) p))) same
      (subst (λ (x : List ℕ). Brings x (owned m) (asked_by (link_own t m (Some l) p))) (ap (λ (o : Option Link). nexus_at (standing_of o)) (sym found))
      (record { brings = own.brings; port = own.port }))

  go : (b : Bool) → (m == n) ≡ b
      → Brings (nexus_at (standing_in n t.links)) (owned n) (if b then asked_by (link_own t m (Some l) p) else commands_of (link_woken t m (Some l) p (standing_in n t.links)))
  go true is = mine (eqb-true m n is)
  go false is =
      let other = step_owns n m (aside m t) l.standing p is (busy_placed n (closed_link m) t.links i) in
      subst (λ (z : Standing). Brings (nexus_at z) (owned n) (commands_of (link_woken t m (Some l) p z))) (aside_standing n m t is)
      (record { brings = other.brings; port = other.port })

event_owns : (n : ℕ) (t : Target) (e : Event) → OneIsBusy n t.links
    → Brings (nexus_at (standing_in n t.links)) (chosen n (event_owners t e) (event_requests t e)) (event_executed n t e)
event_owns n t (Joined m) i = record { brings = refl; port = tt }
event_owns n t (Left m) i = record { brings = refl; port = tt }
event_owns n t (Told listing) i = record { brings = refl; port = tt }
event_owns n t (Whole m p) i = link_owns n m t p (link_of m t.links) refl i
event_owns n t (Malformed m) i = record { brings = refl; port = tt }

pub requests_have_port : RequestsHavePort
requests_have_port n c es e = (event_owns n (state_after c es) e (all_busy n c es)).port

pub executed_are_owned : ExecutedAreOwned
executed_are_owned n c [] = refl
executed_are_owned n c (e ∷ es) =
    map-append command_of_request (requests_on n c es) (chosen n (event_owners (state_after c es) e) (event_requests (state_after c es) e))
    ∙ ap (λ (z : List UnitCommand). z ++ asked_by (chosen n (event_owners (state_after c es) e) (event_requests (state_after c es) e))) (executed_are_owned n c es)
    ∙ ap (λ (z : List UnitCommand). executed_on n c es ++ z) (event_owns n (state_after c es) e (all_busy n c es)).brings
