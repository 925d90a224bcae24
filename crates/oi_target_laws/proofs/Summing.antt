-- Each command that the units are asked is executed for one connection.
use Rattle.std.proofs.Common.{ℕ, zero, suc, ◌+◌, ◌<◌, ◌≤◌, Bool, true, false, ◌≡◌, ◌∙◌, Option, Some, None, List, [], ◌∷◌, ◌++◌, count_by, flat_map, map, refl, ap, sym, subst, append-nil, arith, if◌then◌else◌, ◌==◌}
use Rattle.std.proofs.lemmas.Bool.{eqb-true, eqb-false}
use Rattle.std.proofs.lemmas.List.{map-append}
use Rattle.oi_pdu.specs.declared.codec.Pdu.{Pdu}
use Rattle.oi_target.proofs.Placed.{itself}
use Rattle.oi_target.specs.Events.{Event, Joined, Left, Told, Whole, Malformed, bare_link, heard_of, state_after}
use Rattle.oi_target.specs.Runs.{event_requests, in_turn_own, in_turn_requests, link_learned, link_own, link_requests, own_at, own_requests, requests_at, requests_of, reset_requests, step_requests, turn_others, turn_own, turn_requests}
use Rattle.oi_target.proofs.Told.{AreTold, resets_told, step_told}
use Rattle.oi_target.specs.Steps.{Step, logged_in_by, received_by, stepped, with_words}
use Rattle.oi_target.specs.Targets.{Reached, Target, aside, closed_link, ended_by, learned, link_at, link_of, nexus_of, new_link, no_bytes, placed, reset_each, without}
use Rattle.oi_target.specs.Turns.{Received, followed, in_turn, received_at, received_turn, told, turn_of}
use Rattle.oi_target.specs.declared.config.TargetConfig.{TargetConfig}
use Rattle.oi_target.specs.declared.link.Link.{Link}
use Rattle.oi_target.specs.declared.link.Standing.{Standing}
use Rattle.oi_target.specs.declared.link.Standing.TheVariants as standing
use Rattle.oi_target_laws.proofs.Accounts.{all_busy, aside_closed, aside_standing}
use Rattle.oi_target_laws.proofs.Asking.{asked_by, learned_commands}
use Rattle.oi_target_laws.proofs.Idle.{AreIdle, OneIsBusy, busy_placed, idle_tasks, later_busy}
use Rattle.oi_target_laws.proofs.Learning.{after_all, busy_reset, reset_tasks, resets_tasks, told_busy, woken_join}
use Rattle.oi_target_laws.proofs.Moves.{count_join}
use Rattle.oi_target_laws.specs.Histories.{AreBelow, AskedAreExecuted, event_executed, executed_on, link_woken, standing_in, standing_of, step_woken, sum_below, tasks_at, tasks_in, woken_by_all}
use Rattle.oi_target_laws.specs.Turned.{command_of_request, command_of_task, commands_of}
use Rattle.oi_target_login.specs.Logins.{turned}
use Rattle.oi_target_login.specs.declared.answer.Answer.{Answer}
use Rattle.oi_target_login.specs.declared.answer.Verdict.{Verdict}
use Rattle.oi_target_login.specs.declared.answer.Verdict.TheVariants as verdict
use Rattle.oi_target_session.specs.Arrivals.{Held, advanced, place_of}
use Rattle.oi_target_session.specs.Executions.{if_going}
use Rattle.oi_target_session.specs.Owing.{paid, unready}
use Rattle.oi_target_session.specs.Runs.{ready}
use Rattle.oi_target_session.specs.Sessions.{Session, Turn, spared, without_resets}
use Rattle.oi_target_session.specs.declared.fed.Fed.{Fed}
use Rattle.oi_target_session.specs.declared.fed.Fed.TheVariants.{Going, Closed}
use Rattle.oi_target_session.specs.declared.place.Place.{Place}
use Rattle.oi_target_session.specs.declared.place.Place.TheVariants.{Now, InTurn, Early, Outside}
use Rattle.oi_target_session.specs.declared.reset.Reset.{Reset}
use Rattle.oi_target_session.specs.declared.reset.Reset.TheVariants.{Unit as OfUnit, Whole as OfTarget}
use Rattle.oi_target_tasks.specs.declared.task.Task.{Task}
use Rattle.oi_units.specs.Runs.{Request}
use Rattle.oi_units.specs.declared.command.UnitCommand.{UnitCommand}
use Rattle.oi_units.specs.declared.unit.LogicalUnit.{LogicalUnit}

-- sums

both_zero : (a b : ℕ) → a ≡ 0 → b ≡ 0 → a + b ≡ 0
both_zero a b p q = omega arith

sum_zero : (k : ℕ) (g : ℕ → ℕ) → ((n : ℕ) → g n ≡ 0) → sum_below k g ≡ 0
sum_zero zero g none = refl
sum_zero (suc k) g none = both_zero (sum_below k g) (g k) (sum_zero k g none) (none k)

four : (a b c d s h : ℕ) → s ≡ a + b → h ≡ c + d → s + h ≡ (a + c) + (b + d)
four a b c d s h p q = omega arith

sum_both : (k : ℕ) (g h s : ℕ → ℕ) → ((n : ℕ) → s n ≡ g n + h n) → sum_below k s ≡ sum_below k g + sum_below k h
sum_both zero g h s each = refl
sum_both (suc k) g h s each = four (sum_below k g) (sum_below k h) (g k) (h k) (sum_below k s) (s k) (sum_both k g h s each) (each k)

not_one : (m k : ℕ) → k < m → (m == k) ≡ false
not_one m k less = go (m == k) refl where
  go : (b : Bool) → (m == k) ≡ b → (m == k) ≡ false
  go true is = let same = eqb-true m k is in absurd (omega arith)
  go false is = is

sum_same : (k m : ℕ) (g h : ℕ → ℕ) → k ≤ m → ((n : ℕ) → (m == n) ≡ false → h n ≡ g n) → sum_below k h ≡ sum_below k g
sum_same zero m g h most others = refl
sum_same (suc k) m g h most others =
    ap (λ (z : ℕ). z + h k) (sum_same k m g h (omega arith) others) ∙ ap (λ (z : ℕ). sum_below k g + z) (others k (not_one m k (omega arith)))

last_more : (a b x y z : ℕ) → a ≡ b → y ≡ x → z ≡ 0 → a + y ≡ x + (b + z)
last_more a b x y z p q r = omega arith

first_more : (a b x y z : ℕ) → a ≡ x + b → y ≡ z → a + y ≡ x + (b + z)
first_more a b x y z p q = omega arith

-- at one number there is more
sum_more : (k m x : ℕ) (g h : ℕ → ℕ) → m < k → h m ≡ x → g m ≡ 0 → ((n : ℕ) → (m == n) ≡ false → h n ≡ g n) → sum_below k h ≡ x + sum_below k g
sum_more zero m x g h less is none others = absurd (omega arith)
sum_more (suc k) m x g h less is none others = go (m == k) refl (λ lower. sum_more k m x g h lower is none others) where
  go : (b : Bool) → (m == k) ≡ b → (m < k → sum_below k h ≡ x + sum_below k g) → sum_below k h + h k ≡ x + (sum_below k g + g k)
  go true same more =
      let at = eqb-true m k same in
      last_more (sum_below k h) (sum_below k g) x (h k) (g k) (sum_same k m g h (omega arith) others)
      (subst (λ (z : ℕ). h z ≡ x) at is) (subst (λ (z : ℕ). g z ≡ 0) at none)
  go false apart more =
      let not = eqb-false m k apart in
      first_more (sum_below k h) (sum_below k g) x (h k) (g k) (more (omega arith)) (others k apart)

-- all connections have numbers below one

abbrev LinksBelow : ℕ → List Link → Type 0
LinksBelow k [] = Unit {0}
LinksBelow k (l ∷ ls) = (l.number < k) × LinksBelow k ls

below_behind : (k : ℕ) (ls : List Link) (j : Link) → j.number < k → LinksBelow k ls → LinksBelow k (ls ++ j ∷ [])
below_behind k [] j less are = (less, tt)
below_behind k (l ∷ ls) j less are = (are.0, below_behind k ls j less are.1)

below_without : (k m : ℕ) (ls : List Link) → LinksBelow k ls → LinksBelow k (without m ls)
below_without k m [] are = tt
below_without k m (l ∷ ls) are = go (l.number == m) (below_without k m ls are.1) where
  go : (b : Bool) → LinksBelow k (without m ls) → LinksBelow k (if b then ls else l ∷ without m ls)
  go true rest = are.1
  go false rest = (are.0, rest)

below_placed : (k : ℕ) (j : Link) (ls : List Link) → LinksBelow k ls → LinksBelow k (placed j ls)
below_placed k j [] are = tt
below_placed k j (l ∷ ls) are = go (l.number == j.number) refl (below_placed k j ls are.1) where
  go : (b : Bool) → (l.number == j.number) ≡ b → LinksBelow k (placed j ls) → LinksBelow k (if b then j ∷ ls else l ∷ placed j ls)
  go true is rest = (subst (λ (z : ℕ). z < k) (eqb-true l.number j.number is) are.0, are.1)
  go false is rest = (are.0, rest)

below_bare : (k : ℕ) (ls : List Link) → LinksBelow k ls → LinksBelow k (map bare_link ls)
below_bare k [] are = tt
below_bare k (l ∷ ls) are = (are.0, below_bare k ls are.1)

below_ended : (k : ℕ) (nexus : List ℕ) (ls : List Link) → LinksBelow k ls → LinksBelow k (map (ended_by nexus) ls)
below_ended k nexus [] are = tt
below_ended k nexus (l ∷ ls) are = (are.0, below_ended k nexus ls are.1)

below_reset : (k : ℕ) (r : Reset) (units : List LogicalUnit) (ls : List Link) → LinksBelow k ls → LinksBelow k (reset_each r units ls).links
below_reset k r units [] are = tt
below_reset k r units (l ∷ ls) are = (are.0, below_reset k r (learned r units l.standing).units ls are.1)

below_told : (k : ℕ) (resets : List Reset) (ls ks : List Link) → AreTold resets ls ks → LinksBelow k ls → LinksBelow k ks
below_told k [] ls ks told are = subst (λ (z : List Link). LinksBelow k z) (sym told) are
below_told k (r ∷ rs) ls ks told are = below_told k rs (reset_each r told.0 ls).links ks told.1 (below_reset k r told.0 ls are)

below_login : (k : ℕ) (t : Target) (a : Answer) (v : Verdict) → LinksBelow k t.links → LinksBelow k (logged_in_by t a v).target.links
below_login k t a verdict.Going are = are
below_login k t a verdict.Closed are = are
below_login k t a (verdict.Done s) are = below_ended k (nexus_of s.who) t.links are

below_step : (k : ℕ) (t : Target) (s : Standing) (p : Pdu) → LinksBelow k t.links → LinksBelow k (stepped t s p).target.links
below_step k t (standing.LoggingIn login) p are =
    below_login k (with_words t (turned t.rules t.handle login p t.words).words) (turned t.rules t.handle login p t.words).answer
    (turned t.rules t.handle login p t.words).answer.verdict are
below_step k t (standing.Serving v) p are = below_told k (received_by v t p).resets t.links (received_by v t p).target.links (step_told t v p).links are
below_step k t standing.Ended p are = are
below_step k t standing.Closed p are = are

below_link : (k m : ℕ) (t : Target) (p : Pdu) (o : Option Link) → LinksBelow k t.links → LinksBelow k (heard_of t m o p).target.links
below_link k m t p None are = are
below_link k m t p (Some l) are =
    below_bare k (placed (link_at m no_bytes s.standing) s.target.links)
    (below_placed k (link_at m no_bytes s.standing) s.target.links (below_step k (aside m t) l.standing p (below_placed k (closed_link m) t.links are))) where
      s : Step
      s = stepped (aside m t) l.standing p

all_below : (k : ℕ) (c : TargetConfig) (es : List Event) → AreBelow k es → LinksBelow k (state_after c es).links
all_below k c [] below = tt
all_below k c (Joined m ∷ es) below = below_behind k (state_after c es).links (new_link m) below.0 (all_below k c es below.1)
all_below k c (Left m ∷ es) below = below_without k m (state_after c es).links (all_below k c es below)
all_below k c (Told listing ∷ es) below = all_below k c es below
all_below k c (Whole m p ∷ es) below = below_link k m (state_after c es) p (link_of m (state_after c es).links) (all_below k c es below)
all_below k c (Malformed m ∷ es) below = below_placed k (closed_link m) (state_after c es).links (all_below k c es below)

-- one that is there
found_below : (k m : ℕ) (ls : List Link) (l : Link) → LinksBelow k ls → link_of m ls ≡ Some l → m < k
found_below k m [] l are found = absurd (let n : ⊥ = cc in n)
found_below k m (j ∷ ls) l are found = go (j.number == m) refl found (λ e. found_below k m ls l are.1 e) where
  go : (b : Bool) → (j.number == m) ≡ b → (if b then Some j else link_of m ls) ≡ Some l → (link_of m ls ≡ Some l → m < k) → m < k
  go true is e more = subst (λ (z : ℕ). z < k) (eqb-true j.number m is) are.0
  go false is e more = more e

-- what resets let be executed

abbrev counted : (UnitCommand → Bool) → List Task → ℕ
counted f ts = count_by f (commands_of ts)

counted_join : (f : UnitCommand → Bool) (ts us : List Task) → counted f (ts ++ us) ≡ counted f ts + counted f us
counted_join f ts us = ap (count_by f) (map-append command_of_task ts us) ∙ count_join f (commands_of ts) (commands_of us)

asked_join : (f : UnitCommand → Bool) (first second : List Request) → count_by f (asked_by (first ++ second)) ≡ count_by f (asked_by first) + count_by f (asked_by second)
asked_join f first second = ap (count_by f) (map-append command_of_request first second) ∙ count_join f (asked_by first) (asked_by second)

no_tasks : (f : UnitCommand → Bool) (r : Reset) → counted f (ready (spared r [])) ≡ 0
no_tasks f (OfUnit lun) = refl
no_tasks f OfTarget = refl

none_woken : (resets : List Reset) → woken_by_all resets [] ≡ []
none_woken [] = refl
none_woken (OfUnit lun ∷ rs) = none_woken rs
none_woken (OfTarget ∷ rs) = none_woken rs

first_idle : (l : Link) (ls : List Link) → OneIsBusy l.number (l ∷ ls) → AreIdle l.number ls
first_idle l ls i = subst (λ (b : Bool). AreIdle l.number (if b then ls else l ∷ without l.number ls)) (itself l.number) i

each_sums : (k : ℕ) (r : Reset) (f : UnitCommand → Bool) (ls : List Link) → LinksBelow k ls → ((n : ℕ) → OneIsBusy n ls)
    → count_by f (asked_by (flat_map (link_learned r) ls)) ≡ sum_below k (λ n. counted f (ready (spared r (tasks_in n ls))))
each_sums k r f [] below busy = sym (sum_zero k (λ n. counted f (ready (spared r (tasks_in n [])))) (λ n. no_tasks f r))
each_sums k r f (l ∷ ls) below busy =
    asked_join f (link_learned r l) (flat_map (link_learned r) ls)
    ∙ ap (λ (z : ℕ). z + count_by f (asked_by (flat_map (link_learned r) ls))) (ap (count_by f) (learned_commands r l.standing))
    ∙ ap (λ (z : ℕ). counted f (ready (spared r (tasks_at l.standing))) + z) (each_sums k r f ls below.1 (λ n. later_busy n l ls (busy n)))
    ∙ sym (sum_more k l.number (counted f (ready (spared r (tasks_at l.standing)))) (λ n. counted f (ready (spared r (tasks_in n ls))))
    (λ n. counted f (ready (spared r (tasks_in n (l ∷ ls))))) below.0 (at l.number true (itself l.number))
    (ap (λ (z : List Task). counted f (ready (spared r z))) (idle_tasks l.number ls (first_idle l ls (busy l.number))) ∙ no_tasks f r)
    (λ n is. at n false is)) where
      at : (n : ℕ) (b : Bool) → (l.number == n) ≡ b
          → counted f (ready (spared r (tasks_in n (l ∷ ls)))) ≡ counted f (ready (spared r (tasks_at (standing_of (if b then Some l else link_of n ls)))))
      at n b is = ap (λ (z : Bool). counted f (ready (spared r (tasks_at (standing_of (if z then Some l else link_of n ls)))))) is

resets_sum : (k : ℕ) (f : UnitCommand → Bool) (resets : List Reset) (units : List LogicalUnit) (ls : List Link) → LinksBelow k ls → ((n : ℕ) → OneIsBusy n ls)
    → count_by f (asked_by (reset_requests resets units ls)) ≡ sum_below k (λ n. counted f (woken_by_all resets (tasks_in n ls)))
resets_sum k f [] units ls below busy = sym (sum_zero k (λ n. 0) (λ n. refl))
resets_sum k f (r ∷ rs) units ls below busy =
    asked_join f (flat_map (link_learned r) ls) (reset_requests rs all.units all.links)
    ∙ ap (λ (z : ℕ). z + count_by f (asked_by (reset_requests rs all.units all.links))) (each_sums k r f ls below busy)
    ∙ ap (λ (z : ℕ). sum_below k first + z) (resets_sum k f rs all.units all.links (below_reset k r units ls below) (λ n. busy_reset n r units ls (busy n)))
    ∙ sym (sum_both k first second (λ n. counted f (woken_by_all (r ∷ rs) (tasks_in n ls))) each) where
      all : Reached
      all = reset_each r units ls

      first : ℕ → ℕ
      first n = counted f (ready (spared r (tasks_in n ls)))

      second : ℕ → ℕ
      second n = counted f (woken_by_all rs (tasks_in n all.links))

      each : (n : ℕ) → counted f (woken_by_all (r ∷ rs) (tasks_in n ls)) ≡ first n + second n
      each n =
          counted_join f (ready (spared r (tasks_in n ls))) (woken_by_all rs (unready (spared r (tasks_in n ls))))
          ∙ ap (λ (z : List Task). first n + counted f (woken_by_all rs z)) (sym (reset_tasks n r units ls))

zero_more : (a : ℕ) → a ≡ 0 → 0 ≡ 0 + a
zero_more a is = omega arith

nothing_summed : (k : ℕ) → 0 ≡ 0 + sum_below k (λ n. 0)
nothing_summed k = zero_more (sum_below k (λ n. 0)) (sum_zero k (λ n. 0) (λ n. refl))

-- a PDU whose turn it is, and those that were held
turn_sum : (k : ℕ) (f : UnitCommand → Bool) (t : Target) (s : Session) (p : Pdu) → LinksBelow k t.links → ((n : ℕ) → OneIsBusy n t.links)
    → count_by f (asked_by (turn_requests t s p))
    ≡ count_by f (asked_by (turn_own t s p)) + sum_below k (λ n. counted f (woken_by_all (turn_of t s p).session.resets (tasks_in n t.links)))
turn_sum k f t s p below busy =
    let turn : Turn = turn_of t s p in
    asked_join f (turn_own t s p) (turn_others t s p)
    ∙ ap (λ (z : ℕ). count_by f (asked_by (turn_own t s p)) + z) (resets_sum k f turn.session.resets turn.units t.links below busy)

in_turn_sum : (k : ℕ) (f : UnitCommand → Bool) (t : Target) (s : Session) (p : Pdu) (held : Held) → LinksBelow k t.links → ((n : ℕ) → OneIsBusy n t.links)
    → count_by f (asked_by (in_turn_requests t s p held))
    ≡ count_by f (asked_by (in_turn_own t s p held)) + sum_below k (λ n. counted f (woken_by_all (in_turn t s p held).resets (tasks_in n t.links)))
in_turn_sum k f t s p [] below busy = turn_sum k f t (advanced s) p below busy
in_turn_sum k f t s p (None ∷ held) below busy = turn_sum k f t (advanced s) p below busy
in_turn_sum k f t s p (Some next ∷ held) below busy =
    go turn.fed (turn_sum k f t (advanced s) p below busy)
    (in_turn_sum k f (told t turn) (without_resets turn.session) next held
    (below_told k one t.links (told t turn).links (resets_told one turn.units t.links) below)
    (λ n. told_busy n one t.links (told t turn).links (resets_told one turn.units t.links) (busy n))) where
      turn : Turn
      turn = turn_of t (advanced s) p

      one : List Reset
      one = turn.session.resets

      end : Received
      end = in_turn (told t turn) (without_resets turn.session) next held

      mine : List Request
      mine = turn_own t (advanced s) p

      more : List Request
      more = in_turn_own (told t turn) (without_resets turn.session) next held

      first : List Request
      first = turn_requests t (advanced s) p

      rest : List Request
      rest = in_turn_requests (told t turn) (without_resets turn.session) next held

      early : ℕ → ℕ
      early n = counted f (woken_by_all one (tasks_in n t.links))

      later : ℕ → ℕ
      later n = counted f (woken_by_all end.resets (tasks_in n (told t turn).links))

      each : (n : ℕ) → counted f (woken_by_all (one ++ end.resets) (tasks_in n t.links)) ≡ early n + later n
      each n =
          ap (counted f) (woken_join one end.resets (tasks_in n t.links))
          ∙ counted_join f (woken_by_all one (tasks_in n t.links)) (woken_by_all end.resets (after_all one (tasks_in n t.links)))
          ∙ ap (λ (z : List Task). early n + counted f (woken_by_all end.resets z)) (sym (resets_tasks n one turn.units t.links))

      go : (g : Fed) → count_by f (asked_by first) ≡ count_by f (asked_by mine) + sum_below k early
          → count_by f (asked_by rest) ≡ count_by f (asked_by more) + sum_below k later
          → count_by f (asked_by (first ++ if_going g rest))
          ≡ count_by f (asked_by (mine ++ if_going g more)) + sum_below k (λ n. counted f (woken_by_all (followed g (received_turn t held turn) end).resets (tasks_in n t.links)))
      go Closed a b =
          ap (λ (z : List Request). count_by f (asked_by z)) (append-nil first) ∙ a
          ∙ ap (λ (z : List Request). count_by f (asked_by z) + sum_below k early) (sym (append-nil mine))
      go Going a b =
          asked_join f first rest
          ∙ four (count_by f (asked_by mine)) (sum_below k early) (count_by f (asked_by more)) (sum_below k later) (count_by f (asked_by first)) (count_by f (asked_by rest)) a b
          ∙ ap (λ (z : ℕ). z + (sum_below k early + sum_below k later)) (sym (asked_join f mine more))
          ∙ ap (λ (z : ℕ). count_by f (asked_by (mine ++ more)) + z)
          (sym (sum_both k early later (λ n. counted f (woken_by_all (one ++ end.resets) (tasks_in n t.links))) each))

received_sum : (k : ℕ) (f : UnitCommand → Bool) (place : Place) (t : Target) (s : Session) (held : Held) (p : Pdu) → LinksBelow k t.links → ((n : ℕ) → OneIsBusy n t.links)
    → count_by f (asked_by (requests_at place t s held p))
    ≡ count_by f (asked_by (own_at place t s held p)) + sum_below k (λ n. counted f (woken_by_all (received_at place t s held p).resets (tasks_in n t.links)))
received_sum k f Now t s held p below busy = turn_sum k f t s p below busy
received_sum k f InTurn t s held p below busy = in_turn_sum k f t s p held below busy
received_sum k f (Early at) t s held p below busy = nothing_summed k
received_sum k f Outside t s held p below busy = nothing_summed k

step_sum : (k : ℕ) (f : UnitCommand → Bool) (t : Target) (s : Standing) (p : Pdu) → LinksBelow k t.links → ((n : ℕ) → OneIsBusy n t.links)
    → count_by f (asked_by (step_requests t s p)) ≡ count_by f (asked_by (own_requests t s p)) + sum_below k (λ n. counted f (step_woken t s p (standing_in n t.links)))
step_sum k f t (standing.LoggingIn login) p below busy = nothing_summed k
step_sum k f t (standing.Serving v) p below busy =
    received_sum k f (place_of v.session.discovers v.session.numbers.exp.0 p.head) t (paid v.session v.owed) v.held p below busy
step_sum k f t standing.Ended p below busy = nothing_summed k
step_sum k f t standing.Closed p below busy = nothing_summed k

closed_woken : (t : Target) (s : Standing) (p : Pdu) → step_woken t s p standing.Closed ≡ []
closed_woken t (standing.LoggingIn login) p = refl
closed_woken t (standing.Serving v) p = none_woken (received_by v t p).resets
closed_woken t standing.Ended p = refl
closed_woken t standing.Closed p = refl

-- each event

link_sum : (k : ℕ) (f : UnitCommand → Bool) (m : ℕ) (t : Target) (p : Pdu) (o : Option Link) → link_of m t.links ≡ o → LinksBelow k t.links → ((n : ℕ) → OneIsBusy n t.links)
    → count_by f (asked_by (link_requests t m o p))
    ≡ sum_below k (λ n. count_by f (if m == n then asked_by (link_own t m o p) else commands_of (link_woken t m o p (standing_in n t.links))))
link_sum k f m t p None found below busy =
    sym (sum_zero k (λ n. count_by f (if m == n then asked_by (link_own t m None p) else commands_of (link_woken t m None p (standing_in n t.links)))) (λ n. go (m == n))) where
      go : (b : Bool) → count_by f (if b then [] else []) ≡ 0
      go true = refl
      go false = refl
link_sum k f m t p (Some l) found below busy =
    step_sum k f (aside m t) l.standing p (below_placed k (closed_link m) t.links below) (λ n. busy_placed n (closed_link m) t.links (busy n))
    ∙ sym (sum_more k m (count_by f (asked_by own)) (λ n. counted f (step_woken (aside m t) l.standing p (standing_in n (aside m t).links)))
    (λ n. count_by f (if m == n then asked_by own else commands_of (link_woken t m (Some l) p (standing_in n t.links))))
    (found_below k m t.links l below found)
    (ap (λ (b : Bool). count_by f (if b then asked_by own else commands_of (link_woken t m (Some l) p (standing_in m t.links)))) (itself m))
    (ap (λ (z : Standing). counted f (step_woken (aside m t) l.standing p z)) (aside_closed m t) ∙ ap (counted f) (closed_woken (aside m t) l.standing p))
    (λ n is. ap (λ (b : Bool). count_by f (if b then asked_by own else commands_of (link_woken t m (Some l) p (standing_in n t.links)))) is
    ∙ ap (λ (z : Standing). counted f (step_woken (aside m t) l.standing p z)) (sym (aside_standing n m t is)))) where
      own : List Request
      own = own_requests (aside m t) l.standing p

event_sum : (k : ℕ) (f : UnitCommand → Bool) (t : Target) (e : Event) → LinksBelow k t.links → ((n : ℕ) → OneIsBusy n t.links)
    → count_by f (asked_by (event_requests t e)) ≡ sum_below k (λ n. count_by f (event_executed n t e))
event_sum k f t (Joined m) below busy = sym (sum_zero k (λ n. 0) (λ n. refl))
event_sum k f t (Left m) below busy = sym (sum_zero k (λ n. 0) (λ n. refl))
event_sum k f t (Told listing) below busy = sym (sum_zero k (λ n. 0) (λ n. refl))
event_sum k f t (Whole m p) below busy = link_sum k f m t p (link_of m t.links) refl below busy
event_sum k f t (Malformed m) below busy = sym (sum_zero k (λ n. 0) (λ n. refl))

-- of all but the newest one
below_before : (k : ℕ) (e : Event) (es : List Event) → AreBelow k (e ∷ es) → AreBelow k es
below_before k (Joined m) es below = below.1
below_before k (Left m) es below = below
below_before k (Told listing) es below = below
below_before k (Whole m p) es below = below
below_before k (Malformed m) es below = below

pub asked_are_executed : AskedAreExecuted
asked_are_executed k c [] f below = sym (sum_zero k (λ n. 0) (λ n. refl))
asked_are_executed k c (e ∷ es) f below =
    asked_join f (requests_of c es) (event_requests (state_after c es) e)
    ∙ ap (λ (z : ℕ). z + count_by f (asked_by (event_requests (state_after c es) e))) (asked_are_executed k c es f before)
    ∙ ap (λ (z : ℕ). sum_below k (λ n. count_by f (executed_on n c es)) + z)
    (event_sum k f (state_after c es) e (all_below k c es before) (λ n. all_busy n c es))
    ∙ sym (sum_both k (λ n. count_by f (executed_on n c es)) (λ n. count_by f (event_executed n (state_after c es) e)) (λ n. count_by f (executed_on n c (e ∷ es)))
    (λ n. count_join f (executed_on n c es) (event_executed n (state_after c es) e))) where
      before : AreBelow k es
      before = below_before k e es below
