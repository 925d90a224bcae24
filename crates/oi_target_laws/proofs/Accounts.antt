-- Over all events since a target was made.
use Rattle.std.proofs.Common.{ℕ, Bool, true, false, ◌≡◌, ◌∙◌, Option, Some, None, List, [], ◌∷◌, ◌++◌, flat_map, map, refl, ap, sym, subst, if◌then◌else◌, ◌==◌}
use Rattle.std.proofs.lemmas.Bool.{eqb-true}
use Rattle.std.proofs.lemmas.List.Concat.{flat_map-append}
use Rattle.oi_pdu.specs.declared.codec.Pdu.{Pdu}
use Rattle.oi_target.proofs.Bared.{IsAside, aside_step, is_aside}
use Rattle.oi_target.proofs.Numbered.{others_found}
use Rattle.oi_target.proofs.Placed.{link_map, link_placed, others_placed, over}
use Rattle.oi_target.specs.Events.{Event, Joined, Left, Told, Whole, Malformed, bare_link, happened, heard_of, shut, state_after}
use Rattle.oi_target.specs.Runs.{link_own}
use Rattle.oi_target.specs.Steps.{Step, stepped}
use Rattle.oi_target.specs.Targets.{Target, aside, closed_link, link_at, link_of, new_link, no_bytes, placed, without}
use Rattle.oi_target.specs.declared.config.TargetConfig.{TargetConfig}
use Rattle.oi_target.specs.declared.link.Link.{Link}
use Rattle.oi_target.specs.declared.link.Standing.{Standing}
use Rattle.oi_target.specs.declared.link.Standing.TheVariants as standing
use Rattle.oi_target_laws.proofs.Idle.{OneIsBusy, busy_behind, busy_map, busy_placed, busy_without, idle_tasks}
use Rattle.oi_target_laws.proofs.Learning.{over_standing}
use Rattle.oi_target_laws.proofs.Moves.{Moves, ends, moves_on, stays}
use Rattle.oi_target_laws.proofs.Steps.{other_moves, other_stuck, own_moves, own_stuck, step_busy}
use Rattle.oi_target_laws.specs.Histories.{EachIsAccounted, ExecutedInOrder, ReadyAreExecuted, came_on, ended_on, event_ended, event_executed, event_turns, executed_on, link_ended, link_taken, link_turns, link_woken, standing_in, standing_of, tasks_at, tasks_in, turns_on, waiting_on}
use Rattle.oi_target_laws.specs.Turned.{came_in, command_of_request, commands_of}
use Rattle.oi_target_tasks.specs.Tasks.{is_stuck}
use Rattle.oi_target_tasks.specs.declared.task.Task.{Task}
use Rattle.oi_units.specs.declared.command.UnitCommand.{UnitCommand}

-- bytes and an ended session do not count
shut_tasks : (s : Standing) → tasks_at (shut s) ≡ tasks_at s
shut_tasks (standing.LoggingIn p) = refl
shut_tasks (standing.Serving v) = refl
shut_tasks standing.Ended = refl
shut_tasks standing.Closed = refl

pub bare_standing : (n : ℕ) (ls : List Link) → standing_in n (map bare_link ls) ≡ shut (standing_in n ls)
bare_standing n ls = ap standing_of (link_map bare_link (λ l. refl) n ls) ∙ over_standing bare_link shut (λ l. refl) refl (link_of n ls)

bare_busy : (n : ℕ) (ls : List Link) → OneIsBusy n ls → OneIsBusy n (map bare_link ls)
bare_busy n ls i = busy_map n bare_link (λ l. refl) (λ l new. ap shut new) ls i

-- the connection itself, in the place in which it stood
pub own_standing : (n : ℕ) (s : Standing) (ls : List Link) → IsAside n ls → standing_in n (map bare_link (placed (link_at n no_bytes s) ls)) ≡ shut s
own_standing n s ls a =
    bare_standing n (placed (link_at n no_bytes s) ls)
    ∙ ap (λ (o : Option Link). shut (standing_of o)) (link_placed (link_at n no_bytes s) ls ∙ ap (over (λ l. link_at n no_bytes s)) a.found)

own_tasks : (n : ℕ) (s : Standing) (ls : List Link) → IsAside n ls → tasks_in n (map bare_link (placed (link_at n no_bytes s) ls)) ≡ tasks_at s
own_tasks n s ls a = ap tasks_at (own_standing n s ls a) ∙ shut_tasks s

-- another one
pub other_standing : (n m : ℕ) (s : Standing) (ls : List Link) → (m == n) ≡ false → standing_in n (map bare_link (placed (link_at m no_bytes s) ls)) ≡ shut (standing_in n ls)
other_standing n m s ls apart =
    bare_standing n (placed (link_at m no_bytes s) ls) ∙ ap (λ (o : Option Link). shut (standing_of o)) (others_placed n (link_at m no_bytes s) ls apart)

other_tasks : (n m : ℕ) (s : Standing) (ls : List Link) → (m == n) ≡ false → tasks_in n (map bare_link (placed (link_at m no_bytes s) ls)) ≡ tasks_in n ls
other_tasks n m s ls apart = ap tasks_at (other_standing n m s ls apart) ∙ shut_tasks (standing_in n ls)

pub aside_standing : (n m : ℕ) (t : Target) → (m == n) ≡ false → standing_in n (aside m t).links ≡ standing_in n t.links
aside_standing n m t apart = ap standing_of (others_placed n (closed_link m) t.links apart)

-- the connection closes
aside_at : (n : ℕ) (k : Link) (o : Option Link) → k.standing ≡ standing.Closed → standing_of (over (λ l. k) o) ≡ standing.Closed
aside_at n k None closed = refl
aside_at n k (Some l) closed = closed

pub aside_closed : (n : ℕ) (t : Target) → standing_in n (aside n t).links ≡ standing.Closed
aside_closed n t = ap standing_of (link_placed (closed_link n) t.links) ∙ aside_at n (closed_link n) (link_of n t.links) refl

aside_tasks : (n : ℕ) (t : Target) → tasks_in n (aside n t).links ≡ []
aside_tasks n t = ap tasks_at (aside_closed n t)

-- a new one
new_tasks : (n m : ℕ) (ls : List Link) → tasks_in n (ls ++ new_link m ∷ []) ≡ tasks_in n ls
new_tasks n m [] = go (m == n) where
  go : (b : Bool) → tasks_at (standing_of (if b then Some (new_link m) else None)) ≡ []
  go true = refl
  go false = refl
new_tasks n m (l ∷ ls) = go (l.number == n) (new_tasks n m ls) where
  go : (b : Bool) → tasks_in n (ls ++ new_link m ∷ []) ≡ tasks_in n ls
      → tasks_at (standing_of (if b then Some l else link_of n (ls ++ new_link m ∷ []))) ≡ tasks_at (standing_of (if b then Some l else link_of n ls))
  go true was = refl
  go false was = was

-- an event changes the tasks so
abbrev pub EventMoves : ℕ → Target → Event → Type 0
EventMoves n t e =
    Moves (commands_of (tasks_in n t.links)) (flat_map came_in (event_turns n t e)) (event_executed n t e) (event_ended n t e) (commands_of (tasks_in n (happened t e).target.links))

same_moves : (ts us : List Task) → us ≡ ts → Moves (commands_of ts) [] [] [] (commands_of us)
same_moves ts us same = subst (λ (z : List Task). Moves (commands_of ts) [] [] [] (commands_of z)) (sym same) (stays (commands_of ts))

none_left : (ts us : List Task) → us ≡ [] → Moves (commands_of ts) [] [] (commands_of ts) (commands_of us)
none_left ts us none = subst (λ (z : List Task). Moves (commands_of ts) [] [] (commands_of ts) (commands_of z)) (sym none) (ends (commands_of ts))

-- where the connection closes or is gone
lost_moves : (n m : ℕ) (t : Target) (ls : List Link) → ((m == n) ≡ true → tasks_in n ls ≡ []) → ((m == n) ≡ false → tasks_in n ls ≡ tasks_in n t.links)
    → Moves (commands_of (tasks_in n t.links)) [] [] (if m == n then commands_of (tasks_in n t.links) else []) (commands_of (tasks_in n ls))
lost_moves n m t ls mine other = go (m == n) refl where
  go : (b : Bool) → (m == n) ≡ b → Moves (commands_of (tasks_in n t.links)) [] [] (if b then commands_of (tasks_in n t.links) else []) (commands_of (tasks_in n ls))
  go true is = none_left (tasks_in n t.links) (tasks_in n ls) (mine is)
  go false is = same_moves (tasks_in n t.links) (tasks_in n ls) (other is)

link_moves : (n m : ℕ) (t : Target) (p : Pdu) (o : Option Link) → link_of m t.links ≡ o
    → Moves (commands_of (tasks_in n t.links)) (flat_map came_in (if m == n then link_turns t m o p else []))
    (if m == n then map command_of_request (link_own t m o p) else commands_of (link_woken t m o p (standing_in n t.links)))
    (if m == n then link_ended t m o p else commands_of (link_taken t m o p (standing_in n t.links)))
    (commands_of (tasks_in n (heard_of t m o p).target.links))
link_moves n m t p None found = go (m == n) where
  go : (b : Bool)
      → Moves (commands_of (tasks_in n t.links)) (flat_map came_in (if b then [] else [])) (if b then [] else []) (if b then [] else []) (commands_of (tasks_in n t.links))
  go true = stays (commands_of (tasks_in n t.links))
  go false = stays (commands_of (tasks_in n t.links))
link_moves n m t p (Some l) found = go (m == n) refl where
  s : Step
  s = stepped (aside m t) l.standing p

  go : (b : Bool) → (m == n) ≡ b
      → Moves (commands_of (tasks_in n t.links)) (flat_map came_in (if b then link_turns t m (Some l) p else []))
      (if b then map command_of_request (link_own t m (Some l) p) else commands_of (link_woken t m (Some l) p (standing_in n t.links)))
      (if b then link_ended t m (Some l) p else commands_of (link_taken t m (Some l) p (standing_in n t.links)))
      (commands_of (tasks_in n (heard_of t m (Some l) p).target.links))
  go true is =
      subst (λ (k : ℕ). Moves (commands_of (tasks_in k t.links)) (flat_map came_in (link_turns t m (Some l) p)) (map command_of_request (link_own t m (Some l) p))
      (link_ended t m (Some l) p) (commands_of (tasks_in k (heard_of t m (Some l) p).target.links))) (eqb-true m n is)
      (subst (λ (z : List Task). Moves (commands_of z) (flat_map came_in (link_turns t m (Some l) p)) (map command_of_request (link_own t m (Some l) p))
      (link_ended t m (Some l) p) (commands_of (tasks_in m (heard_of t m (Some l) p).target.links))) (sym (ap (λ (o : Option Link). tasks_at (standing_of o)) found))
      (subst (λ (z : List Task). Moves (commands_of (tasks_at l.standing)) (flat_map came_in (link_turns t m (Some l) p)) (map command_of_request (link_own t m (Some l) p))
      (link_ended t m (Some l) p) (commands_of z)) (sym (own_tasks m s.standing s.target.links (aside_step m (aside m t) l.standing p (is_aside m t.links l found))))
      (own_moves (aside m t) l.standing p)))
  go false is =
      subst (λ (z : Standing). Moves (commands_of (tasks_at z)) [] (commands_of (link_woken t m (Some l) p z)) (commands_of (link_taken t m (Some l) p z))
      (commands_of (tasks_in n (heard_of t m (Some l) p).target.links)))
      (aside_standing n m t is)
      (subst (λ (z : List Task). Moves (commands_of (tasks_in n (aside m t).links)) [] (commands_of (link_woken t m (Some l) p (standing_in n (aside m t).links)))
      (commands_of (link_taken t m (Some l) p (standing_in n (aside m t).links))) (commands_of z))
      (sym (other_tasks n m s.standing s.target.links is)) (other_moves n (aside m t) l.standing p))

event_moves : (n : ℕ) (t : Target) (e : Event) → OneIsBusy n t.links → EventMoves n t e
event_moves n t (Joined m) i = same_moves (tasks_in n t.links) (tasks_in n (t.links ++ new_link m ∷ [])) (new_tasks n m t.links)
event_moves n t (Left m) i =
    lost_moves n m t (without m t.links)
    (λ is. subst (λ (k : ℕ). tasks_in n (without k t.links) ≡ []) (sym (eqb-true m n is)) (idle_tasks n (without n t.links) i))
    (λ is. ap (λ (o : Option Link). tasks_at (standing_of o)) (others_found n m t.links is))
event_moves n t (Told listing) i = stays (commands_of (tasks_in n t.links))
event_moves n t (Whole m p) i = link_moves n m t p (link_of m t.links) refl
event_moves n t (Malformed m) i =
    lost_moves n m t (aside m t).links
    (λ is. subst (λ (k : ℕ). tasks_in n (aside k t).links ≡ []) (sym (eqb-true m n is)) (aside_tasks n t))
    (λ is. ap tasks_at (aside_standing n m t is))

-- of each number one is busy

link_busy : (n m : ℕ) (t : Target) (p : Pdu) (o : Option Link) → OneIsBusy n t.links → OneIsBusy n (heard_of t m o p).target.links
link_busy n m t p None i = i
link_busy n m t p (Some l) i =
    bare_busy n (placed (link_at m no_bytes (stepped (aside m t) l.standing p).standing) (stepped (aside m t) l.standing p).target.links)
    (busy_placed n (link_at m no_bytes (stepped (aside m t) l.standing p).standing) (stepped (aside m t) l.standing p).target.links
    (step_busy n (aside m t) l.standing p (busy_placed n (closed_link m) t.links i)))

event_busy : (n : ℕ) (t : Target) (e : Event) → OneIsBusy n t.links → OneIsBusy n (happened t e).target.links
event_busy n t (Joined m) i = busy_behind n (new_link m) t.links refl i
event_busy n t (Left m) i = busy_without n m t.links i
event_busy n t (Told listing) i = i
event_busy n t (Whole m p) i = link_busy n m t p (link_of m t.links) i
event_busy n t (Malformed m) i = busy_placed n (closed_link m) t.links i

pub all_busy : (n : ℕ) (c : TargetConfig) (es : List Event) → OneIsBusy n (state_after c es).links
all_busy n c [] = tt
all_busy n c (e ∷ es) = event_busy n (state_after c es) e (all_busy n c es)

pub all_moves : (n : ℕ) (c : TargetConfig) (es : List Event) → Moves [] (came_on n c es) (executed_on n c es) (ended_on n c es) (waiting_on n c es)
all_moves n c [] = stays []
all_moves n c (e ∷ es) =
    subst (λ (z : List UnitCommand). Moves [] z (executed_on n c (e ∷ es)) (ended_on n c (e ∷ es)) (waiting_on n c (e ∷ es)))
    (sym (flat_map-append came_in (turns_on n c es) (event_turns n (state_after c es) e)))
    (moves_on [] (came_on n c es) (flat_map came_in (event_turns n (state_after c es) e)) (executed_on n c es) (event_executed n (state_after c es) e)
    (ended_on n c es) (event_ended n (state_after c es) e) (waiting_on n c es) (waiting_on n c (e ∷ es))
    (all_moves n c es) (event_moves n (state_after c es) e (all_busy n c es)))

pub executed_in_order : ExecutedInOrder
executed_in_order n c es = (all_moves n c es).order

pub each_is_accounted : EachIsAccounted
each_is_accounted n c es f = (all_moves n c es).count f

-- what is complete was executed

link_stuck : (n m : ℕ) (t : Target) (p : Pdu) (o : Option Link) → link_of m t.links ≡ o → is_stuck (tasks_in n t.links) ≡ true
    → is_stuck (tasks_in n (heard_of t m o p).target.links) ≡ true
link_stuck n m t p None found was = was
link_stuck n m t p (Some l) found was = go (m == n) refl where
  s : Step
  s = stepped (aside m t) l.standing p

  mine : m ≡ n → is_stuck (tasks_in n (heard_of t m (Some l) p).target.links) ≡ true
  mine same =
      subst (λ (k : ℕ). is_stuck (tasks_in k (heard_of t m (Some l) p).target.links) ≡ true) same
      (ap is_stuck (own_tasks m s.standing s.target.links (aside_step m (aside m t) l.standing p (is_aside m t.links l found)))
      ∙ own_stuck (aside m t) l.standing p
      (ap (λ (o : Option Link). is_stuck (tasks_at (standing_of o))) (sym found) ∙ subst (λ (k : ℕ). is_stuck (tasks_in k t.links) ≡ true) (sym same) was))

  go : (b : Bool) → (m == n) ≡ b → is_stuck (tasks_in n (heard_of t m (Some l) p).target.links) ≡ true
  go true is = mine (eqb-true m n is)
  go false is =
      ap is_stuck (other_tasks n m s.standing s.target.links is)
      ∙ other_stuck n (aside m t) l.standing p (ap (λ (z : Standing). is_stuck (tasks_at z)) (aside_standing n m t is) ∙ was)

-- where the connection closes or is gone
lost_stuck : (n m : ℕ) (t : Target) (ls : List Link) → ((m == n) ≡ true → tasks_in n ls ≡ []) → ((m == n) ≡ false → tasks_in n ls ≡ tasks_in n t.links)
    → is_stuck (tasks_in n t.links) ≡ true → is_stuck (tasks_in n ls) ≡ true
lost_stuck n m t ls mine other was = go (m == n) refl where
  go : (b : Bool) → (m == n) ≡ b → is_stuck (tasks_in n ls) ≡ true
  go true is = ap is_stuck (mine is)
  go false is = ap is_stuck (other is) ∙ was

event_stuck : (n : ℕ) (t : Target) (e : Event) → OneIsBusy n t.links → is_stuck (tasks_in n t.links) ≡ true → is_stuck (tasks_in n (happened t e).target.links) ≡ true
event_stuck n t (Joined m) i was = ap is_stuck (new_tasks n m t.links) ∙ was
event_stuck n t (Left m) i was =
    lost_stuck n m t (without m t.links)
    (λ is. subst (λ (k : ℕ). tasks_in n (without k t.links) ≡ []) (sym (eqb-true m n is)) (idle_tasks n (without n t.links) i))
    (λ is. ap (λ (o : Option Link). tasks_at (standing_of o)) (others_found n m t.links is)) was
event_stuck n t (Told listing) i was = was
event_stuck n t (Whole m p) i was = link_stuck n m t p (link_of m t.links) refl was
event_stuck n t (Malformed m) i was =
    lost_stuck n m t (aside m t).links
    (λ is. subst (λ (k : ℕ). tasks_in n (aside k t).links ≡ []) (sym (eqb-true m n is)) (aside_tasks n t))
    (λ is. ap tasks_at (aside_standing n m t is)) was

pub ready_are_executed : ReadyAreExecuted
ready_are_executed n c [] = refl
ready_are_executed n c (e ∷ es) = event_stuck n (state_after c es) e (all_busy n c es) (ready_are_executed n c es)
