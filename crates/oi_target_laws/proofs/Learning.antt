-- What the resets of a connection make of another one.
use Rattle.std.proofs.Common.{ℕ, Bool, true, false, ◌≡◌, ◌∙◌, Option, Some, None, List, [], ◌∷◌, ◌++◌, refl, ap, sym, subst, append_assoc, if◌then◌else◌, ◌==◌}
use Rattle.std.proofs.lemmas.List.{map-append}
use Rattle.oi_target.proofs.Learned.{link_reached, relearned}
use Rattle.oi_target.proofs.Placed.{over}
use Rattle.oi_target.proofs.Told.{AreTold}
use Rattle.oi_target.specs.Targets.{Reached, learned, link_of, reset_each, reset_links, without}
use Rattle.oi_target.specs.declared.link.Link.{Link}
use Rattle.oi_target.specs.declared.link.Standing.{Standing}
use Rattle.oi_target.specs.declared.link.Standing.TheVariants as standing
use Rattle.oi_target_laws.proofs.Handles.{spares}
use Rattle.oi_target_laws.proofs.Idle.{AreIdle, OneIsBusy}
use Rattle.oi_target_laws.proofs.Moves.{Moves, moves_on, stays}
use Rattle.oi_target_laws.proofs.Turns.{then_executes}
use Rattle.oi_target_laws.specs.Histories.{standing_in, standing_of, taken_by_all, tasks_at, tasks_in, woken_by_all}
use Rattle.oi_target_laws.specs.Turned.{command_of_task, commands_of, taken_by}
use Rattle.oi_target_session.specs.Owing.{unready}
use Rattle.oi_target_session.specs.Runs.{ready}
use Rattle.oi_target_session.specs.Sessions.{spared}
use Rattle.oi_target_session.specs.declared.reset.Reset.{Reset}
use Rattle.oi_target_session.specs.declared.reset.Reset.TheVariants.{Unit as OfUnit, Whole}
use Rattle.oi_target_tasks.specs.Tasks.{is_stuck, is_waiting}
use Rattle.oi_target_tasks.specs.declared.task.Task.{Task}
use Rattle.oi_units.specs.declared.command.UnitCommand.{UnitCommand}
use Rattle.oi_units.specs.declared.unit.LogicalUnit.{LogicalUnit}

pub over_standing : (g : Link → Link) (h : Standing → Standing) → ((l : Link) → (g l).standing ≡ h l.standing) → h standing.Closed ≡ standing.Closed → (o : Option Link)
    → standing_of (over g o) ≡ h (standing_of o)
over_standing g h is closed None = sym closed
over_standing g h is closed (Some l) = is l

-- a connection learns of a reset on the units that those before it left
learned_in : (n : ℕ) (r : Reset) (units : List LogicalUnit) (ls : List Link)
    → (u : List LogicalUnit) × (standing_in n (reset_each r units ls).links ≡ (learned r u (standing_in n ls)).standing)
learned_in n r units ls =
    let found = link_reached n r units ls in
    (found.0, ap standing_of found.1 ∙ over_standing (relearned r found.0) (λ s. (learned r found.0 s).standing) (λ l. refl) refl (link_of n ls))

-- what holds of a connection whatever it learns holds of it behind resets
pub told_keep : (P : Standing → Type 0) → ((r : Reset) (u : List LogicalUnit) (s : Standing) → P s → P (learned r u s).standing)
    → (n : ℕ) (resets : List Reset) (ls ks : List Link) → AreTold resets ls ks → P (standing_in n ls) → P (standing_in n ks)
told_keep P keeps n [] ls ks told h = subst (λ (z : List Link). P (standing_in n z)) (sym told) h
told_keep P keeps n (r ∷ rs) ls ks told h =
    let found = learned_in n r told.0 ls in
    told_keep P keeps n rs (reset_each r told.0 ls).links ks told.1 (subst P (sym found.1) (keeps r found.0 (standing_in n ls) h))

-- its tasks
learned_tasks : (r : Reset) (u : List LogicalUnit) (s : Standing) → tasks_at (learned r u s).standing ≡ unready (spared r (tasks_at s))
learned_tasks (OfUnit lun) u (standing.LoggingIn p) = refl
learned_tasks Whole u (standing.LoggingIn p) = refl
learned_tasks r u (standing.Serving v) = refl
learned_tasks (OfUnit lun) u standing.Ended = refl
learned_tasks Whole u standing.Ended = refl
learned_tasks (OfUnit lun) u standing.Closed = refl
learned_tasks Whole u standing.Closed = refl

pub reset_tasks : (n : ℕ) (r : Reset) (units : List LogicalUnit) (ls : List Link) → tasks_in n (reset_each r units ls).links ≡ unready (spared r (tasks_in n ls))
reset_tasks n r units ls =
    let found = learned_in n r units ls in
    ap tasks_at found.1 ∙ learned_tasks r found.0 (standing_in n ls)

-- the commands at the front are executed, and the first of the others lacks data
ready_parts : (ts : List Task) → commands_of ts ≡ commands_of (ready ts) ++ commands_of (unready ts)
ready_parts [] = refl
ready_parts (t ∷ ts) = go (is_waiting t) (ready_parts ts) where
  go : (b : Bool) → commands_of ts ≡ commands_of (ready ts) ++ commands_of (unready ts)
      → t.command ∷ commands_of ts ≡ commands_of (if b then [] else t ∷ ready ts) ++ commands_of (if b then t ∷ ts else unready ts)
  go true was = refl
  go false was = ap (λ (z : List UnitCommand). t.command ∷ z) was

unready_stuck : (ts : List Task) → is_stuck (unready ts) ≡ true
unready_stuck [] = refl
unready_stuck (t ∷ ts) = go (is_waiting t) refl (unready_stuck ts) where
  go : (b : Bool) → is_waiting t ≡ b → is_stuck (unready ts) ≡ true → is_stuck (if b then t ∷ ts else unready ts) ≡ true
  go true is was = is
  go false is was = was

pub learned_stuck : (r : Reset) (u : List LogicalUnit) (s : Standing) → is_stuck (tasks_at (learned r u s).standing) ≡ true
learned_stuck r u s = ap is_stuck (learned_tasks r u s) ∙ unready_stuck (spared r (tasks_at s))

pub told_stuck : (n : ℕ) (resets : List Reset) (ls ks : List Link) → AreTold resets ls ks → is_stuck (tasks_in n ls) ≡ true → is_stuck (tasks_in n ks) ≡ true
told_stuck n resets ls ks told was = told_keep (λ s. is_stuck (tasks_at s) ≡ true) (λ r u s h. learned_stuck r u s) n resets ls ks told was

-- its tasks behind resets
abbrev pub after_all : List Reset → List Task → List Task
after_all [] ts = ts
after_all (r ∷ rs) ts = after_all rs (unready (spared r ts))

pub resets_tasks : (n : ℕ) (resets : List Reset) (units : List LogicalUnit) (ls : List Link)
    → tasks_in n (reset_links resets units ls).links ≡ after_all resets (tasks_in n ls)
resets_tasks n [] units ls = refl
resets_tasks n (r ∷ rs) units ls =
    let all : Reached = reset_each r units ls in
    resets_tasks n rs all.units all.links ∙ ap (after_all rs) (reset_tasks n r units ls)

-- those that are executed behind resets in two parts
pub woken_join : (first second : List Reset) (ts : List Task) → woken_by_all (first ++ second) ts ≡ woken_by_all first ts ++ woken_by_all second (after_all first ts)
woken_join [] second ts = refl
woken_join (r ∷ rs) second ts =
    ap (λ (z : List Task). ready (spared r ts) ++ z) (woken_join rs second (unready (spared r ts)))
    ∙ sym (append_assoc (ready (spared r ts)) (woken_by_all rs (unready (spared r ts))) (woken_by_all second (after_all rs (unready (spared r ts)))))

-- a reset takes some tasks, and those at the front of what is left are executed
reset_moves : (r : Reset) (ts : List Task)
    → Moves (commands_of ts) [] (commands_of (ready (spared r ts))) (commands_of (taken_by r ts)) (commands_of (unready (spared r ts)))
reset_moves r ts =
    then_executes (commands_of ts) [] (commands_of (taken_by r ts)) (commands_of (spared r ts)) (commands_of (ready (spared r ts))) (commands_of (unready (spared r ts)))
    (spares r ts) (ready_parts (spared r ts))

pub told_moves : (n : ℕ) (resets : List Reset) (ls ks : List Link) → AreTold resets ls ks
    → Moves (commands_of (tasks_in n ls)) [] (commands_of (woken_by_all resets (tasks_in n ls))) (commands_of (taken_by_all resets (tasks_in n ls))) (commands_of (tasks_in n ks))
told_moves n [] ls ks told =
    subst (λ (z : List Link). Moves (commands_of (tasks_in n ls)) [] [] [] (commands_of (tasks_in n z))) (sym told) (stays (commands_of (tasks_in n ls)))
told_moves n (r ∷ rs) ls ks told =
    subst (λ (z : List UnitCommand). Moves (commands_of ts) [] z (commands_of (taken_by r ts ++ taken_by_all rs us)) (commands_of vs))
    (sym (map-append command_of_task (ready (spared r ts)) (woken_by_all rs us)))
    (subst (λ (z : List UnitCommand). Moves (commands_of ts) [] (commands_of (ready (spared r ts)) ++ commands_of (woken_by_all rs us)) z (commands_of vs))
    (sym (map-append command_of_task (taken_by r ts) (taken_by_all rs us)))
    (moves_on (commands_of ts) [] [] (commands_of (ready (spared r ts))) (commands_of (woken_by_all rs us)) (commands_of (taken_by r ts)) (commands_of (taken_by_all rs us))
    (commands_of us) (commands_of vs) (reset_moves r ts)
    (subst (λ (z : List Task). Moves (commands_of z) [] (commands_of (woken_by_all rs z)) (commands_of (taken_by_all rs z)) (commands_of vs)) (reset_tasks n r told.0 ls)
    (told_moves n rs (reset_each r told.0 ls).links ks told.1)))) where
      ts : List Task
      ts = tasks_in n ls

      us : List Task
      us = unready (spared r ts)

      vs : List Task
      vs = tasks_in n ks

-- of each number one is busy
idle_reset : (n : ℕ) (r : Reset) (units : List LogicalUnit) (ls : List Link) → AreIdle n ls → AreIdle n (reset_each r units ls).links
idle_reset n r units [] i = tt
idle_reset n r units (l ∷ ls) i =
    (λ is. ap (λ (s : Standing). (learned r units s).standing) (i.0 is), idle_reset n r (learned r units l.standing).units ls i.1)

pub busy_reset : (n : ℕ) (r : Reset) (units : List LogicalUnit) (ls : List Link) → OneIsBusy n ls → OneIsBusy n (reset_each r units ls).links
busy_reset n r units [] i = tt
busy_reset n r units (l ∷ ls) i = go (l.number == n) i (λ h. busy_reset n r (learned r units l.standing).units ls h) where
  rest : List Link
  rest = (reset_each r (learned r units l.standing).units ls).links

  go : (b : Bool) → AreIdle n (if b then ls else l ∷ without n ls) → (OneIsBusy n ls → OneIsBusy n rest) → AreIdle n (if b then rest else relearned r units l ∷ without n rest)
  go true h more = idle_reset n r (learned r units l.standing).units ls h
  go false h more = (λ is. ap (λ (s : Standing). (learned r units s).standing) (h.0 is), more h.1)

pub told_busy : (n : ℕ) (resets : List Reset) (ls ks : List Link) → AreTold resets ls ks → OneIsBusy n ls → OneIsBusy n ks
told_busy n [] ls ks told i = subst (λ (z : List Link). OneIsBusy n z) (sym told) i
told_busy n (r ∷ rs) ls ks told i = told_busy n rs (reset_each r told.0 ls).links ks told.1 (busy_reset n r told.0 ls i)
