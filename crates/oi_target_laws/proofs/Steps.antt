-- What a PDU of a connection makes of the tasks of its own session, and of those of others.
use Rattle.std.proofs.Common.{ℕ, Bool, true, false, ◌≡◌, ◌∙◌, List, [], bytes_eq, flat_map, map, refl, ap, sym, subst, if◌then◌else◌}
use Rattle.oi_pdu.specs.declared.codec.Pdu.{Pdu}
use Rattle.oi_target.proofs.Placed.{link_map}
use Rattle.oi_target.proofs.Told.{step_told}
use Rattle.oi_target.specs.Runs.{own_requests}
use Rattle.oi_target.specs.Steps.{logged_in_by, received_by, serving_by, stepped, with_words}
use Rattle.oi_target.specs.Targets.{Target, ended_by, ended_standing, link_of, nexus_of}
use Rattle.oi_target.specs.Turns.{Received}
use Rattle.oi_target.specs.declared.link.Link.{Link}
use Rattle.oi_target.specs.declared.link.Standing.{Standing}
use Rattle.oi_target.specs.declared.link.Standing.TheVariants as standing
use Rattle.oi_target_laws.proofs.Idle.{OneIsBusy, busy_map}
use Rattle.oi_target_laws.proofs.Learning.{over_standing, told_busy, told_moves, told_stuck}
use Rattle.oi_target_laws.proofs.Moves.{Moves, ends, stays}
use Rattle.oi_target_laws.proofs.Turns.{received_moves, received_stuck, tasks_if}
use Rattle.oi_target_laws.specs.Histories.{standing_in, standing_of, step_ended, step_taken, step_turns, step_woken, taken_by_login, tasks_at, tasks_in, tasks_under}
use Rattle.oi_target_laws.specs.Turned.{came_in, command_of_request, commands_if, commands_of}
use Rattle.oi_target_login.specs.Logins.{turned}
use Rattle.oi_target_login.specs.declared.answer.Answer.{Answer}
use Rattle.oi_target_login.specs.declared.answer.Verdict.{Verdict}
use Rattle.oi_target_login.specs.declared.answer.Verdict.TheVariants as verdict
use Rattle.oi_target_session.specs.Arrivals.{place_of}
use Rattle.oi_target_session.specs.Owing.{paid}
use Rattle.oi_target_session.specs.declared.fed.Fed.{Fed}
use Rattle.oi_target_session.specs.declared.fed.Fed.TheVariants.{Going, Closed}
use Rattle.oi_target_tasks.specs.Tasks.{is_stuck}
use Rattle.oi_target_tasks.specs.declared.task.Task.{Task}
use Rattle.oi_units.specs.declared.command.UnitCommand.{UnitCommand}

-- its own tasks

login_tasks : (t : Target) (a : Answer) (v : Verdict) → tasks_at (logged_in_by t a v).standing ≡ []
login_tasks t a verdict.Going = refl
login_tasks t a verdict.Closed = refl
login_tasks t a (verdict.Done s) = refl

served_tasks : (r : Received) (f : Fed) → tasks_at (serving_by f r) ≡ tasks_if f r.session.tasks
served_tasks r Closed = refl
served_tasks r Going = refl

if_tasks : (f : Fed) (ts : List Task) → commands_if f (commands_of ts) ≡ commands_of (tasks_if f ts)
if_tasks Closed ts = refl
if_tasks Going ts = refl

pub own_moves : (t : Target) (s : Standing) (p : Pdu)
    → Moves (commands_of (tasks_at s)) (flat_map came_in (step_turns t s p)) (map command_of_request (own_requests t s p)) (step_ended t s p) (commands_of (tasks_at (stepped t s p).standing))
own_moves t (standing.LoggingIn login) p =
    subst (λ (z : List Task). Moves [] [] [] [] (commands_of z))
    (sym (login_tasks (with_words t (turned t.rules t.handle login p t.words).words) (turned t.rules t.handle login p t.words).answer
    (turned t.rules t.handle login p t.words).answer.verdict)) (stays [])
own_moves t (standing.Serving v) p =
    subst (λ (z : List UnitCommand). Moves (commands_of v.session.tasks) (flat_map came_in (step_turns t (standing.Serving v) p)) (map command_of_request (own_requests t (standing.Serving v) p))
    (step_ended t (standing.Serving v) p) z)
    (if_tasks r.fed r.session.tasks ∙ sym (ap commands_of (served_tasks r r.fed)))
    (received_moves (place_of v.session.discovers v.session.numbers.exp.0 p.head) t (paid v.session v.owed) v.held p) where
      r : Received
      r = received_by v t p
own_moves t standing.Ended p = stays []
own_moves t standing.Closed p = stays []

pub own_stuck : (t : Target) (s : Standing) (p : Pdu) → is_stuck (tasks_at s) ≡ true → is_stuck (tasks_at (stepped t s p).standing) ≡ true
own_stuck t (standing.LoggingIn login) p was =
    ap is_stuck (login_tasks (with_words t (turned t.rules t.handle login p t.words).words) (turned t.rules t.handle login p t.words).answer
    (turned t.rules t.handle login p t.words).answer.verdict)
own_stuck t (standing.Serving v) p was =
    ap is_stuck (served_tasks r r.fed) ∙ received_stuck (place_of v.session.discovers v.session.numbers.exp.0 p.head) t (paid v.session v.owed) v.held p was where
      r : Received
      r = received_by v t p
own_stuck t standing.Ended p was = refl
own_stuck t standing.Closed p was = refl

-- those of another one

ended_at_login : (nexus : List ℕ) (s : Standing) → Moves (commands_of (tasks_at s)) [] [] (commands_of (tasks_under nexus s)) (commands_of (tasks_at (ended_standing nexus s)))
ended_at_login nexus (standing.LoggingIn p) = stays []
ended_at_login nexus (standing.Serving v) = go (bytes_eq v.session.nexus nexus) where
  go : (b : Bool) → Moves (commands_of v.session.tasks) [] [] (commands_of (if b then v.session.tasks else [])) (commands_of (tasks_at (if b then standing.Ended else standing.Serving v)))
  go true = ends (commands_of v.session.tasks)
  go false = stays (commands_of v.session.tasks)
ended_at_login nexus standing.Ended = stays []
ended_at_login nexus standing.Closed = stays []

pub ended_standings : (n : ℕ) (nexus : List ℕ) (ls : List Link) → standing_in n (map (ended_by nexus) ls) ≡ ended_standing nexus (standing_in n ls)
ended_standings n nexus ls =
    ap standing_of (link_map (ended_by nexus) (λ l. refl) n ls) ∙ over_standing (ended_by nexus) (ended_standing nexus) (λ l. refl) refl (link_of n ls)

login_moves : (n : ℕ) (t : Target) (a : Answer) (v : Verdict)
    → Moves (commands_of (tasks_in n t.links)) [] [] (commands_of (taken_by_login v (standing_in n t.links))) (commands_of (tasks_in n (logged_in_by t a v).target.links))
login_moves n t a verdict.Going = stays (commands_of (tasks_in n t.links))
login_moves n t a verdict.Closed = stays (commands_of (tasks_in n t.links))
login_moves n t a (verdict.Done s) =
    subst (λ (z : Standing). Moves (commands_of (tasks_in n t.links)) [] [] (commands_of (tasks_under (nexus_of s.who) (standing_in n t.links))) (commands_of (tasks_at z)))
    (sym (ended_standings n (nexus_of s.who) t.links)) (ended_at_login (nexus_of s.who) (standing_in n t.links))

pub other_moves : (n : ℕ) (t : Target) (s : Standing) (p : Pdu)
    → Moves (commands_of (tasks_in n t.links)) [] (commands_of (step_woken t s p (standing_in n t.links))) (commands_of (step_taken t s p (standing_in n t.links)))
    (commands_of (tasks_in n (stepped t s p).target.links))
other_moves n t (standing.LoggingIn login) p =
    login_moves n (with_words t (turned t.rules t.handle login p t.words).words) (turned t.rules t.handle login p t.words).answer
    (turned t.rules t.handle login p t.words).answer.verdict
other_moves n t (standing.Serving v) p = told_moves n (received_by v t p).resets t.links (received_by v t p).target.links (step_told t v p).links
other_moves n t standing.Ended p = stays (commands_of (tasks_in n t.links))
other_moves n t standing.Closed p = stays (commands_of (tasks_in n t.links))

-- the first that waits lacks data
pub ended_stuck : (nexus : List ℕ) (s : Standing) → is_stuck (tasks_at s) ≡ true → is_stuck (tasks_at (ended_standing nexus s)) ≡ true
ended_stuck nexus (standing.LoggingIn p) was = refl
ended_stuck nexus (standing.Serving v) was = go (bytes_eq v.session.nexus nexus) where
  go : (b : Bool) → is_stuck (tasks_at (if b then standing.Ended else standing.Serving v)) ≡ true
  go true = refl
  go false = was
ended_stuck nexus standing.Ended was = refl
ended_stuck nexus standing.Closed was = refl

login_stuck : (n : ℕ) (t : Target) (a : Answer) (v : Verdict) → is_stuck (tasks_in n t.links) ≡ true → is_stuck (tasks_in n (logged_in_by t a v).target.links) ≡ true
login_stuck n t a verdict.Going was = was
login_stuck n t a verdict.Closed was = was
login_stuck n t a (verdict.Done s) was =
    ap (λ (z : Standing). is_stuck (tasks_at z)) (ended_standings n (nexus_of s.who) t.links) ∙ ended_stuck (nexus_of s.who) (standing_in n t.links) was

pub other_stuck : (n : ℕ) (t : Target) (s : Standing) (p : Pdu) → is_stuck (tasks_in n t.links) ≡ true → is_stuck (tasks_in n (stepped t s p).target.links) ≡ true
other_stuck n t (standing.LoggingIn login) p was =
    login_stuck n (with_words t (turned t.rules t.handle login p t.words).words) (turned t.rules t.handle login p t.words).answer
    (turned t.rules t.handle login p t.words).answer.verdict was
other_stuck n t (standing.Serving v) p was = told_stuck n (received_by v t p).resets t.links (received_by v t p).target.links (step_told t v p).links was
other_stuck n t standing.Ended p was = was
other_stuck n t standing.Closed p was = was

-- of each number one is busy

login_busy : (n : ℕ) (t : Target) (a : Answer) (v : Verdict) → OneIsBusy n t.links → OneIsBusy n (logged_in_by t a v).target.links
login_busy n t a verdict.Going i = i
login_busy n t a verdict.Closed i = i
login_busy n t a (verdict.Done s) i = busy_map n (ended_by (nexus_of s.who)) (λ l. refl) (λ l new. ap (ended_standing (nexus_of s.who)) new) t.links i

pub step_busy : (n : ℕ) (t : Target) (s : Standing) (p : Pdu) → OneIsBusy n t.links → OneIsBusy n (stepped t s p).target.links
step_busy n t (standing.LoggingIn login) p i =
    login_busy n (with_words t (turned t.rules t.handle login p t.words).words) (turned t.rules t.handle login p t.words).answer
    (turned t.rules t.handle login p t.words).answer.verdict i
step_busy n t (standing.Serving v) p i = told_busy n (received_by v t p).resets t.links (received_by v t p).target.links (step_told t v p).links i
step_busy n t standing.Ended p i = i
step_busy n t standing.Closed p i = i
