-- The commands of a connection since the target was made, and what became of each of them. All is said of the connections of one number,
-- which have followed one another where a number was given again.
use Rattle.std.specs.Prelude.{◌≡◌, ◌<◌, ◌+◌, ℕ, zero, suc, Bool, true, Option, Some, None, List, [], ◌∷◌, ◌++◌, bytes_eq, count_by, length, map, nat_lt, not, ◌&&◌, ◌==◌, if◌then◌else◌}
use Rattle.std.specs.List.{flat_map}
use Rattle.oi_pdu.specs.declared.codec.Pdu.{Pdu}
use Rattle.oi_target.specs.Events.{Event, Joined, Left, Whole, Malformed, state_after}
use Rattle.oi_target.specs.Runs.{event_own, requests_of}
use Rattle.oi_target.specs.Steps.{received_by}
use Rattle.oi_target.specs.Targets.{Target, aside, link_of, nexus_of}
use Rattle.oi_target.specs.Turns.{turn_of}
use Rattle.oi_target.specs.declared.config.TargetConfig.{TargetConfig}
use Rattle.oi_target.specs.declared.link.Link.{Link}
use Rattle.oi_target.specs.declared.link.Standing.{Standing}
use Rattle.oi_target.specs.declared.link.Standing.TheVariants as standing
use Rattle.oi_target_laws.specs.Turned.{Turned, came_in, command_of_request, commands_of, ended_at, taken_by, turns_at}
use Rattle.oi_target_laws.specs.Within.{Within}
use Rattle.oi_target_login.specs.Logins.{turned}
use Rattle.oi_target_login.specs.declared.answer.Verdict.{Verdict}
use Rattle.oi_target_login.specs.declared.answer.Verdict.TheVariants as verdict
use Rattle.oi_target_session.specs.Arrivals.{place_of}
use Rattle.oi_target_session.specs.Owing.{paid, unready}
use Rattle.oi_target_session.specs.Runs.{ready}
use Rattle.oi_target_session.specs.Sessions.{spared}
use Rattle.oi_target_session.specs.declared.reset.Reset.{Reset}
use Rattle.oi_target_tasks.specs.Tasks.{is_stuck}
use Rattle.oi_target_tasks.specs.declared.task.Task.{Task}
use Rattle.oi_units.specs.Runs.{Request}
use Rattle.oi_units.specs.declared.command.UnitCommand.{UnitCommand}

-- where a connection stands; one that is not there is as a closed one
abbrev pub standing_of : Option Link → Standing
standing_of None = standing.Closed
standing_of (Some l) = l.standing

-- where the one of this number does
abbrev pub standing_in : ℕ → List Link → Standing
standing_in n links = standing_of (link_of n links)

-- the tasks of its session; none where it is not served
abbrev pub tasks_at : Standing → List Task
tasks_at (standing.Serving v) = v.session.tasks
tasks_at s = []

-- of the connection of this number
abbrev pub tasks_in : ℕ → List Link → List Task
tasks_in n links = tasks_at (standing_in n links)

-- the PDUs that have their turn as one comes on their connection
abbrev pub step_turns : Target → Standing → Pdu → List Turned
step_turns t (standing.Serving v) pdu =
    turns_at (place_of v.session.discovers v.session.numbers.exp.0 pdu.head) t (paid v.session v.owed) v.held pdu
step_turns t s pdu = []

-- of a connection that is there
abbrev pub link_turns : Target → ℕ → Option Link → Pdu → List Turned
link_turns t m None p = []
link_turns t m (Some l) p = step_turns (aside m t) l.standing p

-- as an event happens, on connection n
abbrev pub event_turns : ℕ → Target → Event → List Turned
event_turns n t (Whole m p) = if m == n then link_turns t m (link_of m t.links) p else []
event_turns n t e = []

-- all PDUs of a connection that had their turn, in order; of events the newest stands first
abbrev pub turns_on : ℕ → TargetConfig → List Event → List Turned
turns_on n c [] = []
turns_on n c (e ∷ es) = turns_on n c es ++ event_turns n (state_after c es) e

-- the commands that they brought, in order
abbrev pub came_on : ℕ → TargetConfig → List Event → List UnitCommand
came_on n c es = flat_map came_in (turns_on n c es)

-- the tasks that are executed at once as resets take those before them, one reset after another
abbrev pub woken_by_all : List Reset → List Task → List Task
woken_by_all [] ts = []
woken_by_all (reset ∷ resets) ts = ready (spared reset ts) ++ woken_by_all resets (unready (spared reset ts))

-- those of another connection, as a PDU of this one comes
abbrev pub step_woken : Target → Standing → Pdu → Standing → List Task
step_woken t (standing.Serving v) pdu other = woken_by_all (received_by v t pdu).resets (tasks_at other)
step_woken t s pdu other = []

-- of a connection that is there
abbrev pub link_woken : Target → ℕ → Option Link → Pdu → Standing → List Task
link_woken t m None p other = []
link_woken t m (Some l) p other = step_woken (aside m t) l.standing p other

-- the commands of the connection that the units execute as a PDU comes, its own or that of another one
abbrev pub event_executed : ℕ → Target → Event → List UnitCommand
event_executed n t (Whole m p) =
    if m == n then map command_of_request (event_own t (Whole m p))
    else commands_of (link_woken t m (link_of m t.links) p (standing_in n t.links))
event_executed n t e = []

-- all of them, in order
abbrev pub executed_on : ℕ → TargetConfig → List Event → List UnitCommand
executed_on n c [] = []
executed_on n c (e ∷ es) = executed_on n c es ++ event_executed n (state_after c es) e

-- they are among the commands that the units were asked, in the same order
abbrev pub ExecutedAreAsked : Type 0
ExecutedAreAsked = (n : ℕ) (c : TargetConfig) (es : List Event) → Within (executed_on n c es) (map command_of_request (requests_of c es))

-- the connections that came have numbers below this one
abbrev pub AreBelow : ℕ → List Event → Type 0
AreBelow k [] = Unit {0}
AreBelow k (Joined n ∷ es) = (n < k) × AreBelow k es
AreBelow k (e ∷ es) = AreBelow k es

-- the sum over all numbers below this one
abbrev pub sum_below : ℕ → (ℕ → ℕ) → ℕ
sum_below zero g = 0
sum_below (suc k) g = sum_below k g + g k

-- and each command that the units were asked was executed on one connection, whatever is counted
abbrev pub AskedAreExecuted : Type 0
AskedAreExecuted =
    (k : ℕ) (c : TargetConfig) (es : List Event) (f : UnitCommand → Bool) → AreBelow k es
    → count_by f (map command_of_request (requests_of c es)) ≡ sum_below k (λ n. count_by f (executed_on n c es))

-- the commands that a PDU of the connection ends before they are executed
abbrev pub step_ended : Target → Standing → Pdu → List UnitCommand
step_ended t (standing.Serving v) pdu =
    ended_at (place_of v.session.discovers v.session.numbers.exp.0 pdu.head) t (paid v.session v.owed) v.held pdu
step_ended t s pdu = []

-- of a connection that is there
abbrev pub link_ended : Target → ℕ → Option Link → Pdu → List UnitCommand
link_ended t m None p = []
link_ended t m (Some l) p = step_ended (aside m t) l.standing p

-- the tasks that resets take, one after another
abbrev pub taken_by_all : List Reset → List Task → List Task
taken_by_all [] ts = []
taken_by_all (reset ∷ resets) ts = taken_by reset ts ++ taken_by_all resets (unready (spared reset ts))

-- those of a session of this initiator port
abbrev pub tasks_under : List ℕ → Standing → List Task
tasks_under nexus (standing.Serving v) = if bytes_eq v.session.nexus nexus then v.session.tasks else []
tasks_under nexus s = []

-- a login that opens a session ends the one of the same initiator port (RFC 7143, section 6.3.5)
abbrev pub taken_by_login : Verdict → Standing → List Task
taken_by_login (verdict.Done s) other = tasks_under (nexus_of s.who) other
taken_by_login v other = []

-- what a PDU of a connection takes from another one: by resets, or by a login
abbrev pub step_taken : Target → Standing → Pdu → Standing → List Task
step_taken t (standing.LoggingIn p) pdu other = taken_by_login (turned t.rules t.handle p pdu t.words).answer.verdict other
step_taken t (standing.Serving v) pdu other = taken_by_all (received_by v t pdu).resets (tasks_at other)
step_taken t s pdu other = []

-- of a connection that is there
abbrev pub link_taken : Target → ℕ → Option Link → Pdu → Standing → List Task
link_taken t m None p other = []
link_taken t m (Some l) p other = step_taken (aside m t) l.standing p other

-- the commands that end as an event happens: all, where the connection is gone or a malformed PDU closes it
abbrev pub event_ended : ℕ → Target → Event → List UnitCommand
event_ended n t (Left m) = if m == n then commands_of (tasks_in n t.links) else []
event_ended n t (Malformed m) = if m == n then commands_of (tasks_in n t.links) else []
event_ended n t (Whole m p) =
    if m == n then link_ended t m (link_of m t.links) p
    else commands_of (link_taken t m (link_of m t.links) p (standing_in n t.links))
event_ended n t e = []

-- all of them, in order
abbrev pub ended_on : ℕ → TargetConfig → List Event → List UnitCommand
ended_on n c [] = []
ended_on n c (e ∷ es) = ended_on n c es ++ event_ended n (state_after c es) e

-- the tasks that wait now
abbrev pub tasks_on : ℕ → TargetConfig → List Event → List Task
tasks_on n c es = tasks_in n (state_after c es).links

-- and their commands
abbrev pub waiting_on : ℕ → TargetConfig → List Event → List UnitCommand
waiting_on n c es = commands_of (tasks_on n c es)

-- commands are executed in the order in which they came, which is that of their turns
abbrev pub ExecutedInOrder : Type 0
ExecutedInOrder = (n : ℕ) (c : TargetConfig) (es : List Event) → Within (executed_on n c es ++ waiting_on n c es) (came_on n c es)

-- each command that came was executed once, or ended once, or waits, whatever is counted; and no other was executed
abbrev pub EachIsAccounted : Type 0
EachIsAccounted =
    (n : ℕ) (c : TargetConfig) (es : List Event) (f : UnitCommand → Bool)
    → count_by f (came_on n c es) ≡ count_by f (executed_on n c es) + (count_by f (ended_on n c es) + count_by f (waiting_on n c es))

-- its data are complete
abbrev pub is_complete : Request → Bool
is_complete r = not (r.command.writes && nat_lt (length r.payload) r.command.length)

-- those of all requests are
abbrev pub AreComplete : List Request → Type 0
AreComplete [] = Unit {0}
AreComplete (r ∷ rs) = (is_complete r ≡ true) × AreComplete rs

-- no command of any connection is executed before its data are complete
abbrev pub ExecutedAreComplete : Type 0
ExecutedAreComplete = (c : TargetConfig) (es : List Event) → AreComplete (requests_of c es)

-- a command is executed at once when those before it are and its data are complete: the first that waits lacks data
abbrev pub ReadyAreExecuted : Type 0
ReadyAreExecuted = (n : ℕ) (c : TargetConfig) (es : List Event) → is_stuck (tasks_on n c es) ≡ true

-- so it is of each connection
abbrev pub AreStuck : List Link → Type 0
AreStuck [] = Unit {0}
AreStuck (l ∷ ls) = (is_stuck (tasks_at l.standing) ≡ true) × AreStuck ls

-- as it has its turn, a PDU finds no command that could be executed: on its own connection, and on the others
abbrev pub FindsNoneReady : List Turned → Type 0
FindsNoneReady [] = Unit {0}
FindsNoneReady (turn ∷ turns) = (is_stuck turn.session.tasks ≡ true) × AreStuck turn.target.links × FindsNoneReady turns

-- what a PDU lets be executed is executed before the next one has its turn, also where both were held
abbrev pub TurnsFindNoneReady : Type 0
TurnsFindNoneReady = (n : ℕ) (c : TargetConfig) (es : List Event) → FindsNoneReady (turns_on n c es)

-- the resets that a PDU tells the others
abbrev pub resets_in : Turned → List Reset
resets_in t = (turn_of t.target t.session t.pdu).session.resets

-- none of these tasks is one that the resets take
abbrev pub NoneTaken : List Reset → List Task → Type 0
NoneTaken [] ts = Unit {0}
NoneTaken (reset ∷ resets) ts = (taken_by reset ts ≡ []) × NoneTaken resets ts

-- as it has its turn, a PDU finds no command that these resets take, or those of a PDU before it: on all other connections
abbrev pub FindsNoneTaken : List Reset → List Turned → Type 0
FindsNoneTaken resets [] = Unit {0}
FindsNoneTaken resets (turn ∷ turns) =
    ((n : ℕ) → NoneTaken resets (tasks_in n turn.target.links)) × FindsNoneTaken (resets ++ resets_in turn) turns

-- all others have learnt of a reset before the next PDU has its turn, also where both were held
abbrev pub TurnsFindNoneTaken : Type 0
TurnsFindNoneTaken = (n : ℕ) (c : TargetConfig) (es : List Event) (e : Event) → FindsNoneTaken [] (event_turns n (state_after c es) e)
