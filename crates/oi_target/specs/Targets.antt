-- A test target: its logical units, what a discovery is told, the words from which challenges are drawn, and its connections.
use Rattle.std.specs.Prelude.{ℕ, ◌+◌, Bool, false, not, Option, Some, None, List, [], ◌∷◌, ◌++◌, bytes_eq, map, ◌==◌, if◌then◌else◌}
use Rattle.oi_base.specs.declared.login.Params.{Params}
use Rattle.oi_chap.specs.Streams.{stream_start}
use Rattle.oi_chap.specs.declared.streams.Purpose.TheVariants.{TargetChallenges}
use Rattle.oi_names.specs.declared.portal.Portal.{Portal}
use Rattle.oi_sendtargets.specs.declared.found.Found.{Found}
use Rattle.oi_stream.specs.Bytewise.{unfed}
use Rattle.oi_stream.specs.Feeding.{State}
use Rattle.oi_target_login.specs.Logins.{fresh}
use Rattle.oi_target_login.specs.declared.answer.NewSession.{NewSession}
use Rattle.oi_target_login.specs.declared.config.ChapConfig.{ChapConfig}
use Rattle.oi_target_login.specs.declared.config.LoginRules.{LoginRules}
use Rattle.oi_target_login.specs.declared.progress.Who.{Who}
use Rattle.oi_target_session.specs.Owing.{unready, woken}
use Rattle.oi_target_session.specs.Sessions.{Session, new_session, spared, with_tasks}
use Rattle.oi_target_session.specs.declared.limits.Limits.{Limits}
use Rattle.oi_target_session.specs.declared.reset.Reset.{Reset}
use Rattle.oi_target.specs.declared.config.TargetConfig.{TargetConfig}
use Rattle.oi_target.specs.declared.link.Link.{Link}
use Rattle.oi_target.specs.declared.link.Serving.{Serving}
use Rattle.oi_target.specs.declared.link.Standing.{Standing}
use Rattle.oi_target.specs.declared.link.Standing.TheVariants as standing
use Rattle.oi_target_tasks.specs.declared.task.Task.{Task}
use Rattle.oi_units.specs.Units.{fresh_unit}
use Rattle.oi_units.specs.declared.unit.LogicalUnit.{LogicalUnit}
use Rattle.rand_chacha.specs.ChaCha.{ChaCha}

-- besides, the handle of the next session, and whether memory was wanted before
pub record Target : Type 0 where
  pub portal : Portal
  pub rules : LoginRules
  pub listing : List Found
  pub units : List LogicalUnit
  pub words : ChaCha
  pub handle : ℕ
  pub links : List Link
  pub broken : Bool

-- the number of the stream of challenges
abbrev pub stream_of : Option ChapConfig → ℕ
stream_of None = 0
stream_of (Some chap) = chap.key

abbrev pub rules_of : TargetConfig → LoginRules
rules_of c = record { name = c.name; tag = c.tag; chap = c.chap; moved = c.moved }

-- a target to which nobody is connected
abbrev pub new_target : TargetConfig → Target
new_target c = record {
  portal = c.portal;
  rules = rules_of c;
  listing = c.listing;
  units = map fresh_unit c.blocks;
  words = stream_start (stream_of c.chap) TargetChallenges;
  handle = 1;
  links = [];
  broken = false;
}

-- handles of sessions are not zero (RFC 7143, section 11.12.6)
abbrev pub next_handle : ℕ → ℕ
next_handle handle = if handle == 65535 then 1 else handle + 1

abbrev pub is_other : ℕ → Link → Bool
is_other n l = not (l.number == n)

-- the connection of this number, and the others
abbrev pub link_of : ℕ → List Link → Option Link
link_of n [] = None
link_of n (l ∷ ls) = if l.number == n then Some l else link_of n ls

abbrev pub without : ℕ → List Link → List Link
without n [] = []
without n (l ∷ ls) = if l.number == n then ls else l ∷ without n ls

abbrev pub with_links : Target → List Link → Target
with_links t links = record t { links = links }

abbrev pub link_at : ℕ → State → Standing → Link
link_at n splitter s = record { number = n; splitter = splitter; standing = s }

-- the connection with the number of this one is this one from now on
abbrev pub placed : Link → List Link → List Link
placed k [] = []
placed k (l ∷ ls) = if l.number == k.number then k ∷ ls else l ∷ placed k ls

-- nothing of a data segment came yet; it may have 65,536 bytes
abbrev pub no_bytes : State
no_bytes = unfed 65536

-- a connection of which nothing came yet; StatSN begins at 1
abbrev pub new_link : ℕ → Link
new_link n = link_at n no_bytes (standing.LoggingIn (fresh (record { 0 = 1 })))

abbrev pub closed_link : ℕ → Link
closed_link n = link_at n no_bytes standing.Closed

-- a connection whose bytes are being served: in its place stands a closed one
abbrev pub aside : ℕ → Target → Target
aside n t = with_links t (placed (closed_link n) t.links)

-- the name of an initiator port: the initiator's name, and behind it the ISID
abbrev pub nexus_of : Who → List ℕ
nexus_of who = who.initiator ++ who.isid

abbrev pub limits_of : Params → Limits
limits_of params = record { max_send = params.max_send; max_burst = params.max_burst; first_burst = params.first_burst }

-- the session that a login opened
abbrev pub session_of : NewSession → Session
session_of s = new_session (nexus_of s.who) s.who.discovers (limits_of s.params) (record { exp = s.exp; stat = s.stat })

-- session reinstatement (RFC 7143, section 6.3.5): a living session of the same initiator port is ended
abbrev pub ended_standing : List ℕ → Standing → Standing
ended_standing nexus (standing.Serving v) = if bytes_eq v.session.nexus nexus then standing.Ended else standing.Serving v
ended_standing nexus s = s

abbrev pub ended_by : List ℕ → Link → Link
ended_by nexus l = record { number = l.number; splitter = l.splitter; standing = ended_standing nexus l.standing }

-- a reset ends tasks of all sessions (SAM-5, section 7.7). The commands of another session that stood behind these alone are executed at
-- once, and their replies are owed
pub record Learned : Type 0 where
  pub units : List LogicalUnit
  pub standing : Standing

-- a session from whose tasks these are spared
abbrev pub learned_by : Serving → List LogicalUnit → List Task → Learned
learned_by v units tasks = record {
  units = (woken v.session.nexus units tasks).units;
  standing = standing.Serving (record {
    session = with_tasks v.session (unready tasks);
    held = v.held;
    owed = v.owed ++ (woken v.session.nexus units tasks).owed;
  });
}

abbrev pub learned : Reset → List LogicalUnit → Standing → Learned
learned reset units (standing.Serving v) = learned_by v units (spared reset v.session.tasks)
learned reset units s = record { units = units; standing = s }

-- the units and the connections behind resets
pub record Reached : Type 0 where
  pub units : List LogicalUnit
  pub links : List Link

abbrev pub reached_behind : Link → Reached → Reached
reached_behind l r = record { units = r.units; links = l ∷ r.links }

-- all connections learn of a reset, one after another
abbrev pub reset_each : Reset → List LogicalUnit → List Link → Reached
reset_each reset units [] = record { units = units; links = [] }
reset_each reset units (l ∷ ls) =
    reached_behind (link_at l.number l.splitter (learned reset units l.standing).standing)
    (reset_each reset (learned reset units l.standing).units ls)

-- and of resets, in order
abbrev pub reset_links : List Reset → List LogicalUnit → List Link → Reached
reset_links [] units links = record { units = units; links = links }
reset_links (reset ∷ resets) units links = reset_links resets (reset_each reset units links).units (reset_each reset units links).links
