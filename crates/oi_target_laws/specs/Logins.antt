-- The login of each connection since the target was made.
use Rattle.std.specs.Prelude.{◌≡◌, ℕ, false, Option, Some, None, List, [], ◌∷◌, ◌==◌, if◌then◌else◌}
use Rattle.oi_pdu.specs.declared.codec.Pdu.{Pdu}
use Rattle.oi_target.specs.Events.{Event, Joined, Left, Whole, state_after}
use Rattle.oi_target.specs.Shown.{HasProved, Heard, login_after}
use Rattle.oi_target.specs.Targets.{Target, link_of, nexus_of, rules_of}
use Rattle.oi_target.specs.declared.config.TargetConfig.{TargetConfig}
use Rattle.oi_target.specs.declared.link.Link.{Link}
use Rattle.oi_target.specs.declared.link.Serving.{Serving}
use Rattle.oi_target.specs.declared.link.Standing.TheVariants as standing
use Rattle.oi_target_laws.specs.Histories.{standing_in}
use Rattle.oi_target_laws.specs.Numbers.{event_opened}
use Rattle.oi_target_login.specs.declared.config.ChapConfig.{ChapConfig}
use Rattle.oi_target_login.specs.declared.progress.Progress.{Progress}
use Rattle.oi_target_login.specs.declared.progress.Who.{Who}

-- a PDU, and what the target has as it comes
abbrev pub heard_as : Target → Pdu → Heard
heard_as t p = record { handle = t.handle; words = t.words; pdu = p }

-- nothing was heard of a new connection
abbrev pub begun : Option Link → List Heard → List Heard
begun None hs = []
begun (Some l) hs = hs

-- what was heard of connection n as an event happens
abbrev pub event_heard : ℕ → Target → Event → List Heard → List Heard
event_heard n t (Joined m) hs = if m == n then begun (link_of m t.links) hs else hs
event_heard n t (Left m) hs = if m == n then [] else hs
event_heard n t (Whole m p) hs = if m == n then heard_as t p ∷ hs else hs
event_heard n t e hs = hs

-- the PDUs of a connection since it was accepted, of which the newest stands first
abbrev pub heard_on : ℕ → TargetConfig → List Event → List Heard
heard_on n c [] = []
heard_on n c (e ∷ es) = event_heard n (state_after c es) e (heard_on n c es)

-- those as a session opens, or the ones before
abbrev pub opened_at : Option ℕ → List Heard → List Heard → List Heard
opened_at None hs was = was
opened_at (Some first) hs was = hs

-- those with which its login opened its session
abbrev pub opened_on : ℕ → TargetConfig → List Event → List Heard
opened_on n c [] = []
opened_on n c (e ∷ es) = opened_at (event_opened n (state_after c es) e) (heard_on n c (e ∷ es)) (opened_on n c es)

-- a login that goes on is a function of the PDUs of its connection, and of what the target had at each
abbrev pub LoginsAreHeard : Type 0
LoginsAreHeard =
    (n : ℕ) (c : TargetConfig) (es : List Event) (p : Progress) → standing_in n (state_after c es).links ≡ standing.LoggingIn p
    → p ≡ login_after (rules_of c) (heard_on n c es)

-- at a target that asks for CHAP a normal session is that of an initiator which, in the login that led to it, was challenged and gave the
-- right answer (RFC 7143, section 12.1.3)
abbrev pub ServedHaveProved : Type 0
ServedHaveProved =
    (n : ℕ) (c : TargetConfig) (es : List Event) (chap : ChapConfig) (v : Serving) → c.chap ≡ Some chap
    → standing_in n (state_after c es).links ≡ standing.Serving v → v.session.discovers ≡ false
    → (who : Who) × (v.session.nexus ≡ nexus_of who) × HasProved (rules_of c) chap who (opened_on n c es)
