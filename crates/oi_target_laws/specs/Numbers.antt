-- The numbers of the PDUs of a session (CmdSN; RFC 7143, section 4.2.2.1): each is the one behind that of the PDU before it.
use Rattle.std.specs.Prelude.{◌≡◌, ◌<◌, ◌^◌, ◌||◌, ℕ, Bool, not, Option, Some, None, List, [], ◌∷◌, ◌++◌, ◌==◌, if◌then◌else◌, option_to_list}
use Rattle.std.specs.List.{flat_map}
use Rattle.oi_base.specs.Serials.{distance, successor}
use Rattle.oi_pdu.specs.declared.codec.Pdu.{Pdu}
use Rattle.oi_pdu.specs.declared.header.Header.{Header}
use Rattle.oi_pdu.specs.declared.header.Header.TheVariants as head
use Rattle.oi_target.specs.Events.{Event, Whole, state_after}
use Rattle.oi_target.specs.Targets.{Target, aside, link_of}
use Rattle.oi_target.specs.declared.config.TargetConfig.{TargetConfig}
use Rattle.oi_target.specs.declared.link.Link.{Link}
use Rattle.oi_target.specs.declared.link.Serving.{Serving}
use Rattle.oi_target.specs.declared.link.Standing.{Standing}
use Rattle.oi_target.specs.declared.link.Standing.TheVariants as standing
use Rattle.oi_target_laws.specs.Histories.{event_turns, standing_in, turns_on}
use Rattle.oi_target_laws.specs.Turned.{Turned}
use Rattle.oi_target_login.specs.Logins.{turned}
use Rattle.oi_target_login.specs.declared.answer.Verdict.{Verdict}
use Rattle.oi_target_login.specs.declared.answer.Verdict.TheVariants as verdict

-- immediate PDUs take no number
abbrev pub number_by : Bool → ℕ → Option ℕ
number_by immediate number = if immediate then None else Some number

-- the number that a PDU takes; Data-Out takes none, nor does a PDU that has no place in the session
abbrev pub number_of : Bool → Header → Option ℕ
number_of discovers (head.NopOut h) = number_by h.immediate h.cmdsn.0
number_of discovers (head.ScsiCommand h) = number_by (h.immediate || discovers) h.cmdsn.0
number_of discovers (head.TaskManagement h) = number_by (h.immediate || discovers) h.cmdsn.0
number_of discovers (head.LogoutRequest h) = number_by h.immediate h.cmdsn.0
number_of discovers (head.TextRequest h) = number_by (h.immediate || not discovers) h.cmdsn.0
number_of discovers h = None

-- that of a PDU that had its turn, if any
abbrev pub numbers_in : Turned → List ℕ
numbers_in t = option_to_list (number_of t.session.discovers t.pdu.head)

-- the ExpCmdSN with which a login opens a session
abbrev pub opened_by : Verdict → Option ℕ
opened_by (verdict.Done s) = Some s.exp.0
opened_by v = None

-- as a PDU comes
abbrev pub step_opened : Target → Standing → Pdu → Option ℕ
step_opened t (standing.LoggingIn p) pdu = opened_by (turned t.rules t.handle p pdu t.words).answer.verdict
step_opened t s pdu = None

-- on a connection that is there
abbrev pub link_opened : Target → ℕ → Option Link → Pdu → Option ℕ
link_opened t m None p = None
link_opened t m (Some l) p = step_opened (aside m t) l.standing p

-- as an event happens, on connection n
abbrev pub event_opened : ℕ → Target → Event → Option ℕ
event_opened n t (Whole m p) = if m == n then link_opened t m (link_of m t.links) p else None
event_opened n t e = None

-- it, or the one before
abbrev pub first_by : Option ℕ → ℕ → ℕ
first_by None was = was
first_by (Some first) was = first

-- the ExpCmdSN with which the newest session of a connection was opened
abbrev pub first_on : ℕ → TargetConfig → List Event → ℕ
first_on n c [] = 0
first_on n c (e ∷ es) = first_by (event_opened n (state_after c es) e) (first_on n c es)

-- a new session has had no turns yet
abbrev pub since : Option ℕ → List Turned → List Turned
since None turns = turns
since (Some first) turns = []

-- its PDUs that had their turn
abbrev pub session_turns : ℕ → TargetConfig → List Event → List Turned
session_turns n c [] = []
session_turns n c (e ∷ es) = since (event_opened n (state_after c es) e) (session_turns n c es) ++ event_turns n (state_after c es) e

-- their numbers
abbrev pub numbers_on : ℕ → TargetConfig → List Event → List ℕ
numbers_on n c es = flat_map numbers_in (session_turns n c es)

-- what had its turn before them
pub record AreLast (n : ℕ) (c : TargetConfig) (es : List Event) : Type 0 where
  pub before : List Turned
  pub split : turns_on n c es ≡ before ++ session_turns n c es

-- these are the last of all PDUs of the connection that had their turn; those before are of sessions that were opened earlier under its
-- number
abbrev pub TurnsAreLast : Type 0
TurnsAreLast = (n : ℕ) (c : TargetConfig) (es : List Event) → AreLast n c es

-- two numbers are the same one of 32 bits
abbrev pub IsSame : ℕ → ℕ → Type 0
IsSame a b = distance a b ≡ 0

-- the numbers follow one another, from this one on
abbrev pub Succeed : ℕ → List ℕ → Type 0
Succeed first [] = Unit {0}
Succeed first (k ∷ ks) = IsSame first k × Succeed (successor first) ks

-- the number behind them
abbrev pub behind_all : ℕ → List ℕ → ℕ
behind_all first [] = first
behind_all first (k ∷ ks) = behind_all (successor first) ks

-- the PDUs of a session that take a number have their turn in the order of their numbers, with none left out and none twice, from the
-- one on with which the login opened the session
abbrev pub NumbersSucceed : Type 0
NumbersSucceed = (n : ℕ) (c : TargetConfig) (es : List Event) → Succeed (first_on n c es) (numbers_on n c es)

-- and the session expects the one behind the last
abbrev pub NextIsExpected : Type 0
NextIsExpected =
    (n : ℕ) (c : TargetConfig) (es : List Event) (v : Serving) → standing_in n (state_after c es).links ≡ standing.Serving v
    → v.session.numbers.exp.0 ≡ behind_all (first_on n c es) (numbers_on n c es)

-- numbers below 2^32 are the same one only where they are equal
abbrev pub SameAreEqual : Type 0
SameAreEqual = (a b : ℕ) → a < 2 ^ 32 → b < 2 ^ 32 → IsSame a b → a ≡ b
