-- A target over all calls so far, which did not want memory.
use Rattle.std.specs.Prelude.{◌≡◌, ℕ, Bool, true, false, Option, Some, None, List, [], ◌∷◌, ◌++◌, ◌==◌, if◌then◌else◌}
use Rattle.oi_pdu.specs.declared.codec.Pdu.{Pdu}
use Rattle.oi_sendtargets.specs.declared.found.Found.{Found}
use Rattle.oi_stream.specs.Bytewise.{Fed as Framed, fed, waits}
use Rattle.oi_stream.specs.Feeding.{State}
use Rattle.oi_stream.specs.Framing.{Stop, Short, Frames}
use Rattle.oi_target.specs.Events.{Event, Joined, Left, Told, Whole, Malformed, bare, pdus_on, sent_to, state_after}
use Rattle.oi_target.specs.Feeding.{taken, wire, with_new}
use Rattle.oi_target.specs.Targets.{Target, link_of, new_target, no_bytes, with_links, without}
use Rattle.oi_target.specs.declared.config.TargetConfig.{TargetConfig}
use Rattle.oi_target.specs.declared.link.Link.{Link}
use Rattle.oi_target.specs.declared.link.Standing.{Standing}
use Rattle.oi_target.specs.declared.link.Standing.TheVariants as standing
use Rattle.oi_target_session.specs.declared.fed.Fed.{Fed}
use Rattle.oi_target_session.specs.declared.fed.Fed.TheVariants.{Going, Closed}

-- the calls: `connected`, `gone`, `list`, and `feed` with its bytes
pub data Call : Type 0 where
  Connected : (n : ℕ) → Call
  Gone : (n : ℕ) → Call
  Listed : (listing : List Found) → Call
  Piece : (n : ℕ) → (piece : List ℕ) → Call

-- what each of them does, as its contract says
abbrev pub after : Target → Call → Target
after t (Connected n) = with_new t n
after t (Gone n) = with_links t (without n t.links)
after t (Listed listing) = record t { listing = listing }
after t (Piece n piece) = (taken t n piece).target

-- the target after all calls since it was made, of which the newest stands first
abbrev pub course : TargetConfig → List Call → Target
course c [] = new_target c
course c (call ∷ calls) = after (course c calls) call

-- what they wrote on a connection
abbrev pub written_on : ℕ → TargetConfig → List Call → List ℕ
written_on k c [] = []
written_on k c (Piece n piece ∷ calls) = written_on k c calls ++ (if n == k then wire (taken (course c calls) n piece).sent else [])
written_on k c (call ∷ calls) = written_on k c calls

-- the bytes that came on a connection since it was accepted
abbrev pub bytes_on : ℕ → List Call → List ℕ
bytes_on k [] = []
bytes_on k (Connected n ∷ calls) = if n == k then [] else bytes_on k calls
bytes_on k (Piece n piece ∷ calls) = if n == k then bytes_on k calls ++ piece else bytes_on k calls
bytes_on k (call ∷ calls) = bytes_on k calls

-- their PDUs, and why no further one follows
abbrev pub framed_on : ℕ → List Call → Framed
framed_on n calls = fed no_bytes (bytes_on n calls)

-- the PDUs that a further piece makes whole; behind a stop no byte counts
abbrev pub news_by : Stop → State → List ℕ → Framed
news_by Short s piece = fed s piece
news_by stop s piece = waits s

abbrev pub news : ℕ → List ℕ → List Call → Framed
news n piece calls = news_by (framed_on n calls).stop (framed_on n calls).state piece

-- they became whole one after another
abbrev pub came : ℕ → List Pdu → List Event → List Event
came n [] es = es
came n (p ∷ ps) es = came n ps (Whole n p ∷ es)

abbrev pub spoilt : ℕ → Stop → List Event → List Event
spoilt n Short es = es
spoilt n stop es = Malformed n ∷ es

abbrev pub arrived : ℕ → Framed → List Event → List Event
arrived n f es = spoilt n f.stop (came n f.pdus es)

-- what the calls are to the target: connections that were accepted or are gone, listings, and the PDUs of each connection in the order
-- in which they became whole
abbrev pub events_of : List Call → List Event
events_of [] = []
events_of (Connected n ∷ calls) = Joined n ∷ events_of calls
events_of (Gone n ∷ calls) = Left n ∷ events_of calls
events_of (Listed listing ∷ calls) = Told listing ∷ events_of calls
events_of (Piece n piece ∷ calls) = arrived n (news n piece calls) (events_of calls)

-- a number that was given to a connection
abbrev pub is_given : ℕ → List Call → Bool
is_given n [] = false
is_given n (Connected m ∷ calls) = if m == n then true else is_given n calls
is_given n (call ∷ calls) = is_given n calls

-- each connection had a number that was not given before
abbrev pub AreNumbered : List Call → Type 0
AreNumbered [] = Unit {0}
AreNumbered (Connected n ∷ calls) = (is_given n calls ≡ false) × AreNumbered calls
AreNumbered (call ∷ calls) = AreNumbered calls

-- a target is a function of these events alone, up to bytes of which no PDU was made yet
abbrev pub CoursesAreEvents : Type 0
CoursesAreEvents = (c : TargetConfig) (calls : List Call) → AreNumbered calls → bare (course c calls) ≡ state_after c (events_of calls)

-- and so is what it writes on each connection
abbrev pub WritesAreOfEvents : Type 0
WritesAreOfEvents =
    (c : TargetConfig) (calls : List Call) (k : ℕ) → AreNumbered calls → written_on k c calls ≡ wire (sent_to k c (events_of calls))

-- whether a connection stays
abbrev pub stays_at : Standing → Fed
stays_at (standing.LoggingIn p) = Going
stays_at (standing.Serving v) = Going
stays_at s = Closed

abbrev pub stays : Option Link → Fed
stays None = Closed
stays (Some l) = stays_at l.standing

-- bytes are answered Closed exactly where the events have closed the connection, or it is not there
abbrev pub ClosesByEvents : Type 0
ClosesByEvents =
    (c : TargetConfig) (calls : List Call) (n b : ℕ) (bs : List ℕ) → AreNumbered calls
    → (taken (course c calls) n (b ∷ bs)).fed ≡ stays (link_of n (state_after c (events_of (Piece n (b ∷ bs) ∷ calls))).links)

-- a piece in two parts makes the same events as in one, so that what comes later, too, has the same effect
abbrev pub CutsDoNotMatter : Type 0
CutsDoNotMatter =
    (n : ℕ) (x y : List ℕ) (calls : List Call) → events_of (Piece n y ∷ Piece n x ∷ calls) ≡ events_of (Piece n (x ++ y) ∷ calls)

-- the PDUs of a connection are the framing of all its bytes, whatever comes on others
pub record AreFramed (bytes : List ℕ) (pdus : List Pdu) : Type 0 where
  pub place : ℕ
  pub stop : Stop
  pub frames : Frames 65536 bytes pdus place stop

abbrev pub PdusAreFramed : Type 0
PdusAreFramed = (n : ℕ) (calls : List Call) → AreFramed (bytes_on n calls) (pdus_on n (events_of calls))
