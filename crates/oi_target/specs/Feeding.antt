-- What a piece of a connection's bytes does.
use Rattle.std.specs.Prelude.{◌≡◌, ℕ, Bool, true, false, Option, Some, None, List, [], ◌∷◌, ◌++◌, Result, Ok, Err, if◌then◌else◌}
use Rattle.std.specs.List.{flat_map}
use Rattle.oi_base.specs.declared.memory.NoMemory.{NoMemory}
use Rattle.oi_pdu.specs.Wire.{encoding}
use Rattle.oi_pdu.specs.declared.codec.Pdu.{Pdu}
use Rattle.oi_stream.specs.Bytewise.{Fed as Framed, fed}
use Rattle.oi_stream.specs.Feeding.{State}
use Rattle.oi_stream.specs.Framing.{Stop, Short}
use Rattle.oi_stream.specs.declared.fault.StreamFault.{StreamFault}
use Rattle.oi_stream.specs.declared.fault.StreamFault.TheVariants as faults
use Rattle.oi_target.specs.Steps.{Step, faulted, step_of, steps}
use Rattle.oi_target.specs.Targets.{Target, aside, link_at, link_of, new_link, no_bytes, placed, with_links}
use Rattle.oi_target.specs.declared.link.Link.{Link}
use Rattle.oi_target.specs.declared.link.Standing.{Standing}
use Rattle.oi_target.specs.declared.link.Standing.TheVariants as standing
use Rattle.oi_target_session.specs.declared.fed.Fed.{Fed}
use Rattle.oi_target_session.specs.declared.fed.Fed.TheVariants.{Going, Closed}

-- PDUs on the wire, one after another
abbrev pub wire : List Pdu → List ℕ
wire pdus = flat_map encoding pdus

-- what is kept of a connection's bytes, the PDUs that became whole, and whether a malformed one follows them
pub record Cut : Type 0 where
  pub state : State
  pub pdus : List Pdu
  pub fault : Bool

-- nothing is kept behind a malformed PDU
abbrev pub cut_by : Framed → Stop → Cut
cut_by f Short = record { state = f.state; pdus = f.pdus; fault = false }
cut_by f stop = record { state = no_bytes; pdus = f.pdus; fault = true }

-- a splitter that has ended had a malformed one before
abbrev pub cut_of : State → List ℕ → Cut
cut_of s piece = if s.ended then record { state = no_bytes; pdus = []; fault = true } else cut_by (fed s piece) (fed s piece).stop

-- the splitter's answer says whether a malformed PDU follows
abbrev pub IsCutBy : Result (Unit {0}) StreamFault → Bool → Type 0
IsCutBy (Ok u) fault = fault ≡ false
IsCutBy (Err faults.Memory) fault = ⊥
IsCutBy (Err e) fault = fault ≡ true

-- a connection that was aside stands in its place again
abbrev pub put_back : ℕ → State → Step → Target
put_back n splitter s = with_links s.target (placed (link_at n splitter s.standing) s.target.links)

-- the target afterwards, what is sent on the connection, and whether it stays
pub record Taken : Type 0 where
  pub target : Target
  pub sent : List Pdu
  pub fed : Fed

abbrev pub unanswered : Target → Fed → Taken
unanswered t fed = record { target = t; sent = []; fed = fed }

-- of a connection that is open
abbrev pub taken_step : Target → ℕ → State → Step → Taken
taken_step t n splitter s = record { target = put_back n splitter s; sent = s.sent; fed = s.fed }

abbrev pub taken_open : Target → ℕ → Standing → Cut → Taken
taken_open t n s c = taken_step t n c.state (faulted c.fault (steps t s c.pdus))

-- of a connection whose session was ended by another one of the same initiator port: bytes close it, and have no other effect
abbrev pub taken_ended : Target → ℕ → State → List ℕ → Taken
taken_ended t n splitter [] = unanswered (put_back n splitter (step_of t standing.Ended [] Going)) Going
taken_ended t n splitter (b ∷ bs) = unanswered t Closed

-- of a connection that is aside
abbrev pub taken_by : Target → ℕ → State → Standing → List ℕ → Taken
taken_by t n splitter standing.Ended piece = taken_ended t n splitter piece
taken_by t n splitter standing.Closed piece = unanswered t Closed
taken_by t n splitter s piece = taken_open t n s (cut_of splitter piece)

-- there is nothing to do for a connection that is not there
abbrev pub taken_of : Target → ℕ → Option Link → List ℕ → Taken
taken_of t n None piece = unanswered t Closed
taken_of t n (Some l) piece = taken_by (aside n t) n l.splitter l.standing piece

abbrev pub taken : Target → ℕ → List ℕ → Taken
taken t n piece = taken_of t n (link_of n t.links) piece

-- the answer to a piece. After want of memory the target answers nothing else
pub record IsTaken (old : Target) (n : ℕ) (piece before after : List ℕ) (fed : Fed) (new : Target) : Type 0 where
  pub whole : old.broken ≡ false
  pub target : new ≡ (taken old n piece).target
  pub out : after ≡ before ++ wire (taken old n piece).sent
  pub fed_is : fed ≡ (taken old n piece).fed

abbrev pub Feeds : Target → ℕ → List ℕ → List ℕ → List ℕ → Result Fed NoMemory → Target → Type 0
Feeds old n piece before after (Ok fed) new = IsTaken old n piece before after fed new
Feeds old n piece before after (Err e) new = (new.broken ≡ true) × (after ≡ before)

-- a new connection
abbrev pub with_new : Target → ℕ → Target
with_new t n = with_links t (t.links ++ new_link n ∷ [])

abbrev pub Connects : Target → ℕ → Result (Unit {0}) NoMemory → Target → Type 0
Connects old n (Ok u) new = (old.broken ≡ false) × (new ≡ with_new old n)
Connects old n (Err e) new = new ≡ old
