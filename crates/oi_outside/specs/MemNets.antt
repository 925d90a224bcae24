-- Nets over memory.
use Rattle.std.specs.Prelude.{◌≡◌, ℕ, Bool, true, false, List, [], ◌∷◌, ◌++◌, length, map, find, remove, slice_get, ◌<◌, MatchOption, if◌then◌else◌, Option, Some, None, Result, Ok, Err}
use Rattle.std.specs.List.{list_any}
use Rattle.std.specs.Str.{bytes_eq}
use Rattle.oi_pipe.specs.Turns.{Reader, Writer, new_reader, new_writer}
use Rattle.oi_outside.specs.Calls.{one_more, is_to_fail}
use Rattle.oi_outside.specs.declared.schedule.Schedule.{Schedule}
use Rattle.oi_outside.specs.declared.schedule.LinkFail.{LinkFail}
use Rattle.oi_outside.specs.declared.given_back.GivenBack.{GivenBack}
use Rattle.oi_outside.specs.declared.link_name.LinkName.{LinkName}
use Rattle.oi_outside.specs.declared.net_error.NetError.{NetError}
use Rattle.oi_outside.specs.declared.net_error.NetError.TheVariants.{Failed, Memory}
use Rattle.oi_outside.specs.Nets.{NetState, Waiting, Returned, without_first}
use Rattle.oi_outside.specs.MemLinks.{ReadingEnd, read_half, failing_calls}
use Rattle.oi_outside.specs.MemWrites.{WritingEnd, write_half, closed}

-- each of the two pipes of a link has room for so many bytes
abbrev pub link_room : ℕ
link_room = 65536

-- the other end of a dialled link, which waits to be accepted: its portal, the number of the dial, and its halves of the two pipes
pub record FarEnd : Type 0 where
  pub portal : List ℕ
  pub dial : ℕ
  pub read : Reader
  pub write : Writer

-- a net over memory: how it holds links up, the numbers of its calls that fail, the calls of links that fail, the number of
-- its next call, its two counts of faults, the portals that are listened to, the portals of the dials that answered a link,
-- the numbers of the links that were accepted, the ends that wait, and the links that were given back
pub record MemNetwork : Type 0 where
  pub schedule : Schedule
  pub fails : List ℕ
  pub link_fails : List LinkFail
  pub calls : ℕ
  pub faults : ℕ
  pub accept_faults : ℕ
  pub listens : List (List ℕ)
  pub dialled : List (List ℕ)
  pub accepted : List ℕ
  pub ends : List FarEnd
  pub returned : List (GivenBack ReadingEnd WritingEnd)

-- what a net tells of an end that waits
abbrev pub waiting_of : FarEnd → Waiting
waiting_of e = record { portal = e.portal; dial = e.dial }

-- what a net tells of a link that was given back
abbrev pub returned_of : GivenBack ReadingEnd WritingEnd → Returned
returned_of g = record { name = g.link; read = Some (read_half g.read); write = Some (write_half g.write) }

-- what a net over memory tells
abbrev pub mem_state : MemNetwork → NetState
mem_state s = record { dialled = s.dialled; accepted = s.accepted; waiting = map waiting_of s.ends; returned = map returned_of s.returned }

-- somebody listens at the portal
abbrev pub is_listened : List (List ℕ) → List ℕ → Bool
is_listened listens portal = list_any (λ p. bytes_eq p portal) listens

-- the portals that are listened to, with one more
abbrev pub with_portal : List (List ℕ) → List ℕ → List (List ℕ)
with_portal listens portal = if is_listened listens portal then listens else listens ++ portal ∷ []

-- the end waits at the portal
abbrev pub is_at : List ℕ → FarEnd → Bool
is_at portal e = bytes_eq e.portal portal

-- the next call is one that fails
abbrev pub is_failing : MemNetwork → Bool
is_failing s = is_to_fail s.fails s.calls

-- a call was numbered
abbrev pub called : MemNetwork → MemNetwork
called s = record s { calls = one_more s.calls }

-- a listen or a dial was numbered, and failed
abbrev pub call_failed : MemNetwork → MemNetwork
call_failed s = record s { calls = one_more s.calls; faults = one_more s.faults }

-- an accept was numbered, and failed
abbrev pub accept_failed : MemNetwork → MemNetwork
accept_failed s = record s { calls = one_more s.calls; accept_faults = one_more s.accept_faults }

-- what a listen leaves
abbrev pub after_listen : Result (Unit {0}) NetError → List ℕ → MemNetwork → MemNetwork
after_listen (Ok x) portal s = record (called s) { listens = with_portal s.listens portal }
after_listen (Err Failed) portal s = call_failed s
after_listen (Err Memory) portal s = called s

-- the halves of a link without a call, with these halves of its pipes. Half 0 and 1 are those of the side that dialled, 2
-- and 3 those of the side that accepted
abbrev pub new_reading : MemNetwork → ℕ → Bool → ℕ → Reader → ReadingEnd
new_reading s dial accepted half pipe = record { dial = dial; accepted = accepted; pipe = pipe; schedule = s.schedule; fails = failing_calls s.link_fails dial half; answers = []; faults = 0 }

abbrev pub new_writing : MemNetwork → ℕ → Bool → ℕ → Writer → WritingEnd
new_writing s dial accepted half pipe = record { dial = dial; accepted = accepted; pipe = pipe; schedule = s.schedule; fails = failing_calls s.link_fails dial half; answers = []; faults = 0 }

-- the other end of a link: it reads from the pipe that this one writes to, and writes to the one that this one reads from
abbrev pub far_end : List ℕ → ℕ → ReadingEnd → WritingEnd → FarEnd
far_end portal dial read write = record { portal = portal; dial = dial; read = new_reader write.pipe.pipe link_room; write = new_writer read.pipe.pipe link_room }

-- A dial that answers a link: it is the next one, with new pipes, and its other end waits behind the others
pub record Connects (portal : List ℕ) (old new : MemNetwork) (read : ReadingEnd) (write : WritingEnd) : Type 0 where
  pub read_half : read ≡ new_reading old (length old.dialled) false 0 (new_reader read.pipe.pipe link_room)
  pub write_half : write ≡ new_writing old (length old.dialled) false 1 (new_writer write.pipe.pipe link_room)
  pub net : new ≡ record old { dialled = old.dialled ++ portal ∷ []; ends = old.ends ++ far_end portal (length old.dialled) read write ∷ [] }

-- nothing has gone through the pipes of an end that waits
abbrev pub IsFresh : FarEnd → Type 0
IsFresh e = (e.read ≡ new_reader e.read.pipe link_room) × (e.write ≡ new_writer e.write.pipe link_room)

-- An accept that answers a link: it is the first end that waits at the portal, with the pipes of its dial
pub record TakesEnd (portal : List ℕ) (old new : MemNetwork) (read : ReadingEnd) (write : WritingEnd) : Type 0 where
  pub end : FarEnd
  pub first : find (is_at portal) old.ends ≡ Some end
  pub fresh : IsFresh end
  pub read_half : read ≡ new_reading old end.dial true 2 end.read
  pub write_half : write ≡ new_writing old end.dial true 3 end.write
  pub net : new ≡ record old { accepted = old.accepted ++ end.dial ∷ []; ends = without_first (is_at portal) old.ends }

-- where the first end that waits at the portal stands, if there is one
abbrev pub IsPlaceAt : List ℕ → List FarEnd → Option ℕ → Type 0
IsPlaceAt portal ends o =
    MatchOption o (find (is_at portal) ends ≡ None)
    (λ at. (end : FarEnd) × (find (is_at portal) ends ≡ Some end) × (at < length ends) × (slice_get ends at ≡ Some end) × (remove ends at ≡ without_first (is_at portal) ends))

-- an accept that finds no end at the portal
abbrev pub FindsNone : List ℕ → MemNetwork → MemNetwork → Type 0
FindsNone portal old new = (find (is_at portal) old.ends ≡ None) × (new ≡ old)

-- what a dial does; the calls of a link begin with none
abbrev pub IsDialled : Result (ReadingEnd × WritingEnd) NetError → List ℕ → MemNetwork → MemNetwork → Type 0
IsDialled (Ok link) portal old new = Connects portal (called old) new link.0 link.1
IsDialled (Err Failed) portal old new = new ≡ call_failed old
IsDialled (Err Memory) portal old new = new ≡ called old

-- what an accept does
abbrev pub IsAccepted : Result (Option (ReadingEnd × WritingEnd)) NetError → List ℕ → MemNetwork → MemNetwork → Type 0
IsAccepted (Ok None) portal old new = FindsNone portal (called old) new
IsAccepted (Ok (Some link)) portal old new = TakesEnd portal (called old) new link.0 link.1
IsAccepted (Err Failed) portal old new = new ≡ accept_failed old
IsAccepted (Err Memory) portal old new = new ≡ called old

-- what a link that is given back leaves: its writing half is closed
abbrev pub after_give_back : LinkName → ReadingEnd → WritingEnd → MemNetwork → MemNetwork
after_give_back name read write s = record s { returned = s.returned ++ record { link = name; read = read; write = closed write } ∷ [] }
