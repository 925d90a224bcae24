-- What a net tells, and what its calls answer.
use Rattle.std.specs.Prelude.{◌≡◌, ◌<◌, ℕ, Bool, true, false, List, [], ◌∷◌, ◌++◌, length, map, filter, if◌then◌else◌, Option, Some, Result, Ok, Err}
use Rattle.std.specs.List.{All}
use Rattle.std.specs.Option.{option_map}
use Rattle.std.specs.Str.{bytes_eq}
use Rattle.oi_base.specs.Counts.{Rose}
use Rattle.oi_outside.specs.declared.net_error.NetError.{NetError}
use Rattle.oi_outside.specs.declared.net_error.NetError.TheVariants.{Failed, Memory}
use Rattle.oi_outside.specs.declared.link_name.LinkName.{LinkName}
use Rattle.oi_outside.specs.ReadLinks.{ReadHalf, new_read_half}
use Rattle.oi_outside.specs.WriteLinks.{WriteHalf, new_write_half}

-- a dialled connection that waits to be accepted: its portal, and the number of its dial
pub record Waiting : Type 0 where
  pub portal : List ℕ
  pub dial : ℕ

-- a link that was given back: its name, and what its halves told then
pub record Returned : Type 0 where
  pub name : LinkName
  pub read : Option ReadHalf
  pub write : Option WriteHalf

-- What a net tells: for each dial that answered a link its portal, in order, so that a dial's number is its place; the
-- numbers of the links that were accepted, in order; the dialled connections that wait, in the order of their dials; the
-- links that were given back, in order
pub record NetState : Type 0 where
  pub dialled : List (List ℕ)
  pub accepted : List ℕ
  pub waiting : List Waiting
  pub returned : List Returned

-- the connection waits at the portal
abbrev pub waits_at : List ℕ → Waiting → Bool
waits_at portal w = bytes_eq w.portal portal

-- the numbers of the dialled connections that wait at a portal, the first one first
abbrev pub waiting_at : List ℕ → List Waiting → List ℕ
waiting_at portal ws = map (λ w. w.dial) (filter (waits_at portal) ws)

-- the list without the first element that passes the test
abbrev pub without_first : {X : Type 0} → (X → Bool) → List X → List X
without_first test [] = []
without_first test (x ∷ xs) = if test x then xs else x ∷ without_first test xs

-- the connections that wait, where a dial adds its own at the end, or none
abbrev pub with_dialled : Bool → List ℕ → ℕ → List Waiting → List Waiting
with_dialled adds portal dial ws = if adds then ws ++ record { portal = portal; dial = dial } ∷ [] else ws

-- a net after a dial at a portal that answered a link
abbrev pub after_dial : Bool → List ℕ → NetState → NetState
after_dial adds portal s = record s { dialled = s.dialled ++ portal ∷ []; waiting = with_dialled adds portal (length s.dialled) s.waiting }

-- a net after an accept at a portal that answered the link with this number
abbrev pub after_accept : List ℕ → ℕ → NetState → NetState
after_accept portal dial s = record s { accepted = s.accepted ++ dial ∷ []; waiting = without_first (waits_at portal) s.waiting }

-- a net after a link was given back
abbrev pub after_return : LinkName → Option ReadHalf → Option WriteHalf → NetState → NetState
after_return name read write s = record s { returned = s.returned ++ record { name = name; read = read; write = write } ∷ [] }

-- A dial that answered a link: its halves are new and tell the next number, and the net has the portal, and the
-- connection among those that wait, or not
pub record Dials (read : Option ReadHalf) (write : Option WriteHalf) (portal : List ℕ) (old new : Option NetState) : Type 0 where
  pub read_half : read ≡ option_map (λ s. new_read_half (length s.dialled) false) old
  pub write_half : write ≡ option_map (λ s. new_write_half (length s.dialled) false) old
  pub adds : Bool
  pub net : new ≡ option_map (after_dial adds portal) old

-- An accept that answered a link: it is the first of those that wait at the portal, its halves are new and tell its
-- number, and it waits no more
pub record Accepts (read : Option ReadHalf) (write : Option WriteHalf) (portal : List ℕ) (old new : Option NetState) : Type 0 where
  pub dial : ℕ
  pub first : (s : NetState) → old ≡ Some s → (behind : List ℕ) × (waiting_at portal s.waiting ≡ dial ∷ behind)
  pub read_half : read ≡ option_map (λ s. new_read_half dial true) old
  pub write_half : write ≡ option_map (λ s. new_write_half dial true) old
  pub net : new ≡ option_map (after_accept portal dial) old

-- where the net tells, the numbers that wait are those of dials
abbrev pub AreDialled : Option NetState → Type 0
AreDialled o = (s : NetState) → o ≡ Some s → All (λ w. w.dial < length s.dialled) s.waiting

-- where the net tells, no connection waits at the portal
abbrev pub NoneWaits : List ℕ → Option NetState → Type 0
NoneWaits portal o = (s : NetState) → o ≡ Some s → waiting_at portal s.waiting ≡ []

-- the count of faults rose exactly where the call failed; want of memory is no fault
abbrev pub IsNetCounted : {T : Type 0} → Result T NetError → ℕ → ℕ → Type 0
IsNetCounted (Ok x) before now = now ≡ before
IsNetCounted (Err Failed) before now = Rose before now
IsNetCounted (Err Memory) before now = now ≡ before

-- the call failed
abbrev pub net_failed : {T : Type 0} → Result T NetError → Bool
net_failed (Ok x) = false
net_failed (Err Failed) = true
net_failed (Err Memory) = false
