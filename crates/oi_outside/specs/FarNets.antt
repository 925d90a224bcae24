-- A net whose far side follows scripts of bytes.
use Rattle.std.specs.Prelude.{◌≡◌, ℕ, false, ◌==◌, List, [], ◌∷◌, ◌++◌, length, drop, map, min, if◌then◌else◌, Some, None, Result, Ok, Err}
use Rattle.std.specs.List.{last_or}
use Rattle.oi_outside.specs.declared.link_read.ReadTurn.{ReadTurn}
use Rattle.oi_outside.specs.declared.link_read.ReadTurn.TheVariants.{Got, End}
use Rattle.oi_outside.specs.declared.link_write.WriteTurn.{WriteTurn}
use Rattle.oi_outside.specs.declared.link_write.WriteTurn.TheVariants.{Took}
use Rattle.oi_outside.specs.declared.link_name.LinkName.{LinkName}
use Rattle.oi_outside.specs.declared.given_back.GivenBack.{GivenBack}
use Rattle.oi_outside.specs.declared.net_error.NetError.{NetError}
use Rattle.oi_outside.specs.declared.net_error.NetError.TheVariants.{Failed, Memory}
use Rattle.oi_outside.specs.ReadLinks.{ReadHalf, with_got}
use Rattle.oi_outside.specs.WriteLinks.{WriteHalf}
use Rattle.oi_outside.specs.Nets.{NetState, Returned}

-- a reading half whose far side follows a script: the number of the dial, the bytes taken, those that are left, and all answers
pub record FarReading : Type 0 where
  pub dial : ℕ
  pub taken : List ℕ
  pub left : List ℕ
  pub answers : List ReadTurn

-- a writing half that takes all: the number of the dial, the bytes given, and all answers
pub record FarWriting : Type 0 where
  pub dial : ℕ
  pub given : List ℕ
  pub answers : List WriteTurn

-- a net of such links: the scripts of the next dials, the portals dialled, and the links given back
pub record FarNetwork : Type 0 where
  pub scripts : List (List ℕ)
  pub dialled : List (List ℕ)
  pub returned : List (GivenBack FarReading FarWriting)

-- what they tell; nobody dials such a net, so none waits there and none is accepted
abbrev pub far_read_half : FarReading → ReadHalf
far_read_half h = record { dial = h.dial; accepted = false; taken = h.taken; calls = length h.answers; last = last_or None h.answers }

abbrev pub far_write_half : FarWriting → WriteHalf
far_write_half h = record { dial = h.dial; accepted = false; given = h.given; calls = length h.answers; last = last_or None h.answers }

abbrev pub far_returned : GivenBack FarReading FarWriting → Returned
far_returned g = record { name = g.link; read = Some (far_read_half g.read); write = Some (far_write_half g.write) }

abbrev pub far_state : FarNetwork → NetState
far_state s = record { dialled = s.dialled; accepted = []; waiting = []; returned = map far_returned s.returned }

-- no call of such a net or of its links fails
abbrev pub no_faults : ℕ
no_faults = 0

-- a read gives at most 16 bytes
abbrev pub far_size : List ℕ → ℕ → ℕ
far_size left room = min (min (length left) room) 16

-- a read answers the end where the script is over
abbrev pub far_turn : List ℕ → ℕ → ReadTurn
far_turn left room = if length left == 0 then End else Got (far_size left room)

-- what a read with this answer leaves of the script
abbrev pub left_after : ReadTurn → List ℕ → List ℕ
left_after (Got n) left = drop n left
left_after turn left = left

-- the half after a read with this answer, which left this buffer
abbrev pub after_far_read : ReadTurn → List ℕ → FarReading → FarReading
after_far_read turn buffer h = record h { taken = with_got turn buffer h.taken; left = left_after turn h.left; answers = h.answers ++ turn ∷ [] }

-- the half after a write of this piece
abbrev pub after_far_write : List ℕ → FarWriting → FarWriting
after_far_write piece h = record h { given = h.given ++ piece; answers = h.answers ++ Took (length piece) ∷ [] }

-- the script of the next dial; past the last one it is empty
abbrev pub next_script : List (List ℕ) → List ℕ
next_script [] = []
next_script (script ∷ scripts) = script

-- what a dial does: the link is the next one, and follows the next script
abbrev pub IsFarDialled : Result (FarReading × FarWriting) NetError → List ℕ → FarNetwork → FarNetwork → Type 0
IsFarDialled (Ok link) portal old new =
    (link.0 ≡ record { dial = length old.dialled; taken = []; left = next_script old.scripts; answers = [] })
    × (link.1 ≡ record { dial = length old.dialled; given = []; answers = [] })
    × (new ≡ record old { scripts = drop 1 old.scripts; dialled = old.dialled ++ portal ∷ [] })
IsFarDialled (Err Failed) portal old new = ⊥
IsFarDialled (Err Memory) portal old new = new ≡ old

abbrev pub after_far_return : LinkName → FarReading → FarWriting → FarNetwork → FarNetwork
after_far_return name read write s = record s { returned = s.returned ++ record { link = name; read = read; write = write } ∷ [] }
