-- What a link makes of a piece: the PDUs that became whole, and why its stream ends behind them.
use Rattle.std.specs.Prelude.{◌≡◌, ℕ, List, Some, None, Result, Ok, Err}
use Rattle.oi_base.specs.declared.memory.NoMemory.{NoMemory}
use Rattle.oi_drive.specs.Worlds.{Link, fault_of, goes_on}
use Rattle.oi_drive.specs.declared.link.Piece.{Piece}
use Rattle.oi_drive.specs.declared.link.Piece.TheVariants.{Ended, Fed}
use Rattle.oi_pdu.specs.declared.codec.Pdu.{Pdu}
use Rattle.oi_stream.specs.Bytewise.{fed}
use Rattle.oi_stream.specs.Feeding.{State}

abbrev pub IsSplit : Link → List ℕ → Result Piece NoMemory → Link → List Pdu → Type 0
IsSplit old bytes (Ok Ended) new pdus = (old ≡ None) × (new ≡ None)
IsSplit old bytes (Ok (Fed fault)) new pdus =
    (state : State) × (old ≡ Some state) × (pdus ≡ (fed state bytes).pdus) × (fault ≡ fault_of (fed state bytes).stop) × (new ≡ goes_on (fed state bytes).stop (fed state bytes).state)
IsSplit old bytes (Err e) new pdus = Unit {0}
