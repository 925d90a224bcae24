-- PDUs that are sent.
use Rattle.std.specs.Prelude.{Option, Some, None, List, [], ◌∷◌}
use Rattle.oi_pdu.specs.declared.codec.Pdu.{Pdu}

abbrev pub pdus_of : Option Pdu → List Pdu
pdus_of None = []
pdus_of (Some p) = p ∷ []
