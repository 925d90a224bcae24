use Rattle.oi_pdu.proofs.RoundTrip.{encoded_decodes}
use Rattle.oi_pdu.proofs.laws.encoded_decodes.Goals as goal

pub returns : goal.returns
returns c = encoded_decodes
