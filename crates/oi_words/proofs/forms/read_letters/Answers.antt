use Rattle.std.proofs.Common.{Ok, Err, None, [], map, sym}
use Rattle.std.specs.String.{string_bytes}
use Rattle.oi_words.proofs.Fronts.{done_read}
use Rattle.oi_words.specs.declared.fault.WordsFault.TheVariants.{Invalid}
use Rattle.oi_words.proofs.forms.read_letters.Goals as goal

pub returns-in-None : goal.returns-in-None
returns-in-None c = c.loop-rest.invariant.1 (Err Invalid) [] c.in-None.ensures.none

pub returns : goal.returns
returns c = c.loop-rest.invariant.1 (Ok None) _ (done_read c.loop-rest.rest.now (map (λ s. string_bytes s) c.loop-rest.forms.items) (sym c.loop-rest-test.ensures))
