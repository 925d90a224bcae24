use Rattle.std.proofs.Common.{map}
use Rattle.std.specs.String.{string_bytes}
use Rattle.oi_words.proofs.Fronts.{IsTaken}
use Rattle.oi_words.proofs.forms.read_forms.Given as goal

abbrev pub invariant-loop-word : goal.invariant-loop-word
invariant-loop-word l = IsTaken (map (λ s. string_bytes s) l.words) l.word-index (map (λ s. string_bytes s) l.forms.items) l.waiting
