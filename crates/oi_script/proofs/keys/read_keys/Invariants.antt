use Rattle.std.proofs.Common.{◌≡◌, map, drop}
use Rattle.oi_script.specs.Keys.{AreSound, keys_of, no_keys}
use Rattle.oi_script.proofs.keys.read_keys.Given as goal

abbrev pub invariant-loop-word : goal.invariant-loop-word
invariant-loop-word l = record {
  rest : keys_of l.keys (map (λ w. w.now) (drop l.word-index l.words)) ≡ keys_of no_keys (map (λ w. w.now) l.words);
  sound : AreSound l.keys;
}
