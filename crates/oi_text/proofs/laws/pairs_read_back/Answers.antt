use Rattle.std.proofs.Common.{ℕ, List, [], ◌++◌, length, sym, ap, ◌∙◌, arith}
use Rattle.std.proofs.lemmas.List.{append-nil}
use Rattle.oi_text.specs.Pairs.{text_of}
use Rattle.oi_text.specs.declared.pairs.Pair.{Pair}
use Rattle.oi_text.proofs.Pieces.{same_lists, no_pair-none}
use Rattle.oi_text.proofs.laws.pairs_read_back.Goals as goal

pub returns-clause-one : goal.returns-clause-one
returns-clause-one c = λ ps qs a b same. (same_lists ps qs [] [] a b no_pair-none no_pair-none (ap (λ (t : List ℕ). t ++ []) same)).0

pub returns-clause-well_formed : goal.returns-clause-well_formed
returns-clause-well_formed c = λ ps at a m.
    let both = same_lists ps m.before [] m.rest a m.pairs no_pair-none m.none (append-nil (text_of ps) ∙ m.whole) in
    omega (arith, ap length both.1)

pub returns-clause-one_place : goal.returns-clause-one_place
returns-clause-one_place c = λ bytes at other a b.
    let both = same_lists a.before b.before a.rest b.rest a.pairs b.pairs a.none b.none (sym a.whole ∙ b.whole) in
    a.at ∙ ap (λ (ps : List Pair). length (text_of ps)) both.0 ∙ sym b.at
