use Rattle.std.proofs.Common.{◌<◌, ◌∙◌, length, arith}
use Rattle.clap.specs.Simple.{app_of}
use Rattle.oi_words.proofs.Fronts.{options_on}
use Rattle.oi_words.proofs.parse.with_options.Goals as goal

pub loop-name-preserved : goal.loop-name-preserved
loop-name-preserved c =
    let small : c.loop-name.name-index < length c.args.names.now = omega arith in
    options_on (λ s. s.now) c.args.names.now c.loop-name.name-index _ (app_of c.loop-name.whole) (app_of c.in_ok-whole.whole) small c.in_ok-whole.ensures ∙ c.loop-name.invariant
