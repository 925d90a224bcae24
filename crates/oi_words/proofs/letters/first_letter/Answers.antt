use Rattle.std.proofs.Common.{◌≡◌, ◌<◌, arith, get_or}
use Rattle.std.proofs.lemmas.Grind.{common_steps}
use Rattle.std.proofs.lemmas.Str.{lead_after_ascii}
use Rattle.oi_words.proofs.letters.first_letter.Goals as goal

pub range_from-requires : goal.range_from-requires
range_from-requires c =
    let below : c.in-Some.letter.now < 128 = c.is_letter.ensures.ascii c.if-is_letter.true in
    let at : get_or c.args.text.now 0 0 ≡ c.in-Some.letter.now = grind (arith, common_steps) in
    λ h. (omega arith, λ more high. lead_after_ascii c.args.text.now 0 c.utf8.text (rw at below) more high)
