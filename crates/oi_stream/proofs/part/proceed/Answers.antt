use Rattle.std.proofs.Common.{arith, refl, ◌≡◌, length, ◌++◌, ◌-◌, ◌+◌, take, drop, ap}
use Rattle.std.proofs.lemmas.List.{length-append, length-take}
use Rattle.oi_pdu.specs.Segments.{additional, data_len}
use Rattle.oi_stream.proofs.Kept.{more_data}
use Rattle.oi_stream.proofs.part.proceed.Goals as goal

pub returns-clause-takes : goal.returns-clause-takes
returns-clause-takes c =
    let p = c.args.part.now in
    let k = c.min-taken.result in
    let s = c.sizes-begin.ensures in
    let x = p.payload.items in
    let piece = take k c.args.chunk.now in
    let grown : c.grow.new.payload.items ≡ x ++ take (data_len p.head - length x) (drop ((48 + additional p.head) - p.count) piece) = grind (arith, c.in_ok-grow.ensures, p.payload.ok) in
    record {
      within = omega arith;
      counted = refl;
      keeps = λ rest kept. more_data c.args.limit p.count k rest c.args.chunk.now p.head x c.grow.new.payload.items kept c.requires.begun c.requires.sound.long (omega arith) grown;
      sound = record {
        long = c.requires.sound.long;
        good = λ _. c.requires.sound.good c.requires.begun;
        short = omega (arith, ap length grown, length-append x (take (data_len p.head - length x) (drop ((48 + additional p.head) - p.count) piece)), length-take (data_len p.head - length x) (drop ((48 + additional p.head) - p.count) piece), s.data, s.small, c.requires.sound.short);
        within = λ _. omega (arith, s.whole, c.requires.sound.within c.requires.begun);
      };
    }
