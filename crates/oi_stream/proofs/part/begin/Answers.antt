use Rattle.std.proofs.Common.{arith, refl, length, ◌++◌, take, ap, sym, List, ℕ, subst}
use Rattle.std.proofs.lemmas.Result.{err_from_is_err_and}
use Rattle.oi_stream.specs.declared.part.Part.{Part}
use Rattle.oi_stream.specs.Feeding.{IsKept}
use Rattle.oi_stream.proofs.Kept.{header_short, header_whole}
use Rattle.oi_stream.proofs.Steps.{begun_err}
use Rattle.oi_stream.proofs.part.begin.Goals as goal

pub returns-then-part-taken-lt48 : goal.returns-then-part-taken-lt48
returns-then-part-taken-lt48 c =
    let p = c.args.part.now in (
      record {
        within = omega arith;
        counted = refl;
        keeps = λ rest kept. header_short c.args.limit p.count c.fill-taken.result rest c.args.chunk.now p.head c.fill-taken.new.head p.payload.items kept (omega arith) c.fill-taken.ensures.bytes c.if-part-taken-lt48.true;
        sound = record {
          long = c.fill-taken.ensures.long;
          good = λ there. absurd (omega arith);
          short = c.requires.sound.short;
          within = λ there. absurd (omega arith);
        };
      },
      λ _. omega arith,
      λ there. absurd (omega arith),
    )

pub returns-in_err-size : goal.returns-in_err-size
returns-in_err-size c =
    let p = err_from_is_err_and c.from_residual.result c.from_residual.ensures.1 in
    let old = c.args.part.now in
    let new : Part = record { alloc = old.alloc; head = c.fill-taken.new.head; payload = old.payload; count = old.count } in
    rw (p.1, p.2) (begun_err c.args.limit c.args.place c.fill-taken.result c.args.chunk.now c.fill-taken.new.head old new c.in_err-size.field-0.0 (omega arith) (omega arith) c.fill-taken.ensures.long c.fill-taken.ensures.bytes c.in_err-size.ensures.checked)

pub returns : goal.returns
returns c =
    let p = c.args.part.now in
    let h = c.fill-taken.new.head in
    let checked = c.in_ok-size.ensures.checked in (
      record {
        within = omega arith;
        counted = omega arith;
        keeps = λ rest kept.
            subst (λ (z : List ℕ). IsKept c.args.limit (rest ++ take c.fill-taken.result c.args.chunk.now) (take 48 h) z 48) (sym c.in_ok-part.ensures.items)
            (header_whole c.args.limit p.count c.fill-taken.result rest c.args.chunk.now p.head h p.payload.items kept (omega arith) c.fill-taken.ensures.bytes (omega arith) c.fill-taken.ensures.long checked.0 (omega (arith, checked)));
        sound = record {
          long = c.fill-taken.ensures.long;
          good = λ _. checked.0;
          short = omega (arith, ap length c.in_ok-part.ensures.items);
          within = λ _. omega arith;
        };
      },
      λ there. absurd (omega (arith, there)),
      λ there. absurd (omega arith),
    )
