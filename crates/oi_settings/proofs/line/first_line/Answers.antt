use Rattle.std.proofs.Common.{arith}
use Rattle.std.proofs.lemmas.List.Sums.{prefix_len-le-length}
use Rattle.oi_settings.specs.Texts.{is_name_byte}
use Rattle.oi_settings.proofs.LineTexts.{found_line, no_line_feed, no_line_there, reads}
use Rattle.oi_settings.proofs.line.first_line.Goals as goal

pub returns-then-name-eq0-clause-none : goal.returns-then-name-eq0-clause-none
returns-then-name-eq0-clause-none c = λ name value more line whole.
    let r = reads c.args.bytes.now name value more line whole in omega (arith, line.name_some)

pub returns-then-is_long_name-clause-none : goal.returns-then-is_long_name-clause-none
returns-then-is_long_name-clause-none c = λ name value more line whole.
    let r = reads c.args.bytes.now name value more line whole in omega (arith, line.name_fits)

pub after-requires : goal.after-requires
after-requires c = omega (arith, prefix_len-le-length is_name_byte c.args.bytes.now)

pub returns-in_default-clause-none : goal.returns-in_default-clause-none
returns-in_default-clause-none c =
    no_line_there c.args.bytes.now c.after.result.now c.name_length-name.result c.name_length-name.ensures c.after.ensures c.in_default.ensures

pub returns-then-rest-value-clause-none : goal.returns-then-rest-value-clause-none
returns-then-rest-value-clause-none c =
    no_line_feed c.args.bytes.now c.after.result.now c.in-Some.rest.now c.name_length-name.result c.value_length-value.result c.name_length-name.ensures c.after.ensures
    c.in-Some.ensures c.value_length-value.ensures c.if-rest-value.true

pub returns-clause-found : goal.returns-clause-found
returns-clause-found c =
    let found =
    found_line c.args.bytes.now c.after.result.now c.in-Some.rest.now c.name_length-name.result c.value_length-value.result c.name_length-name.ensures (omega arith)
    (omega arith) (omega (arith, prefix_len-le-length is_name_byte c.args.bytes.now)) c.after.ensures c.in-Some.ensures c.value_length-value.ensures (omega arith) in
    rw (c.before-2.ensures, c.before-3.ensures, c.after-2.ensures) found
