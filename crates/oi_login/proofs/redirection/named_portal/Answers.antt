use Rattle.oi_text.specs.Pairs.{IsText}
use Rattle.oi_login.proofs.Readings.{bad_portal, no_address, no_portal, some_found}
use Rattle.oi_login.proofs.redirection.named_portal.Goals as goal

pub returns-in_default-answer_to : goal.returns-in_default-answer_to
returns-in_default-answer_to c =
    no_address c.args.text.now c.in-Some.pairs (some_found (IsText c.args.text.now) c.in_ok-pairs.field-0 c.in-Some.pairs c.in-Some.is c.in_ok-pairs.ensures)
    (rw (← c.as_slice.ensures) c.in_default-answer_to.ensures)

pub returns-in-Err-Bad : goal.returns-in-Err-Bad
returns-in-Err-Bad c =
    no_portal c.args.text.now c.in-Some.pairs c.in-Some-answer_to.value.now (some_found (IsText c.args.text.now) c.in_ok-pairs.field-0 c.in-Some.pairs c.in-Some.is c.in_ok-pairs.ensures)
    (rw (← c.as_slice.ensures) c.in-Some-answer_to.ensures)
    (bad_portal c.in-Some-answer_to.value.now c.in-Err-Bad.field-0 _ c.in-Err-Bad.field-0-is c.in-Err-Bad.ensures.fault)
