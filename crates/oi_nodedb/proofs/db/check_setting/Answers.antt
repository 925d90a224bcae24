use Rattle.std.proofs.Common.{sym, ◌∙◌, refl}
use Rattle.oi_nodedb.proofs.Settings.{closed, outside, taken_by}
use Rattle.oi_nodedb.proofs.db.check_setting.Goals as goal

pub returns-then-not-is_open : goal.returns-then-not-is_open
returns-then-not-is_open c =
    closed c.args.name.now c.args.value.now c.bad_name.result (sym c.is_open.ensures ∙ c.if-not-is_open.true) c.bad_name.ensures

pub returns-in-Ok-true : goal.returns-in-Ok-true
returns-in-Ok-true c = (
  sym c.is_open.ensures ∙ c.if-not-is_open.false,
  taken_by c.args.name.now c.args.name.now c.args.value.now c.args.value.now c.in-Ok-true.field-0 refl refl c.in-Ok-true.ensures c.in-Ok-true.field-0-test,
)

pub returns-in-Ok-false : goal.returns-in-Ok-false
returns-in-Ok-false c =
    outside c.args.name.now c.args.name.now c.args.value.now c.args.value.now c.in-Ok-false.field-0 c.bad_value.result (sym c.is_open.ensures ∙ c.if-not-is_open.false) refl refl c.in-Ok-false.ensures
    c.in-Ok-false.field-0-test c.bad_value.ensures
