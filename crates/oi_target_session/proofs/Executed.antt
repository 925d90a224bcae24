-- The units behind a PDU are those after its requests.
use Rattle.std.proofs.Common.{◌≡◌, ◌∙◌, List, [], ◌∷◌, ◌++◌, refl, ap, sym, map, append-nil}
use Rattle.oi_target_session.proofs.Joins.{units_in_order}
use Rattle.oi_target_session.specs.Executions.{ServedExecute, if_going}
use Rattle.oi_target_session.specs.Runs.{ready, request_of}
use Rattle.oi_target_session.specs.Sessions.{Handled, and_drained, handled}
use Rattle.oi_target_session.specs.declared.fed.Fed.{Fed}
use Rattle.oi_target_session.specs.declared.fed.Fed.TheVariants.{Going, Closed}
use Rattle.oi_units.specs.Runs.{Request, units_after}
use Rattle.oi_units.specs.Units.{executed}
use Rattle.oi_units.specs.declared.unit.LogicalUnit.{LogicalUnit}

pub units_join : (units : List LogicalUnit) (first second : List Request) → units_after units (first ++ second) ≡ units_after (units_after units first) second
units_join units [] second = refl
units_join units (r ∷ rs) second = units_join (executed units r.nexus r.command r.payload).units rs second

pub served_units : ServedExecute
served_units s units listing p = go (handled s units listing p.head p.payload).fed where
  h : Handled
  h = handled s units listing p.head p.payload

  go : (f : Fed) → (and_drained f h units).units ≡ units_after units (if_going f (map (request_of h.session.nexus) (ready h.session.tasks)))
  go Closed = refl
  go Going = units_in_order h.session units h.session.tasks

-- a first part, and a rest where the connection stays
pub joined_units : (units middle end : List LogicalUnit) (first rest : List Request) → middle ≡ units_after units first → end ≡ units_after middle rest
    → end ≡ units_after units (first ++ rest)
joined_units units middle end first rest is was = was ∙ ap (λ (z : List LogicalUnit). units_after z rest) is ∙ sym (units_join units first rest)

pub stopped_units : (units middle : List LogicalUnit) (first : List Request) → middle ≡ units_after units first → middle ≡ units_after units (first ++ [])
stopped_units units middle first is = is ∙ ap (λ (z : List Request). units_after units z) (sym (append-nil first))
