use Rattle.std.proofs.Common.{ℕ, List, Option, Some, Err, subst, sym}
use Rattle.oi_admin.specs.Readings.{AsksPlace, IsPlaceOf, IsReadBy}
use Rattle.oi_admin.proofs.Shapes.{refused}
use Rattle.oi_admin.proofs.readings.asked_portal.Goals as goal

pub returns-in-Err : goal.returns-in-Err
returns-in-Err c =
    subst (λ (given : Option (List ℕ)). IsReadBy (AsksPlace given) (Err c.in-Err.fault)) (sym c.in-Some.is)
    (refused (IsPlaceOf c.in-Some.text) (AsksPlace (Some c.in-Some.text)) c.in-Err.fault (λ asked by. ((by.0, asked.1), by.2)) c.in-Err.ensures)
