-- The replies that are sent are those of the units, one after another.
use Rattle.std.proofs.Common.{◌≡◌, List, [], ◌∷◌, ◌++◌, drop, length, take, refl, ap, sym, map, append-nil}
use Rattle.oi_pdu.specs.declared.codec.Pdu.{Pdu}
use Rattle.oi_target_session.proofs.Joins.{replies_in_order}
use Rattle.oi_target_session.specs.Executions.{RepliesAreSent, if_going, sent_if_going}
use Rattle.oi_target_session.specs.Runs.{ready, replies_sent, request_of}
use Rattle.oi_target_session.specs.Sessions.{Handled, and_drained, handled}
use Rattle.oi_target_session.specs.declared.fed.Fed.{Fed}
use Rattle.oi_target_session.specs.declared.fed.Fed.TheVariants.{Going, Closed}
use Rattle.oi_units.specs.Runs.{Request, replies, units_after}
use Rattle.oi_units.specs.Units.{executed}
use Rattle.oi_units.specs.declared.reply.UnitReply.{UnitReply}
use Rattle.oi_units.specs.declared.unit.LogicalUnit.{LogicalUnit}

pub first_replies : (units : List LogicalUnit) (first rest : List Request) → take (length first) (replies units (first ++ rest)) ≡ replies units first
first_replies units [] rest = refl
first_replies units (r ∷ rs) rest =
    ap (λ (z : List UnitReply). (executed units r.nexus r.command r.payload).reply ∷ z) (first_replies (executed units r.nexus r.command r.payload).units rs rest)

pub later_replies : (units : List LogicalUnit) (first rest : List Request)
    → drop (length first) (replies units (first ++ rest)) ≡ replies (units_after units first) rest
later_replies units [] rest = refl
later_replies units (r ∷ rs) rest = later_replies (executed units r.nexus r.command r.payload).units rs rest

pub replies_are_sent : RepliesAreSent
replies_are_sent s units listing p = go (handled s units listing p.head p.payload).fed where
  h : Handled
  h = handled s units listing p.head p.payload

  go : (f : Fed) → (and_drained f h units).sent
      ≡ h.sent ++ sent_if_going f (replies_sent h.session (ready h.session.tasks) (replies units (if_going f (map (request_of h.session.nexus) (ready h.session.tasks)))))
  go Closed = sym (append-nil h.sent)
  go Going = ap (λ (z : List Pdu). h.sent ++ z) (replies_in_order h.session units h.session.tasks)
