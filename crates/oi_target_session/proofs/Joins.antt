-- Commands are executed in order.
use Rattle.std.proofs.Common.{Bool, true, false, ◌≡◌, List, [], ◌∷◌, ◌++◌, refl, ap, map, if◌then◌else◌}
use Rattle.oi_pdu.specs.declared.codec.Pdu.{Pdu}
use Rattle.oi_target_session.specs.Runs.{RepliesInOrder, UnitsInOrder, ready, replies_sent, request_of}
use Rattle.oi_target_session.specs.Sessions.{behind, counted, drained, reply_pdus, with_tasks}
use Rattle.oi_target_tasks.specs.Tasks.{is_waiting}
use Rattle.oi_target_session.specs.declared.fed.Fed.TheVariants.{Going}
use Rattle.oi_units.specs.Runs.{replies, units_after}
use Rattle.oi_units.specs.Units.{executed}

pub units_in_order : UnitsInOrder
units_in_order s units [] = refl
units_in_order s units (t ∷ ts) = go (is_waiting t) (units_in_order (counted s) (executed units s.nexus t.command t.payload).units ts) where
  go : (b : Bool) → (drained (counted s) (executed units s.nexus t.command t.payload).units ts).units
      ≡ units_after (executed units s.nexus t.command t.payload).units (map (request_of s.nexus) (ready ts))
      → (if b then record { session = with_tasks s (t ∷ ts); units = units; sent = []; fed = Going }
      else behind (reply_pdus s t (executed units s.nexus t.command t.payload).reply)
      (drained (counted s) (executed units s.nexus t.command t.payload).units ts)).units
      ≡ units_after units (map (request_of s.nexus) (if b then [] else t ∷ ready ts))
  go true before = refl
  go false before = before

pub replies_in_order : RepliesInOrder
replies_in_order s units [] = refl
replies_in_order s units (t ∷ ts) = go (is_waiting t) (replies_in_order (counted s) (executed units s.nexus t.command t.payload).units ts) where
  go : (b : Bool) → (drained (counted s) (executed units s.nexus t.command t.payload).units ts).sent
      ≡ replies_sent (counted s) (ready ts) (replies (executed units s.nexus t.command t.payload).units (map (request_of s.nexus) (ready ts)))
      → (if b then record { session = with_tasks s (t ∷ ts); units = units; sent = []; fed = Going }
      else behind (reply_pdus s t (executed units s.nexus t.command t.payload).reply)
      (drained (counted s) (executed units s.nexus t.command t.payload).units ts)).sent
      ≡ replies_sent s (if b then [] else t ∷ ready ts) (replies units (map (request_of s.nexus) (if b then [] else t ∷ ready ts)))
  go true before = refl
  go false before = ap (λ (z : List Pdu). reply_pdus s t (executed units s.nexus t.command t.payload).reply ++ z) before
