-- Commands behind another session's reset are executed one after another, and their replies are written later.
use Rattle.std.proofs.Common.{ℕ, Bool, true, false, ◌≡◌, ◌∙◌, List, [], ◌∷◌, ◌++◌, map, refl, ap, sym, subst, append_assoc, if◌then◌else◌}
use Rattle.oi_target_session.specs.Answers.{bytes_of}
use Rattle.oi_target_session.specs.Owing.{Owed, Woken, WokenInOrder, owed_pdus, owing, paid, reply_owed, unready, woken}
use Rattle.oi_target_session.specs.Runs.{ready, request_of}
use Rattle.oi_target_session.specs.Sessions.{Session, with_tasks}
use Rattle.oi_target_tasks.specs.Tasks.{is_waiting}
use Rattle.oi_target_tasks.specs.declared.task.Task.{Task}
use Rattle.oi_units.specs.Runs.{replies, units_after}
use Rattle.oi_units.specs.Units.{executed}
use Rattle.oi_units.specs.declared.reply.UnitReply.{UnitReply}
use Rattle.oi_units.specs.declared.unit.LogicalUnit.{LogicalUnit}

-- what was executed, followed by what the rest will let be executed, is the whole
pub record Wakes (s : Session) (units : List LogicalUnit) (owed : List Owed) (first : Session) (all : Woken) (before : List Owed) : Type 0 where
  pub session : with_tasks s (unready s.tasks) ≡ with_tasks first (unready first.tasks)
  pub units_are : (woken s.nexus units s.tasks).units ≡ all.units
  pub joined : owed ++ (woken s.nexus units s.tasks).owed ≡ before ++ all.owed

-- the first task is executed
one_woken : (nexus : List ℕ) (units : List LogicalUnit) (t : Task) (ts : List Task) → is_waiting t ≡ false
    → woken nexus units (t ∷ ts) ≡ owing t (executed units nexus t.command t.payload).reply (woken nexus (executed units nexus t.command t.payload).units ts)
one_woken nexus units t ts is =
    ap (λ (b : Bool). if b then record { units = units; owed = [] }
    else owing t (executed units nexus t.command t.payload).reply (woken nexus (executed units nexus t.command t.payload).units ts)) is

one_unready : (t : Task) (ts : List Task) → is_waiting t ≡ false → unready (t ∷ ts) ≡ unready ts
one_unready t ts is = ap (λ (b : Bool). if b then t ∷ ts else unready ts) is

wakes_step : (s : Session) (units : List LogicalUnit) (owed : List Owed) (first : Session) (all : Woken) (before : List Owed) (t : Task) (ts : List Task)
    → s.tasks ≡ t ∷ ts → is_waiting t ≡ false → Wakes s units owed first all before
    → Wakes (with_tasks s ts) (executed units s.nexus t.command t.payload).units
    (owed ++ record { task = t; reply = (executed units s.nexus t.command t.payload).reply } ∷ []) first all before
wakes_step s units owed first all before t ts front is w = record {
  session = sym (ap (λ (z : List Task). with_tasks s z) (ap unready front ∙ one_unready t ts is)) ∙ w.session;
  units_are = sym (ap (λ (z : Woken). z.units) whole) ∙ w.units_are;
  joined = append_assoc owed (record { task = t; reply = (executed units s.nexus t.command t.payload).reply } ∷ [])
      (woken s.nexus (executed units s.nexus t.command t.payload).units ts).owed
      ∙ sym (ap (λ (z : Woken). owed ++ z.owed) whole) ∙ w.joined;
} where
  whole : woken s.nexus units s.tasks
      ≡ owing t (executed units s.nexus t.command t.payload).reply (woken s.nexus (executed units s.nexus t.command t.payload).units ts)
  whole = ap (λ (z : List Task). woken s.nexus units z) front ∙ one_woken s.nexus units t ts is

-- the same in the words of the calls
pub wakes_on : (s : Session) (units units' : List LogicalUnit) (owed owed' : List Owed) (first : Session) (all : Woken) (before : List Owed) (t : Task) (s' : Session)
    (r : UnitReply) (who payload : List ℕ)
    → who ≡ s'.nexus → payload ≡ t.payload
    → s.tasks ≡ t ∷ s'.tasks → is_waiting t ≡ false → s' ≡ with_tasks s s'.tasks
    → r ≡ (executed units who t.command payload).reply → units' ≡ (executed units who t.command payload).units
    → owed' ≡ owed ++ record { task = t; reply = r } ∷ []
    → Wakes s units owed first all before → Wakes s' units' owed' first all before
wakes_on s units units' owed owed' first all before t s' r who payload who_is payload_is front is rest replied changed more w =
    rw (more, replied, changed, who_is, payload_is)
    (subst (λ (z : Session). Wakes z (executed units z.nexus t.command t.payload).units
    (owed ++ record { task = t; reply = (executed units z.nexus t.command t.payload).reply } ∷ []) first all before) (sym rest)
    (wakes_step s units owed first all before t s'.tasks front is w))

-- what was written, followed by what is still owed, is the whole
pub record Pays (s : Session) (written : List ℕ) (left : List Owed) (first : Session) (all : List Owed) (before : List ℕ) : Type 0 where
  pub session : paid s left ≡ paid first all
  pub joined : written ++ bytes_of (owed_pdus s left) ≡ before ++ bytes_of (owed_pdus first all)

-- the replies that are owed are those of the units
pub woken_in_order : WokenInOrder
woken_in_order nexus units [] = (refl, refl)
woken_in_order nexus units (t ∷ ts) = go (is_waiting t) (woken_in_order nexus (executed units nexus t.command t.payload).units ts) where
  left : Woken
  left = woken nexus (executed units nexus t.command t.payload).units ts

  after : List LogicalUnit
  after = (executed units nexus t.command t.payload).units

  go : (b : Bool)
      → (left.units ≡ units_after after (map (request_of nexus) (ready ts))) × (map reply_owed left.owed ≡ replies after (map (request_of nexus) (ready ts)))
      → ((if b then record { units = units; owed = [] } else owing t (executed units nexus t.command t.payload).reply left).units
      ≡ units_after units (map (request_of nexus) (if b then [] else t ∷ ready ts)))
      × (map reply_owed (if b then record { units = units; owed = [] } else owing t (executed units nexus t.command t.payload).reply left).owed
      ≡ replies units (map (request_of nexus) (if b then [] else t ∷ ready ts)))
  go true rest = (refl, refl)
  go false rest = (rest.0, ap (λ (z : List UnitReply). (executed units nexus t.command t.payload).reply ∷ z) rest.1)
