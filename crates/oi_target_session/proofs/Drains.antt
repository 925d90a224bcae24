-- Commands are executed one after another.
use Rattle.std.proofs.Common.{ℕ, Bool, true, false, ◌≡◌, ◌∙◌, ◌<◌, ◌==◌, Some, List, [], ◌∷◌, ◌++◌, length, refl, ap, sym, subst, append_assoc, arith, if◌then◌else◌}
use Rattle.std.proofs.lemmas.Bool.{eqb-true}
use Rattle.std.proofs.lemmas.Grind.{flat_map-append}
use Rattle.oi_pdu.specs.Wire.{encoding}
use Rattle.oi_pdu.specs.declared.codec.Pdu.{Pdu}
use Rattle.oi_target_session.specs.Answers.{bytes_of, response_pdu}
use Rattle.oi_target_session.specs.Sequences.{data_pdus}
use Rattle.oi_target_session.specs.Sessions.{Session, Turn, behind, counted, drained, reply_pdus, with_tasks}
use Rattle.oi_target_tasks.specs.Tasks.{is_waiting}
use Rattle.oi_target_session.specs.declared.fed.Fed.TheVariants.{Going}
use Rattle.oi_target_tasks.specs.declared.task.Task.{Task}
use Rattle.oi_units.proofs.Lending.{lent_is_executed}
use Rattle.oi_units.specs.Units.{Executed, executed, lent}
use Rattle.oi_units.specs.declared.command.UnitCommand.{UnitCommand}
use Rattle.oi_units.specs.declared.reply.UnitReply.{UnitReply}
use Rattle.oi_units.specs.declared.unit.LogicalUnit.{LogicalUnit}

-- what was written, followed by what the rest will write, is the whole
pub record Drains (s : Session) (units : List LogicalUnit) (written : List ℕ) (first : Turn) (before : List ℕ) : Type 0 where
  pub session : (drained s units s.tasks).session ≡ first.session
  pub units_are : (drained s units s.tasks).units ≡ first.units
  pub joined : written ++ bytes_of (drained s units s.tasks).sent ≡ before ++ bytes_of first.sent

-- which tasks the session has does not matter to those that are named
pub other_tasks : (s : Session) (others : List Task) (units : List LogicalUnit) (ts : List Task) → drained (with_tasks s others) units ts ≡ drained s units ts
other_tasks s others units [] = refl
other_tasks s others units (t ∷ ts) =
    ap (λ (z : Turn). if is_waiting t then record { session = with_tasks s (t ∷ ts); units = units; sent = []; fed = Going }
    else behind (reply_pdus s t (executed units s.nexus t.command t.payload).reply) z)
    (other_tasks (counted s) others (executed units s.nexus t.command t.payload).units ts)

-- the first task is executed
one_drained : (s : Session) (units : List LogicalUnit) (t : Task) (ts : List Task) → is_waiting t ≡ false
    → drained s units (t ∷ ts) ≡ behind (reply_pdus s t (executed units s.nexus t.command t.payload).reply)
    (drained (counted (with_tasks s ts)) (executed units s.nexus t.command t.payload).units ts)
one_drained s units t ts ready =
    ap (λ (b : Bool). if b then record { session = with_tasks s (t ∷ ts); units = units; sent = []; fed = Going }
    else behind (reply_pdus s t (executed units s.nexus t.command t.payload).reply)
    (drained (counted s) (executed units s.nexus t.command t.payload).units ts)) ready
    ∙ ap (λ (z : Turn). behind (reply_pdus s t (executed units s.nexus t.command t.payload).reply) z)
    (sym (other_tasks (counted s) ts (executed units s.nexus t.command t.payload).units ts))

-- the first task is executed, and the rest goes on
drains_step : (s : Session) (units : List LogicalUnit) (written : List ℕ) (first : Turn) (before : List ℕ) (t : Task) (ts : List Task)
    → s.tasks ≡ t ∷ ts → is_waiting t ≡ false → Drains s units written first before
    → Drains (counted (with_tasks s ts)) (executed units s.nexus t.command t.payload).units
    (written ++ bytes_of (reply_pdus (with_tasks s ts) t (executed units s.nexus t.command t.payload).reply)) first before
drains_step s units written first before t ts front ready d = record {
  session = sym (ap (λ (z : Turn). z.session) whole) ∙ d.session;
  units_are = sym (ap (λ (z : Turn). z.units) whole) ∙ d.units_are;
  joined = append_assoc written (bytes_of said) (bytes_of left.sent)
      ∙ ap (λ (z : List ℕ). written ++ z) (sym (flat_map-append encoding said left.sent))
      ∙ sym (ap (λ (z : Turn). written ++ bytes_of z.sent) whole) ∙ d.joined;
} where
  said : List Pdu
  said = reply_pdus s t (executed units s.nexus t.command t.payload).reply

  left : Turn
  left = drained (counted (with_tasks s ts)) (executed units s.nexus t.command t.payload).units ts

  whole : drained s units s.tasks ≡ behind said left
  whole = ap (λ (z : List Task). drained s units z) front ∙ one_drained s units t ts ready

-- the same in the words of the calls
pub drains_on : (s : Session) (units units' : List LogicalUnit) (written written' : List ℕ) (first : Turn) (before : List ℕ) (t : Task) (s' s'' : Session) (r : UnitReply) (who payload : List ℕ)
    → who ≡ s'.nexus → payload ≡ t.payload
    → s.tasks ≡ t ∷ s'.tasks → is_waiting t ≡ false → s' ≡ with_tasks s s'.tasks
    → r ≡ (executed units who t.command payload).reply → units' ≡ (executed units who t.command payload).units
    → s'' ≡ counted s' → written' ≡ written ++ bytes_of (reply_pdus s' t r)
    → Drains s units written first before → Drains s'' units' written' first before
drains_on s units units' written written' first before t s' s'' r who payload who_is payload_is front ready rest replied changed counts out d =
    rw (counts, changed, out, replied, who_is, payload_is)
    (subst (λ (z : Session). Drains (counted z) (executed units z.nexus t.command t.payload).units
    (written ++ bytes_of (reply_pdus z t (executed units z.nexus t.command t.payload).reply)) first before) (sym rest)
    (drains_step s units written first before t s'.tasks front ready d))

-- a task that is lent its data
pub lent_is : (units : List LogicalUnit) (who nexus : List ℕ) (c : UnitCommand) (payload : List ℕ) (r : UnitReply) → who ≡ nexus → lent units who c ≡ Some r
    → executed units nexus c payload ≡ record { reply = r; units = units }
lent_is units who nexus c payload r same h = lent_is_executed units nexus c payload r (subst (λ (z : List ℕ). lent units z c ≡ Some r) same h)

-- a reply with data
some_data : (s : Session) (t : Task) (r : UnitReply) → 0 < length r.sent → reply_pdus s t r ≡ data_pdus s.limits s.numbers t.tag r.residual (length r.sent) 0 0 r.sent
some_data s t r some = go (length r.sent == 0) refl where
  go : (b : Bool) → (length r.sent == 0) ≡ b
      → (if b then response_pdu s.numbers t r ∷ [] else data_pdus s.limits s.numbers t.tag r.residual (length r.sent) 0 0 r.sent)
      ≡ data_pdus s.limits s.numbers t.tag r.residual (length r.sent) 0 0 r.sent
  go true is = absurd (let none : length r.sent ≡ 0 = eqb-true (length r.sent) 0 is in omega arith)
  go false is = refl

pub lent_out : (s : Session) (units : List LogicalUnit) (who : List ℕ) (t : Task) (r : UnitReply) (written before : List ℕ) → who ≡ s.nexus
    → lent units who t.command ≡ Some r → 0 < length r.sent
    → written ≡ before ++ bytes_of (data_pdus s.limits s.numbers t.tag r.residual (length r.sent) 0 0 r.sent)
    → written ≡ before ++ bytes_of (reply_pdus s t (executed units s.nexus t.command t.payload).reply)
lent_out s units who t r written before same h some writes =
    writes ∙ ap (λ (ps : List Pdu). before ++ bytes_of ps) (sym (some_data s t r some))
    ∙ ap (λ (e : Executed). before ++ bytes_of (reply_pdus s t e.reply)) (sym (lent_is units who s.nexus t.command t.payload r same h))
