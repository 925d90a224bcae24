use Rattle.std.proofs.Common.{◌≡◌, ◌∙◌, ◌++◌, ◌∷◌, [], ℕ, inr, ap, arith}
use Rattle.oi_history.specs.Courses.{phase_step}
use Rattle.oi_history.specs.Meanings.{Meanings, step}
use Rattle.oi_history.specs.Phases.{is_ended}
use Rattle.oi_solo.proofs.Entries.{Stepped, enters}
use Rattle.oi_solo.specs.Cores.{kept_back}
use Rattle.oi_solo.specs.declared.kept.Kept.{Kept}
use Rattle.oi_solo.proofs.kept.enter_ready.Goals as goal

abbrev made : goal.After-push_reserved → Kept
made c = record {
  alloc = c.args.kept.now.alloc;
  ledger = c.step.new.self;
  events = c.push_reserved.new.self;
  sending = c.sending_after-sending.result;
  receiving = c.receiving_after-receiving.result;
  issues = c.note.new.issues;
}

pub returns : goal.returns
returns c =
    let old = c.args.kept.now in
    let e = c.args.event in
    let now = rw c.unwrap.ensures at c.step.ensures.now in
    let left = rw c.unwrap.ensures at c.step.ensures.room in
    let stepped : Stepped old (made c) e = record {
      config = c.step.ensures.config;
      now = now ∙ ap (λ (m : ℕ). step old.ledger.config e m old.ledger.now) c.len.ensures;
      items = c.push_reserved.ensures.items ∙ ap (λ (m : ℕ). old.events.items ++ record { number = m; event = e } ∷ []) c.len.ensures;
      len = c.push_reserved.ensures.len;
      sending = c.sending_after-sending.ensures;
      receiving = c.receiving_after-receiving.ensures;
      issues = c.note.ensures;
    } in
    let len = c.push_reserved.ensures.len in
    let cap = c.push_reserved.ensures.capacity in
    let room = c.requires.room in
    let back : kept_back (is_ended c.step.new.self.now.phase) ≡ kept_back (is_ended (phase_step old.ledger.config old.ledger.now.clock e old.ledger.now.phase)) =
    ap (λ (m : Meanings). kept_back (is_ended m.phase)) now in
    let done = enters old (made c) e c.requires.kept stepped (inr c.requires.empty) c.requires.permitted (omega (arith, len, cap, room, back)) in
    record { kept = done.kept; session = done.session; ledger = left; len = len; capacity = cap }
