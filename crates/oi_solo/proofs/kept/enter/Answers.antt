use Rattle.std.proofs.Common.{◌∙◌, ◌+◌, ◌++◌, ◌∷◌, [], ℕ, List, Option, ap, arith, subst, sym}
use Rattle.oi_history.specs.Ledgers.{CanStep}
use Rattle.oi_history.specs.Meanings.{Meanings, step}
use Rattle.oi_history.specs.Phases.{is_ended}
use Rattle.oi_history.specs.declared.allocated.Allocated.{Allocated}
use Rattle.oi_history.specs.declared.event.Numbered.{Numbered}
use Rattle.oi_solo.proofs.Entries.{Enters, Stepped, can_step, enters, kept_back_most}
use Rattle.oi_solo.specs.Cores.{next_entry, session_of}
use Rattle.oi_solo.specs.Issues.{issues_step}
use Rattle.oi_solo.specs.declared.kept.Kept.{Kept}
use Rattle.oi_solo.proofs.kept.enter.Goals as goal

abbrev made : goal.After-push_reserved → Kept
made c = record {
  alloc = c.args.kept.now.alloc;
  ledger = c.step.new.self;
  events = c.push_reserved.new.self;
  sending = c.sending_after-sending.result;
  receiving = c.receiving_after-receiving.result;
  issues = c.note.new.issues;
}

done : (c : goal.After-push_reserved) → Enters c.args.kept.now (made c) c.args.event
done c =
    let old = c.args.kept.now in
    let e = c.args.event in
    let stepped : Stepped old (made c) e = record {
      config = c.step.ensures.config;
      now = c.in_ok-step.ensures.now ∙ ap (λ (m : ℕ). step old.ledger.config e m old.ledger.now) c.len.ensures;
      items = c.push_reserved.ensures.items ∙ (ap (λ (xs : List Numbered). xs ++ record { number = c.len.result; event = e } ∷ []) c.make_room.ensures.items
          ∙ ap (λ (m : ℕ). old.events.items ++ record { number = m; event = e } ∷ []) c.len.ensures);
      len = c.push_reserved.ensures.len ∙ ap (λ (m : ℕ). m + 1) c.make_room.ensures.len;
      sending = c.sending_after-sending.ensures;
      receiving = c.receiving_after-receiving.ensures;
      issues = c.note.ensures ∙ ap (λ (xs : List (Option Allocated)). issues_step e xs) c.make_place.ensures.items;
    } in
    let back = kept_back_most (is_ended c.step.new.self.now.phase) in
    let room = c.in_ok-make_room.ensures.room in
    let len = c.push_reserved.ensures.len in
    let cap = c.push_reserved.ensures.capacity in
    enters old (made c) e c.requires.kept stepped c.requires.fits c.requires.permitted (omega (arith, back, room, len, cap))

pub returns-clause-kept : goal.returns-clause-kept
returns-clause-kept c = (done c).kept

pub returns-clause-ok : goal.returns-clause-ok
returns-clause-ok c = (done c).session

pub step-requires : goal.step-requires
step-requires c =
    let old = c.args.kept.now in
    subst (λ (m : Meanings). CanStep m c.args.event) (sym c.requires.kept.now) (can_step old.ledger.config (session_of old).history (next_entry (session_of old) c.args.event) c.requires.permitted)
