use Rattle.std.proofs.Common.{◌≡◌, ◌∙◌, subst, sym, true}
use Rattle.oi_history.proofs.Standing.{falls_blow}
use Rattle.oi_history.proofs.Tallied.{counted_for, noted, place_for}
use Rattle.oi_history.specs.Tasks.{is_done}
use Rattle.oi_history.specs.declared.task.Task.{Task}
use Rattle.oi_history.proofs.striking.strike_noted.Goals as goal

pub note-requires-clause-place : goal.note-requires-clause-place
note-requires-clause-place c = place_for c.args.tally.now c.args.task.now.fate c.strike.new.task.fate c.of-was.result.tag c.requires c.of-was.ensures.tag

pub note-requires-clause-counted : goal.note-requires-clause-counted
note-requires-clause-counted c = counted_for c.args.tally.now c.args.task.now.fate c.of-was.result.done c.requires c.of-was.ensures.done

pub note-requires-clause-stays : goal.note-requires-clause-stays
note-requires-clause-stays c =
    λ is. subst (λ (t : Task). is_done t.fate ≡ true) (sym c.strike.ensures) ((falls_blow c.args.allowed c.args.at c.args.blow c.args.id c.args.task.now).done (sym c.of-was.ensures.done ∙ is))

pub returns-clause-tally : goal.returns-clause-tally
returns-clause-tally c = noted c.args.tally.now c.note.new.self c.args.task.now.fate c.strike.new.task.fate c.of-was.result.tag c.of-was.result.done c.of-was.ensures.tag c.of-was.ensures.done
    c.note.ensures.ended c.note.ensures.pending c.note.ensures.capacity
