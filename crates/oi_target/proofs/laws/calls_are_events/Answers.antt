use Rattle.oi_target.proofs.Courses.{courses_are_events, writes_are_of_events}
use Rattle.oi_target.proofs.Stays.{closes_by_events}
use Rattle.oi_target.proofs.laws.calls_are_events.Goals as goal

pub returns-clause-target : goal.returns-clause-target
returns-clause-target c = courses_are_events

pub returns-clause-written : goal.returns-clause-written
returns-clause-written c = writes_are_of_events

pub returns-clause-closed : goal.returns-clause-closed
returns-clause-closed c = closes_by_events
