-- The course and the connection as the code keeps them.
use Rattle.std.specs.Prelude.{Bool, List}
use Rattle.oi_history.specs.Connected.{heard_step, leaving_step, logged_out_step, logout_step, managed_step, ping_step}
use Rattle.oi_history.specs.Courses.{clock_step, phase_step}
use Rattle.oi_history.specs.Handling.{handler_step}
use Rattle.oi_history.specs.declared.config.SessionConfig.{SessionConfig}
use Rattle.oi_history.specs.declared.event.Event.{Event}
use Rattle.oi_history.specs.declared.task.Task.{Task}
use Rattle.oi_history.specs.declared.tracker.Tracker.{Tracker}

abbrev pub tracked : SessionConfig → Bool → List Task → Event → Tracker → Tracker
tracked C accepted tasks e t = record {
  clock = clock_step e t.clock;
  phase = phase_step C t.clock e t.phase;
  managed = managed_step e t.managed;
  heard = heard_step t.clock accepted e t.heard;
  ping = ping_step t.clock accepted e t.ping;
  leaving = leaving_step e t.leaving;
  logout_sent = logout_step e t.logout_sent;
  logged_out = logged_out_step accepted t.leaving e t.logged_out;
  handler = handler_step C t.clock accepted tasks e t.handler;
}
