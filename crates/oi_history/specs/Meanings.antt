-- All meanings of a session at one point of its history, and what one entry makes of them: one step for each.
use Rattle.std.specs.Prelude.{ℕ, Bool, false, not, ◌==◌, ◌+◌, ◌-◌, ◌^◌, min, ◌&&◌, ◌++◌, List, [], ◌∷◌, Option, Some, None, is_none, count_by, drop, if◌then◌else◌}
use Rattle.oi_base.specs.declared.login.Params.{Params}
use Rattle.oi_base.specs.declared.tag.Tag.{Tag}
use Rattle.oi_history.specs.Acceptance.{is_current}
use Rattle.oi_history.specs.Connected.{asked_step, echoes_step, heard_step, leaving_step, logged_out_step, logout_step, managed_step, ping_step, rule_on}
use Rattle.oi_history.specs.Courses.{clock_step, is_fail_fast, phase_step}
use Rattle.oi_history.specs.Handling.{handler_step}
use Rattle.oi_history.specs.Locks.{is_joint}
use Rattle.oi_history.specs.Phases.{generation_after}
use Rattle.oi_history.specs.Queues.{queue_step, solicited_step}
use Rattle.oi_history.specs.Recovering.{tasks_step}
use Rattle.oi_history.specs.ConnectionWords.{broken_after, numbering_after, params_after, stat_after}
use Rattle.oi_history.specs.Tags.{allocated_after, free_after, fresh_tags}
use Rattle.oi_history.specs.Tasks.{due_in, is_done, is_live_on}
use Rattle.oi_history.specs.declared.allocated.Allocated.{Allocated}
use Rattle.oi_history.specs.declared.config.SessionConfig.{SessionConfig}
use Rattle.oi_history.specs.declared.event.Event.{Event}
use Rattle.oi_history.specs.declared.event.Event.TheVariants.{Submit, PduIn, Deliver, Login, Issue, Reap, Lost}
use Rattle.oi_history.specs.declared.event.Numbered.{Numbered}
use Rattle.oi_history.specs.declared.fate.Delivered.{Delivered}
use Rattle.oi_history.specs.declared.fate.Fate.{Fate}
use Rattle.oi_history.specs.declared.fate.Fate.TheVariants.{Live}
use Rattle.oi_history.specs.declared.owed.Echo.{Echo}
use Rattle.oi_history.specs.declared.owed.Ping.{Ping}
use Rattle.oi_history.specs.declared.owed.Queued.{Queued}
use Rattle.oi_history.specs.declared.owed.Solicited.{Solicited}
use Rattle.oi_history.specs.declared.owed.Told.{Told}
use Rattle.oi_history.specs.declared.phase.Handler.{Handler}
use Rattle.oi_history.specs.declared.phase.Handler.TheVariants.{Idle}
use Rattle.oi_history.specs.declared.phase.Phase.{Phase}
use Rattle.oi_history.specs.declared.phase.Phase.TheVariants.{First}
use Rattle.oi_history.specs.declared.rule.Rule.{Rule}
use Rattle.oi_history.specs.declared.task.Task.{Task}
use Rattle.oi_window.specs.Numbering.{window_at}
use Rattle.oi_window.specs.declared.window.Window.{Window}

pub record Meanings : Type 0 where
  -- the course
  pub clock : ℕ
  pub phase : Phase
  pub generation : ℕ
  pub params : Option Params
  -- the connection
  pub window : Window
  pub stat : ℕ
  pub told : Told
  pub broken : Option Rule
  pub managed : ℕ
  pub heard : ℕ
  pub ping : Option Ping
  pub echoes : List Echo
  pub asked : List ℕ
  pub leaving : Bool
  pub logout_sent : Bool
  pub logged_out : Bool
  pub handler : Handler
  -- tags, data that wait, submissions
  pub free : List Tag
  pub busy : List Allocated
  pub ended : List Tag
  pub queue : List Queued
  pub solicited : List Solicited
  pub tasks : List Task

-- before the first entry
abbrev pub first_meanings : SessionConfig → Meanings
first_meanings C = record {
  clock = 0;
  phase = First;
  generation = 0;
  params = None;
  window = window_at 0 0;
  stat = 0;
  told = record { stat = 0; pending = 0 };
  broken = None;
  managed = 0;
  heard = 0;
  ping = None;
  echoes = [];
  asked = [];
  leaving = false;
  logout_sent = false;
  logged_out = false;
  handler = Idle;
  free = fresh_tags 0 C.cmds_max;
  busy = [];
  ended = [];
  queue = [];
  solicited = [];
  tasks = [];
}

-- the PDU of an entry is on the live connection, unbroken so far
abbrev pub is_current_in : Event → Meanings → Bool
is_current_in (PduIn generation pdu) m = is_current generation m.phase m.broken
is_current_in e m = false

-- the rule that the PDU of an entry breaks
abbrev pub rule_in : Event → Meanings → Option Rule
rule_in (PduIn generation pdu) m = rule_on m.generation m.managed m.busy m.tasks pdu.head pdu.payload
rule_in e m = None

-- the PDU of an entry counts
abbrev pub accepted_in : Event → Meanings → Bool
accepted_in e m = is_current_in e m && is_none (rule_in e m)

-- a loss makes nothing allocated
abbrev pub allocated_step : Event → List Allocated → List Allocated
allocated_step (Lost generation cause) busy = []
allocated_step e busy = allocated_after e busy

-- the tag on which the submission was live and is no more
abbrev pub tag_over : Fate → Fate → List Tag
tag_over (Live generation tag tries) f = if is_live_on tag.0 f then [] else tag ∷ []
tag_over f g = []

-- in ascending id
abbrev pub tags_over : List Task → List Task → List Tag
tags_over [] us = []
tags_over (t ∷ ts) [] = []
tags_over (t ∷ ts) (u ∷ us) = tag_over t.fate u.fate ++ tags_over ts us

-- the tags that wait for their release, in the order in which they ended
abbrev pub ended_step : Event → List Task → List Task → List Tag → List Tag
ended_step (Login generation params cmdsn max exp_stat) before after ended = []
ended_step (Lost generation cause) before after ended = []
ended_step (Reap tag) before after ended = drop 1 ended
ended_step e before after ended = ended ++ tags_over before after

-- submissions that are not done; far above what may wait the count stands still
abbrev pub unfinished : List Task → ℕ
unfinished tasks = min (count_by (λ t. not (is_done t.fate)) tasks) (2 ^ 32 - 1)

abbrev pub told_by : Event → Told → Told
told_by (Submit id request) told = record { stat = told.stat; pending = min (told.pending + 1) (2 ^ 32 - 1) }
told_by e told = told

abbrev pub told_step : Bool → Event → ℕ → List Task → Told → Told
told_step joint e stat tasks told = if joint then record { stat = stat; pending = unfinished tasks } else told_by e told

-- the meanings after an entry with the number `at`
abbrev pub step : SessionConfig → Event → ℕ → Meanings → Meanings
step C e at m = record {
  clock = clock_step e m.clock;
  phase = phase_step C m.clock e m.phase;
  generation = generation_after e m.generation;
  params = params_after e m.params;
  window = numbering_after (accepted_in e m) e m.window;
  stat = stat_after (accepted_in e m) e m.stat;
  told = told_step (is_joint (is_fail_fast m.phase) m.told.pending e) e (stat_after (accepted_in e m) e m.stat)
      (tasks_step C at (accepted_in e m) m.phase m.handler m.busy e m.tasks) m.told;
  broken = broken_after (is_current_in e m) (rule_in e m) e m.broken;
  managed = managed_step e m.managed;
  heard = heard_step m.clock (accepted_in e m) e m.heard;
  ping = ping_step m.clock (accepted_in e m) e m.ping;
  echoes = echoes_step (accepted_in e m) e m.echoes;
  asked = asked_step (accepted_in e m) e m.asked;
  leaving = leaving_step e m.leaving;
  logout_sent = logout_step e m.logout_sent;
  logged_out = logged_out_step (accepted_in e m) m.leaving e m.logged_out;
  handler = handler_step C m.clock (accepted_in e m) m.tasks e m.handler;
  free = free_after C.cmds_max e m.free;
  busy = allocated_step e m.busy;
  ended = ended_step e m.tasks (tasks_step C at (accepted_in e m) m.phase m.handler m.busy e m.tasks) m.ended;
  queue = queue_step m.params m.busy m.tasks m.solicited e m.queue;
  solicited = solicited_step (accepted_in e m) e m.solicited;
  tasks = tasks_step C at (accepted_in e m) m.phase m.handler m.busy e m.tasks;
}

abbrev pub meanings : SessionConfig → List Numbered → Meanings
meanings C [] = first_meanings C
meanings C (n ∷ H) = step C n.event n.number (meanings C H)

-- what an entry hands out, and what was handed out so far, in order
abbrev pub handed_in : Event → Meanings → List Delivered
handed_in (Deliver count) m = due_in m.tasks
handed_in e m = []

abbrev pub handed_so_far : SessionConfig → List Numbered → List Delivered
handed_so_far C [] = []
handed_so_far C (n ∷ H) = handed_so_far C H ++ handed_in n.event (meanings C H)

-- the last command of a submission: its tag and CmdSN
abbrev pub issue_in : ℕ → Event → Option Allocated → Option Allocated
issue_in id (Issue k generation tag cmdsn) before = if k == id then Some (record { tag = tag; id = id; cmdsn = cmdsn }) else before
issue_in id e before = before

abbrev pub last_issue : ℕ → List Numbered → Option Allocated
last_issue id [] = None
last_issue id (n ∷ H) = issue_in id n.event (last_issue id H)
