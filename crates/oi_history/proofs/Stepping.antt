-- The steps of all words together.
use Rattle.std.proofs.Common.{◌≡◌, ◌∙◌, ◌&&◌, ◌++◌, ℕ, Bool, true, false, List, Option, Some, None, ap, is_none, length, refl, sym}
use Rattle.std.proofs.lemmas.Bool.{false≢true}
use Rattle.oi_history.proofs.Drawing.{unasked-same}
use Rattle.oi_history.specs.Ledgers.{IsWithin, queued_by, queued_in}
use Rattle.oi_history.specs.declared.allocated.Allocated.{Allocated}
use Rattle.oi_history.specs.declared.event.Event.TheVariants.{Issue, Draw}
use Rattle.oi_history.specs.declared.owed.Queued.{Queued}
use Rattle.oi_history.specs.declared.owed.Solicited.{Solicited}
use Rattle.oi_history.specs.declared.phase.Handler.{Handler}
use Rattle.oi_history.specs.declared.phase.Phase.{Phase}
use Rattle.oi_history.specs.declared.task.Task.{Task}
use Rattle.oi_base.specs.declared.login.Params.{Params}
use Rattle.oi_history.specs.Connected.{asked_step, echoes_step}
use Rattle.oi_history.specs.Courses.{is_fail_fast}
use Rattle.oi_history.specs.Locks.{is_joint}
use Rattle.oi_history.specs.Meanings.{Meanings, allocated_step, ended_step, is_current_in, rule_in, step, told_step}
use Rattle.oi_history.specs.Phases.{generation_after}
use Rattle.oi_history.specs.Queues.{queue_step, solicited_step}
use Rattle.oi_history.specs.Recovering.{tasks_step}
use Rattle.oi_history.specs.ConnectionWords.{broken_after, numbering_after, params_after, stat_after}
use Rattle.oi_history.specs.Tags.{free_after}
use Rattle.oi_history.specs.Trackers.{tracked}
use Rattle.oi_history.specs.declared.config.SessionConfig.{SessionConfig}
use Rattle.oi_history.specs.declared.event.Event.{Event}
use Rattle.oi_history.specs.declared.owed.Told.{Told}
use Rattle.oi_history.specs.declared.rule.Rule.{Rule}
use Rattle.oi_history.specs.declared.tracker.Tracker.{Tracker}
use Rattle.oi_window.specs.declared.window.Window.{Window}

abbrev pub tracker_of : Meanings → Tracker
tracker_of m = record {
  clock = m.clock;
  phase = m.phase;
  managed = m.managed;
  heard = m.heard;
  ping = m.ping;
  leaving = m.leaving;
  logout_sent = m.logout_sent;
  logged_out = m.logged_out;
  handler = m.handler;
}

-- the lists of one, and the single facts given
abbrev pub with_facts : Tracker → ℕ → Option Params → Window → ℕ → Told → Option Rule → Meanings → Meanings
with_facts t generation params window stat told broken m = record {
  clock = t.clock;
  phase = t.phase;
  generation = generation;
  params = params;
  window = window;
  stat = stat;
  told = told;
  broken = broken;
  managed = t.managed;
  heard = t.heard;
  ping = t.ping;
  echoes = m.echoes;
  asked = m.asked;
  leaving = t.leaving;
  logout_sent = t.logout_sent;
  logged_out = t.logged_out;
  handler = t.handler;
  free = m.free;
  busy = m.busy;
  ended = m.ended;
  queue = m.queue;
  solicited = m.solicited;
  tasks = m.tasks;
}

abbrev pub submissions_stepped : SessionConfig → ℕ → Bool → Event → Meanings → Meanings
submissions_stepped C at accepted e m = record m {
  tasks = tasks_step C at accepted m.phase m.handler m.busy e m.tasks;
  ended = ended_step e m.tasks (tasks_step C at accepted m.phase m.handler m.busy e m.tasks) m.ended;
  busy = allocated_step e m.busy;
}

abbrev pub queue_stepped : Event → Meanings → Meanings
queue_stepped e m = record m { queue = queue_step m.params m.busy m.tasks m.solicited e m.queue }

abbrev pub heard_stepped : Bool → Event → Meanings → Meanings
heard_stepped accepted e m = record m { solicited = solicited_step accepted e m.solicited; echoes = echoes_step accepted e m.echoes; asked = asked_step accepted e m.asked }

abbrev pub free_stepped : SessionConfig → Event → Meanings → Meanings
free_stepped C e m = record m { free = free_after C.cmds_max e m.free }

-- what an entry asks of the queue is the same behind its step of the submissions
pub queued_after : (C : SessionConfig) (at : ℕ) (accepted : Bool) (p : Phase) (h : Handler) (params : Option Params) (busy : List Allocated) (rs : List Solicited) (e : Event) (ts : List Task)
    → queued_by params (allocated_step e busy) (tasks_step C at accepted p h busy e ts) rs e ≡ queued_by params busy ts rs e
queued_after C at accepted p h params busy rs (Issue id generation tag cmdsn) ts = ap length (unasked-same params id id generation tag tag ts)
queued_after C at accepted p h params busy rs (Draw count) ts = refl
queued_after C at accepted p h params busy rs e ts = refl

pub queue_after : (C : SessionConfig) (at : ℕ) (accepted : Bool) (p : Phase) (h : Handler) (params : Option Params) (busy : List Allocated) (rs : List Solicited) (e : Event) (ts : List Task) (queue : List Queued)
    → queue_step params (allocated_step e busy) (tasks_step C at accepted p h busy e ts) rs e queue ≡ queue_step params busy ts rs e queue
queue_after C at accepted p h params busy rs (Issue id generation tag cmdsn) ts queue = ap (λ (z : List Queued). queue ++ z) (unasked-same params id id generation tag tag ts)
queue_after C at accepted p h params busy rs (Draw count) ts queue = refl
queue_after C at accepted p h params busy rs e ts queue = refl

-- one after another they are the step
pub all_stepped : (C : SessionConfig) (e : Event) (at : ℕ) (m m1 m2 m3 m4 : Meanings) (accepted current : Bool) (rule : Option Rule) (t : Tracker) (generation : ℕ) (params : Option Params) (window : Window)
    (stat : ℕ) (told : Told) (broken : Option Rule) → current ≡ is_current_in e m → rule ≡ rule_in e m → accepted ≡ (current && is_none rule) → t ≡ tracked C accepted m.tasks e (tracker_of m)
    → generation ≡ generation_after e m.generation → params ≡ params_after e m.params → window ≡ numbering_after accepted e m.window → stat ≡ stat_after accepted e m.stat
    → broken ≡ broken_after current rule e m.broken → m1 ≡ submissions_stepped C at accepted e m → m2 ≡ queue_stepped e m1 → m3 ≡ heard_stepped accepted e m2 → m4 ≡ free_stepped C e m3
    → told ≡ told_step (is_joint (is_fail_fast m.phase) m.told.pending e) e stat m4.tasks m.told → with_facts t generation params window stat told broken m4 ≡ step C e at m
all_stepped C e at m m1 m2 m3 m4 accepted current rule t generation params window stat told broken cur ru acc tr ge pa wi st br one two three four to =
    rw (to, four, three, two, one, queue_after C at accepted m.phase m.handler m.params m.busy m.solicited e m.tasks m.queue, tr, ge, pa, wi, st, br, acc, cur, ru) refl

-- room, through the parts

-- a PDU that counts breaks no rule
pub within : (current accepted : Bool) (rule : Option Rule) (e : Event) → accepted ≡ (current && is_none rule) → (rule ≡ None → IsWithin e) → accepted ≡ true → IsWithin e
within current accepted None e is h counts = h refl
within true accepted (Some rule) e is h counts = absurd (false≢true (sym is ∙ counts))
within false accepted (Some rule) e is h counts = absurd (false≢true (sym is ∙ counts))

pub queued_stepped : (C : SessionConfig) (at : ℕ) (accepted : Bool) (e : Event) (m m1 : Meanings) → m1 ≡ submissions_stepped C at accepted e m → queued_in m1 e ≡ queued_in m e
queued_stepped C at accepted e m m1 is = ap (λ (z : Meanings). queued_in z e) is ∙ queued_after C at accepted m.phase m.handler m.params m.busy m.solicited e m.tasks
