-- What is owed, found before the release of tags.
use Rattle.std.proofs.Common.{◌≡◌, ◌≤◌, ◌+◌, ◌∙◌, ◌&&◌, ◌||◌, ℕ, Bool, true, false, not, List, [], ◌∷◌, ◌++◌, Option, Some, None, sym, ap, subst, refl, arith, append-nil, filter, length, slice_get, is_some, if◌then◌else◌}
use Rattle.std.specs.List.{flat_map}
use Rattle.std.specs.Option.{option_map_or}
use Rattle.oi_base.specs.declared.tag.Tag.{Tag}
use Rattle.oi_history.proofs.Asked.{Stays, reaped_stays}
use Rattle.oi_history.proofs.Released.{drawable_released, drawn-fewer, drawn_released, queue_left, released_is, released_told}
use Rattle.oi_history.specs.Handling.{is_idle}
use Rattle.oi_history.specs.Meanings.{Meanings}
use Rattle.oi_history.specs.Owing.{data_out, logout_pdu, management_pdu, nop_pdu, pdu_in, referenced, subject_lun, drawn_next, drawn_with, echo_next, issue_next, issue_with, logout_next, managed_next, next_after_data, next_management, or_else, owed_in, ping_next, queued_next, sendable}
use Rattle.oi_history.specs.Phases.{has_connection}
use Rattle.oi_history.specs.Queues.{drawn, drawn_by, unasked}
use Rattle.oi_history.specs.Releasing.{Names, Sends, behind, counts_left, data_left, draw_of, entries_of, next_left, pieces_of, ready, released, told_stat}
use Rattle.oi_history.specs.Ledgers.{queued_in}
use Rattle.oi_history.specs.declared.config.SessionConfig.{SessionConfig}
use Rattle.oi_history.specs.declared.event.Event.{Event}
use Rattle.oi_history.specs.declared.event.Event.TheVariants.{Draw, Issue, Logout, Manage, Nop}
use Rattle.oi_history.specs.declared.event.Subject.{Subject}
use Rattle.oi_history.specs.declared.event.Subject.TheVariants.{Task as OneTask, Lun, Whole}
use Rattle.oi_history.specs.declared.allocated.Allocated.{Allocated}
use Rattle.oi_history.specs.declared.owed.Queued.{Queued}
use Rattle.oi_history.specs.declared.owing.Owed.{Owed}
use Rattle.oi_history.specs.declared.rule.Rule.{Rule}
use Rattle.oi_history.specs.declared.task.Task.{Task}
use Rattle.oi_pdu.specs.declared.codec.Pdu.{Pdu}
use Rattle.oi_base.specs.declared.serial.Serial.{Serial}
use Rattle.oi_window.specs.Numbering.{is_open, next_of}
use Rattle.oi_window.specs.declared.window.Window.{Window}

-- what is owed is never the first of two lists where it is something
some_at : (draw : Option ℕ) (send : Event) (es : List Event) → or_else (draw_of draw ++ send ∷ []) es ≡ draw_of draw ++ send ∷ []
some_at None send es = refl
some_at (Some count) send es = refl

pub else_some : (o : Owed) (first es : List Event) → entries_of (Some o) ≡ first → or_else first es ≡ entries_of (Some o)
else_some o first es is = rw (← is) (some_at o.draw o.send es)

pub else_none : (first es : List Event) → [] ≡ first → or_else first es ≡ es
else_none first es is = rw (← is) refl

-- R2Ts and commands
pub drawn_is : (C : SessionConfig) (m : Meanings) → drawn_next m.generation (released C m)
    ≡ drawn_with m.generation (length (filter (counts_left m.ended m.busy m.tasks) m.solicited)) (flat_map (drawn_by m.params m.busy) (filter (counts_left m.ended m.busy m.tasks) m.solicited))
drawn_is C m = rw (drawn_released C m, drawable_released C m) refl

pub issue_is : (C : SessionConfig) (m : Meanings) → issue_next C m.generation (released C m)
    ≡ (if is_idle m.handler && not m.leaving && is_open m.window then issue_with m.generation (next_of m.window) (sendable C.queue_depth m.tasks) (slice_get (m.free ++ m.ended) 0) else [])
issue_is C m = let r = released_is C m in rw (r.handler, r.leaving, r.window, r.tasks, r.free) refl

-- all of it

after_left : (C : SessionConfig) (m : Meanings) (queue : List Queued) → Stays m (released C m) queue → next_after_data C m.generation (released C m) ≡ next_left C m
after_left C m queue s =
    let r = released C m in
    let leaving : r.leaving ≡ m.leaving = ap (λ t. t.leaving) s.tracker in
    let managed : r.managed ≡ m.managed = ap (λ t. t.managed) s.tracker in
    let handler : r.handler ≡ m.handler = ap (λ t. t.handler) s.tracker in
    let heard : r.heard ≡ m.heard = ap (λ t. t.heard) s.tracker in
    let ping : r.ping ≡ m.ping = ap (λ t. t.ping) s.tracker in
    let clock : r.clock ≡ m.clock = ap (λ t. t.clock) s.tracker in
    let lo : logout_next m.generation r ≡ logout_next m.generation m = rw (leaving, managed, s.generation) refl in
    let ms : managed_next m.generation (next_management r) r.handler ≡ managed_next m.generation (next_management m) m.handler = rw (managed, s.generation, handler) refl in
    let echo : echo_next m.generation r.echoes ≡ echo_next m.generation m.echoes = rw s.echoes refl in
    let pings : ping_next C m.generation r ≡ ping_next C m.generation m = rw (heard, ping, clock, managed, s.generation) refl in
    rw (lo, ms, echo, pings) refl

abbrev pub owed_left : Bool → List Event → Option Rule → List Event → List Event
owed_left off first broken rest = if off then [] else or_else first (if is_some broken then [] else rest)

pub owed_is : (C : SessionConfig) (m : Meanings) → owed_in C m ≡ owed_left (m.logout_sent || not (has_connection m.phase)) (queued_next m.generation (data_left m.ended m.queue)) m.broken (next_left C m)
owed_is C m =
    let r = released C m in
    let s = reaped_stays C m.ended m in
    let sent : r.logout_sent ≡ m.logout_sent = ap (λ t. t.logout_sent) s.tracker in
    let phase : r.phase ≡ m.phase = ap (λ t. t.phase) s.tracker in
    rw (sent, phase, queue_left C m, s.broken, after_left C m _ s) refl

-- its four ends

pub owed_off : (C : SessionConfig) (m : Meanings) → (m.logout_sent || not (has_connection m.phase)) ≡ true → owed_in C m ≡ []
owed_off C m off = owed_is C m ∙ (rw off refl)

first_some : (o : Option Owed) (first es : List Event) → is_some o ≡ true → entries_of o ≡ first → or_else first es ≡ entries_of o
first_some None first es some is = absurd cc
first_some (Some o) first es some is = else_some o first es is

first_none : (o : Option Owed) (first es : List Event) → is_some o ≡ false → entries_of o ≡ first → or_else first es ≡ es
first_none None first es none is = else_none first es is
first_none (Some o) first es none is = absurd cc

pub owed_queued : (C : SessionConfig) (m : Meanings) (o : Option Owed) → (m.logout_sent || not (has_connection m.phase)) ≡ false → is_some o ≡ true → entries_of o ≡ queued_next m.generation (data_left m.ended m.queue) → entries_of o ≡ owed_in C m
owed_queued C m o going some is = sym (owed_is C m ∙ (rw going (first_some o _ _ some is)))

pub owed_broken : (C : SessionConfig) (m : Meanings) (o : Option Owed) → (m.logout_sent || not (has_connection m.phase)) ≡ false → is_some o ≡ false → entries_of o ≡ queued_next m.generation (data_left m.ended m.queue) → is_some m.broken ≡ true → [] ≡ owed_in C m
owed_broken C m o going none is broken = sym (owed_is C m ∙ (rw (going, broken) (first_none o _ _ none is)))

pub owed_rest : (C : SessionConfig) (m : Meanings) (o : Option Owed) → (m.logout_sent || not (has_connection m.phase)) ≡ false → is_some o ≡ false → entries_of o ≡ queued_next m.generation (data_left m.ended m.queue) → is_some m.broken ≡ false → next_left C m ≡ owed_in C m
owed_rest C m o going none is whole = sym (owed_is C m ∙ (rw (going, whole) (first_none o _ _ none is)))

-- what is sent, and what room it takes

abbrev pub pieces_drawn : Bool → Meanings → List Queued
pieces_drawn drawn m = if drawn then flat_map (drawn_by m.params m.busy) (filter (counts_left m.ended m.busy m.tasks) m.solicited) else []

sends_at : (C : SessionConfig) (m : Meanings) (draw : Option ℕ) (send : Event)
    → Sends m (behind C (draw_of draw) (released C m)) (if is_some draw then m.stat else told_stat m.ended m) (slice_get (data_left m.ended m.queue ++ pieces_drawn (is_some draw) m) 0)
sends_at C m None send =
    let r = released_is C m in
    record { params = r.params; stat = r.stat; window = r.window; tasks = r.tasks; told = released_told C m; first = ap (λ (qs : List Queued). slice_get qs 0) (queue_left C m ∙ sym (append-nil (data_left m.ended m.queue))) }
sends_at C m (Some count) send =
    let r = released_is C m in
    record { params = r.params; stat = r.stat; window = r.window; tasks = r.tasks; told = r.stat; first = ap (λ (qs : List Queued). slice_get qs 0) (rw (queue_left C m, drawn_released C m) refl) }

pub sends : (C : SessionConfig) (m : Meanings) (o : Owed) (told : ℕ) (first : Option Queued) → told ≡ (if is_some o.draw then m.stat else told_stat m.ended m)
    → first ≡ slice_get (data_left m.ended m.queue ++ (if is_some o.draw then flat_map (drawn_by m.params m.busy) (filter (counts_left m.ended m.busy m.tasks) m.solicited) else [])) 0 → Sends m (ready C o m) told first
sends C m o told first is at = rw (is, at) (sends_at C m o.draw o.send)

pub pieces_append : (m : Meanings) (xs ys : List Event) → pieces_of m (xs ++ ys) ≡ pieces_of m xs + pieces_of m ys
pieces_append m [] ys = omega arith
pieces_append m (x ∷ xs) ys = omega (arith, pieces_append m xs ys)

pub drawn_room : (C : SessionConfig) (m : Meanings) (n count : ℕ) → n ≡ length (drawn m.params m.busy m.tasks m.solicited) → queued_in (released C m) (Draw count) ≤ n
drawn_room C m n count is = omega (arith, is, ap length (drawn_released C m), drawn-fewer m.params m.ended m.busy m.tasks m.solicited)

pub issue_room : (C : SessionConfig) (m : Meanings) (id generation cmdsn : ℕ) (tag : Tag) → queued_in (released C m) (Issue id generation tag cmdsn) ≡ length (unasked m.params id tag (slice_get m.tasks id))
issue_room C m id generation cmdsn tag = let r = released_is C m in rw (r.params, r.tasks) refl

pub serial_is : (w : Window) (s : Serial) → s.0 ≡ next_of w → w.next ≡ s
serial_is w s is = ap (λ (n : ℕ). let made : Serial = record { 0 = n } in made) (sym is)

pub drawing_room : (C : SessionConfig) (m : Meanings) (n : ℕ) (draw : Option ℕ) → n ≡ length (drawn m.params m.busy m.tasks m.solicited) → pieces_of (released C m) (draw_of draw) ≤ n
drawing_room C m n None is = omega arith
drawing_room C m n (Some count) is = omega (arith, drawn_room C m n count is)

pub issuing_room : (C : SessionConfig) (m : Meanings) (e : Event) (n id generation cmdsn : ℕ) (tag : Tag) → e ≡ Issue id generation tag cmdsn → n ≡ length (unasked m.params id tag (slice_get m.tasks id)) → queued_in (released C m) e + 0 ≤ n
issuing_room C m e n id generation cmdsn tag is has = rw is (omega (arith, has, issue_room C m id generation cmdsn tag))

pub taking_room : (C : SessionConfig) (m : Meanings) (e : Event) (n count : ℕ) → e ≡ Draw count → n ≡ length (drawn m.params m.busy m.tasks m.solicited) → queued_in (released C m) e + 0 ≤ n
taking_room C m e n count is has = rw is (omega (arith, drawn_room C m n count has))

pub owing_room : (m : Meanings) (o : Owed) (n k : ℕ) → pieces_of m (draw_of o.draw) ≤ n → pieces_of m (o.send ∷ []) ≤ k → pieces_of m (entries_of (Some o)) ≤ n + k
owing_room m o n k draws goes = omega (arith, draws, goes, pieces_append m (draw_of o.draw) (o.send ∷ []))

pub data_is : (r : Meanings) (id ttt number offset size : ℕ) (last : Bool) (first : Option Queued) (q : Queued) (tasks : List Task) (t : Task) (p : Pdu) → first ≡ Some q → Some t ≡ slice_get tasks id
    → data_out r id ttt number offset size last (Some q.tag) (Some t) ≡ p ∷ [] → data_out r id ttt number offset size last (option_map_or (λ (x : Queued). Some x.tag) first None) (slice_get tasks id) ≡ p ∷ []
data_is r id ttt number offset size last first q tasks t p front at is = rw (front, ← at) is

-- a request of the error handler names the last command of its task

abbrev task_of : ℕ → Subject → ℕ
task_of d (OneTask id) = id
task_of d (Lun lun) = d
task_of d Whole = d

names_it : (generation f : ℕ) (tag : Tag) (subject : Subject) (issue : Option Allocated) (last : ℕ → Option Allocated) → Names (Manage generation tag f subject) issue last → (id : ℕ) → subject ≡ OneTask id → issue ≡ last id
names_it generation f tag (OneTask k) issue last names id is = names ∙ ap last (ap (λ (s : Subject). task_of k s) is)
names_it generation f tag (Lun lun) issue last names id is = absurd cc
names_it generation f tag Whole issue last names id is = absurd cc

pub manage_sent : (m r : Meanings) (stat : ℕ) (front : Option Queued) (last : ℕ → Option Allocated) (e : Event) (generation f : ℕ) (tag : Tag) (subject : Subject) (issue : Option Allocated) (p : Pdu) → Sends m r stat front → Names e issue last → e ≡ Manage generation tag f subject
    → (((id : ℕ) → subject ≡ OneTask id → issue ≡ last id) → p ≡ management_pdu r tag f (subject_lun m.tasks subject) (referenced last subject)) → pdu_in r last e ≡ p ∷ []
manage_sent m r stat front last e generation f tag subject issue p s names is made =
    let named : Names (Manage generation tag f subject) issue last = subst (λ (x : Event). Names x issue last) is names in
    rw (is, made (names_it generation f tag subject issue last named), s.tasks) refl

pub nop_sent : (r : Meanings) (last : ℕ → Option Allocated) (e : Event) (generation tag ttt : ℕ) (lun : List ℕ) (p : Pdu) → e ≡ Nop generation tag ttt lun → p ≡ nop_pdu r tag ttt lun → pdu_in r last e ≡ p ∷ []
nop_sent r last e generation tag ttt lun p is made = rw (is, made) refl

pub logout_sent_as : (r : Meanings) (last : ℕ → Option Allocated) (e : Event) (generation : ℕ) (tag : Tag) (p : Pdu) → e ≡ Logout generation tag → p ≡ logout_pdu r tag → pdu_in r last e ≡ p ∷ []
logout_sent_as r last e generation tag p is made = rw (is, made) refl
