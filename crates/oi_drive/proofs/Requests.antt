-- A line adds the submission that it asks for.
use Rattle.std.proofs.Common.{◌≡◌, inl, inr, ◌∙◌, ◌==◌, ◌||◌, ◌&&◌, ℕ, suc, zero, Bool, true, false, not, List, [], ◌∷◌, ◌++◌, ◌+◌, Option, Some, None, length, map, replicate, take, sym, ap, refl, append_assoc, append-nil, is_some, nat_le, nat_lt, slice_get, if◌then◌else◌}
use Rattle.std.specs.List.{flat_map}
use Rattle.oi_base.specs.Limits.{input_limit, line_limit, most_pending}
use Rattle.oi_base.specs.declared.tag.Tag.{Tag}
use Rattle.oi_drive.specs.Deeds.{Deed, aborts_at, cuts, ends_stream, expires, fails, followed, hands_out, hands_out_by, heeds, if_done as follows, if_sent, joined, leaves, live_on, logs_in, loses, makes, nothing, on_link, outcome_lines, refuses, resets, sends, submits, takes, takes_all, ticks, turn_text, turns, due_of_session}
use Rattle.oi_drive.specs.Endings.{IsEndedBy, terminated}
use Rattle.oi_drive.specs.Parts.{IsBetween}
use Rattle.oi_drive.specs.Requests.{asked_by, byte_request, end_request, fed_requests, if_done, input_requests, line_request, request_by, request_of, requests_in}
use Rattle.oi_drive.specs.Worlds.{Link, World, bad, base, base_by, begins, byte_step, deed_of, entries_by, fault_of, feed, feed_byte, input_end, input_over, input_world, last_line, line_base, line_by, line_deed, line_entries, line_step, link_at, one_more, receives_on, set_to, settles, stopped_at_end, unused}
use Rattle.oi_drive.specs.declared.answer.Answer.{Answer}
use Rattle.oi_drive.specs.declared.answer.Answer.TheVariants.{Done, Refused, Outside, Spent}
use Rattle.oi_base.specs.TagLayout.{reserved_tag}
use Rattle.oi_base.specs.declared.login.LoginDone.{LoginDone}
use Rattle.std.specs.Option.{option_map_or}
use Rattle.oi_drive.specs.declared.runner.Stop.TheVariants.{InputEnd}
use Rattle.oi_history.specs.Handling.{is_idle, is_live, is_spent}
use Rattle.oi_history.specs.Losses.{is_cause, is_ping_late}
use Rattle.oi_history.specs.Queues.{drawable, drawn}
use Rattle.oi_history.specs.Meanings.{Meanings}
use Rattle.oi_history.specs.Owing.{drawn_next, drawn_with, echo_next, issue_next, issue_with, logout_next, managed_next, is_send, next_after_data, next_in, next_management, or_else, ping_next, queued_next, reaped, sendable}
use Rattle.oi_history.specs.Phases.{has_connection, is_ended, is_logged_in}
use Rattle.oi_history.specs.Tasks.{is_done as is_over}
use Rattle.oi_history.specs.declared.config.SessionConfig.{SessionConfig}
use Rattle.oi_history.specs.declared.event.Event.{Event}
use Rattle.oi_history.specs.declared.event.Event.TheVariants.{Abort, Deliver, Leave, Logout, Lost, Nop, PduIn, Reap, ResetLun, ResetTarget, Submit, Terminate, Tick}
use Rattle.oi_history.specs.declared.event.Numbered.{Numbered}
use Rattle.oi_history.specs.declared.fate.Delivered.{Delivered}
use Rattle.oi_history.specs.declared.owed.Echo.{Echo}
use Rattle.oi_history.specs.declared.owed.Queued.{Queued}
use Rattle.oi_history.specs.declared.phase.End.{End as Cause}
use Rattle.oi_history.specs.declared.phase.Handler.{Handler}
use Rattle.oi_history.specs.declared.phase.Handler.TheVariants.{Aborting, ResettingLun, ResettingTarget}
use Rattle.oi_history.specs.declared.phase.LostCause.{LostCause}
use Rattle.oi_history.specs.declared.phase.LostCause.TheVariants.{Asked, Broken, Cut, Handler as Late, Ping}
use Rattle.oi_history.specs.declared.task.Task.{Task}
use Rattle.oi_pdu.specs.declared.codec.Pdu.{Pdu}
use Rattle.oi_script.specs.Lines.{drive_line}
use Rattle.oi_script.specs.declared.line.DriveLine.{DriveLine}
use Rattle.oi_script.specs.declared.line.DriveLine.TheVariants.{Skip, Set, Login, Submit as SubmitLine, Send, Recv, Cut as CutLine, Tick as TickLine, Abort as AbortLine, ResetLun as ResetLunLine, ResetTarget as ResetTargetLine, Leave as LeaveLine, Window, End}
use Rattle.oi_script.specs.Notices.{lost_text}
use Rattle.oi_script.specs.Printed.{login_text}
use Rattle.oi_script.specs.Settings.{setting_of}
use Rattle.oi_script.specs.declared.notices.Refusal.TheVariants.{Busy, Ended, Full, LoggedIn as LoggedInAlready, NotLoggedIn, TooLate}
use Rattle.oi_scsi.specs.declared.request.Request.{Request}
use Rattle.oi_solo.specs.Limits.{spent_by}
use Rattle.oi_solo.specs.Calls.{login_of, reading_of, received_of, turn_of}
use Rattle.oi_solo.specs.Sessions.{Session, entered, entered_all, now_of, owed_of, pending_of, releases}
use Rattle.oi_solo.specs.declared.answers.Received.{Received}
use Rattle.oi_solo.specs.declared.answers.Received.TheVariants as received
use Rattle.oi_history.specs.declared.rule.Rule.{Rule}
use Rattle.oi_stream.specs.Bytewise.{fed}
use Rattle.oi_timers.specs.Ping.{ping_due}
use Rattle.oi_window.specs.Numbering.{is_open, next_of}

abbrev asked : Session → List Request
asked s = requests_in s.history

abbrev reqs : List Event → List Request
reqs es = flat_map request_of es

reqs-append : (xs ys : List Event) → reqs (xs ++ ys) ≡ reqs xs ++ reqs ys
reqs-append [] ys = refl
reqs-append (x ∷ xs) ys = ap (λ (z : List Request). request_of x ++ z) (reqs-append xs ys) ∙ sym (append_assoc (request_of x) (reqs xs) (reqs ys))

entered_asks : (s : Session) (es : List Event) → asked (entered_all s es) ≡ asked s ++ reqs es
entered_asks s [] = sym (append-nil (asked s))
entered_asks s (e ∷ es) = entered_asks (entered s e) es ∙ append_assoc (asked s) (request_of e) (reqs es)

-- deeds without a request

abbrev IsQuiet : List Event → Type 0
IsQuiet es = reqs es ≡ []

quiet-append : (xs ys : List Event) → IsQuiet xs → IsQuiet ys → IsQuiet (xs ++ ys)
quiet-append xs ys p q = reqs-append xs ys ∙ rw (p, q) refl

quiet_if : (b : Bool) (d e : Deed) → IsQuiet d.entries → IsQuiet e.entries → IsQuiet (if b then d else e).entries
quiet_if true d e p q = p
quiet_if false d e p q = q

quiet_makes : (s : Session) (es : List Event) (text : List ℕ) → IsQuiet es → IsQuiet (makes s es text).entries
quiet_makes s es text p = quiet_if (is_some (spent_by s es)) (fails Spent) (record { entries = es; text = text; answer = Done }) refl p

quiet_follows : (a : Answer) (d e : Deed) → IsQuiet d.entries → IsQuiet e.entries → IsQuiet (follows a d e).entries
quiet_follows Done d e p q = quiet-append d.entries e.entries p q
quiet_follows (Refused word) d e p q = p
quiet_follows Outside d e p q = p
quiet_follows Spent d e p q = p

quiet_followed : (s : Session) (d : Deed) (f : Session → Deed) → IsQuiet d.entries → ((t : Session) → IsQuiet (f t).entries) → IsQuiet (followed s d f).entries
quiet_followed s d f p q = quiet_follows d.answer d (f (entered_all s d.entries)) p (q (entered_all s d.entries))

quiet_link : (o : Option ℕ) (f : ℕ → Deed) (d : Deed) → ((g : ℕ) → IsQuiet (f g).entries) → IsQuiet d.entries → IsQuiet (on_link o f d).entries
quiet_link None f d p q = q
quiet_link (Some g) f d p q = p g

-- what is owed

quiet-choice : (b : Bool) (xs ys : List Event) → IsQuiet xs → IsQuiet ys → IsQuiet (if b then xs else ys)
quiet-choice true xs ys p q = p
quiet-choice false xs ys p q = q

quiet-else : (xs ys : List Event) → IsQuiet xs → IsQuiet ys → IsQuiet (or_else xs ys)
quiet-else [] ys p q = q
quiet-else (x ∷ xs) ys p q = p

quiet_queued : (g : ℕ) (queue : List Queued) → IsQuiet (queued_next g queue)
quiet_queued g [] = refl
quiet_queued g (q ∷ queue) = refl

quiet_managed : (g : ℕ) (tag : Tag) (h : Handler) → IsQuiet (managed_next g tag h)
quiet_managed g tag (Aborting id None since) = refl
quiet_managed g tag (ResettingLun lun None since) = refl
quiet_managed g tag (ResettingTarget None since) = refl
quiet_managed g tag h = refl

quiet_echo : (g : ℕ) (echoes : List Echo) → IsQuiet (echo_next g echoes)
quiet_echo g [] = refl
quiet_echo g (e ∷ echoes) = refl

quiet_drawn : (g count : ℕ) (qs : List Queued) → IsQuiet (drawn_with g count qs)
quiet_drawn g count [] = refl
quiet_drawn g count (q ∷ qs) = refl

quiet_issue : (g cmdsn : ℕ) (id : Option ℕ) (tag : Option Tag) → IsQuiet (issue_with g cmdsn id tag)
quiet_issue g cmdsn (Some id) (Some tag) = refl
quiet_issue g cmdsn (Some id) None = refl
quiet_issue g cmdsn None tag = refl

quiet_ping : (C : SessionConfig) (g : ℕ) (m : Meanings) → IsQuiet (ping_next C g m)
quiet_ping C g m =
    quiet-choice (is_send (ping_due m.heard (option_map_or (λ p. Some p.sent) m.ping None) C.noop_interval C.noop_timeout m.clock))
    (Nop g (next_management m).0 reserved_tag (replicate 8 0) ∷ []) [] refl refl

quiet_logout : (g : ℕ) (m : Meanings) → IsQuiet (logout_next g m)
quiet_logout g m = quiet-choice m.leaving (Logout g (next_management m) ∷ []) [] refl refl

quiet_draws : (g : ℕ) (m : Meanings) → IsQuiet (drawn_next g m)
quiet_draws g m = quiet_drawn g (length (drawable m.busy m.tasks m.solicited)) (drawn m.params m.busy m.tasks m.solicited)

quiet_issues : (C : SessionConfig) (g : ℕ) (m : Meanings) → IsQuiet (issue_next C g m)
quiet_issues C g m =
    quiet-choice (is_idle m.handler && not m.leaving && is_open m.window) (issue_with g (next_of m.window) (sendable C.queue_depth m.tasks) (slice_get m.free 0)) []
    (quiet_issue g (next_of m.window) (sendable C.queue_depth m.tasks) (slice_get m.free 0)) refl

quiet_last : (C : SessionConfig) (g : ℕ) (m : Meanings) → IsQuiet (or_else (ping_next C g m) (or_else (drawn_next g m) (issue_next C g m)))
quiet_last C g m =
    quiet-else (ping_next C g m) (or_else (drawn_next g m) (issue_next C g m)) (quiet_ping C g m)
    (quiet-else (drawn_next g m) (issue_next C g m) (quiet_draws g m) (quiet_issues C g m))

quiet_after : (C : SessionConfig) (g : ℕ) (m : Meanings) → IsQuiet (next_after_data C g m)
quiet_after C g m =
    let last = or_else (ping_next C g m) (or_else (drawn_next g m) (issue_next C g m)) in
    quiet-else (logout_next g m) (or_else (managed_next g (next_management m) m.handler) (or_else (echo_next g m.echoes) last)) (quiet_logout g m)
    (quiet-else (managed_next g (next_management m) m.handler) (or_else (echo_next g m.echoes) last) (quiet_managed g (next_management m) m.handler)
    (quiet-else (echo_next g m.echoes) last (quiet_echo g m.echoes) (quiet_last C g m)))

quiet_owed : (C : SessionConfig) (g : ℕ) (m : Meanings) → IsQuiet (next_in C g m)
quiet_owed C g m =
    quiet-choice (m.logout_sent || not (has_connection m.phase)) [] (or_else (queued_next g m.queue) (if is_some m.broken then [] else next_after_data C g m)) refl
    (quiet-else (queued_next g m.queue) (if is_some m.broken then [] else next_after_data C g m) (quiet_queued g m.queue)
    (quiet-choice (is_some m.broken) [] (next_after_data C g m) refl (quiet_after C g m)))

quiet_reaps : (tags : List Tag) → IsQuiet (map (λ tag. Reap tag) tags)
quiet_reaps [] = refl
quiet_reaps (tag ∷ tags) = quiet_reaps tags

quiet_turns : (g : ℕ) (s : Session) → IsQuiet (turns g s).entries
quiet_turns g s =
    quiet_makes s (turn_of s) (turn_text g s (owed_of s))
    (quiet-append (releases (now_of s)) (owed_of s) (quiet_reaps (now_of s).ended)
    (quiet_owed s.config (now_of s).generation (reaped s.config (now_of s).ended (now_of s))))

quiet_sent : (es : List Event) (d : Deed) → IsQuiet d.entries → IsQuiet (if_sent es d).entries
quiet_sent [] d p = refl
quiet_sent (e ∷ es) d p = p

quiet_sends : (n : ℕ) (s : Session) → IsQuiet (sends n s).entries
quiet_sends zero s = refl
quiet_sends (suc n) s =
    quiet_link (live_on (now_of s).phase) (λ g. followed s (turns g s) (λ t. if_sent (owed_of s) (sends n t))) nothing
    (λ g. quiet_followed s (turns g s) (λ t. if_sent (owed_of s) (sends n t)) (quiet_turns g s) (λ t. quiet_sent (owed_of s) (sends n t) (quiet_sends n t))) refl

-- what came in

quiet_loses : (g : ℕ) (cause : LostCause) (s : Session) → IsQuiet (loses g cause s).entries
quiet_loses g cause s =
    quiet_if (is_logged_in (now_of s).phase g && is_cause s.config (now_of s) cause) (makes s (Lost g cause ∷ []) (lost_text g cause)) nothing
    (quiet_makes s (Lost g cause ∷ []) (lost_text g cause) refl) refl

quiet_heeds : (g : ℕ) (r : Received) (s : Session) → IsQuiet (heeds g r s).entries
quiet_heeds g (received.Stale current) s = refl
quiet_heeds g (received.Broken rule) s = quiet_loses g (Broken rule) s
quiet_heeds g (received.Asked event) s = quiet_loses g (Asked event) s
quiet_heeds g received.Applied s = refl

quiet_take : (g : ℕ) (pdu : Pdu) (s : Session) → IsQuiet (takes g pdu s).entries
quiet_take g pdu s =
    quiet_followed s (makes s (PduIn g pdu ∷ []) []) (λ t. heeds g (received_of (now_of s) (now_of t) g pdu) t) (quiet_makes s (PduIn g pdu ∷ []) [] refl)
    (λ t. quiet_heeds g (received_of (now_of s) (now_of t) g pdu) t)

quiet_takes : (g : ℕ) (pdus : List Pdu) (s : Session) → IsQuiet (takes_all g pdus s).entries
quiet_takes g [] s = refl
quiet_takes g (pdu ∷ pdus) s = quiet_followed s (takes g pdu s) (λ t. takes_all g pdus t) (quiet_take g pdu s) (λ t. quiet_takes g pdus t)

quiet_stream : (g : ℕ) (fault : Option Rule) (s : Session) → IsQuiet (ends_stream g fault s).entries
quiet_stream g None s = refl
quiet_stream g (Some rule) s = quiet_loses g (Broken rule) s

quiet_on : (o : Option Link) (g : ℕ) (bytes : List ℕ) (s : Session) → IsQuiet (receives_on o g bytes s).entries
quiet_on None g bytes s = refl
quiet_on (Some None) g bytes s = refl
quiet_on (Some (Some state)) g bytes s =
    quiet_followed s (takes_all g (fed state bytes).pdus s) (λ t. ends_stream g (fault_of (fed state bytes).stop) t) (quiet_takes g (fed state bytes).pdus s)
    (λ t. quiet_stream g (fault_of (fed state bytes).stop) t)

-- the other lines

quiet_expires : (ping handler : Bool) (s : Session) → IsQuiet (expires ping handler s).entries
quiet_expires ping handler s =
    quiet_link (live_on (now_of s).phase) (λ g. if ping then loses g Ping s else (if handler then loses g Late s else nothing)) nothing
    (λ g. quiet_if ping (loses g Ping s) (if handler then loses g Late s else nothing) (quiet_loses g Ping s)
    (quiet_if handler (loses g Late s) nothing (quiet_loses g Late s) refl)) refl

quiet_abort : (o : Option Task) (id : ℕ) (s : Session) → IsQuiet (aborts_at o id s).entries
quiet_abort None id s = refl
quiet_abort (Some t) id s =
    let made = makes s (Abort id ∷ []) [] in
    let rest : Deed = if is_live t.fate && not (is_idle (now_of s).handler) then refuses Busy else made in
    quiet_if (is_over t.fate) (refuses TooLate) rest refl
    (quiet_if (is_live t.fate && not (is_idle (now_of s).handler)) (refuses Busy) made refl (quiet_makes s (Abort id ∷ []) [] refl))

quiet_reset : (e : Event) (s : Session) → request_of e ≡ [] → IsQuiet (resets e s).entries
quiet_reset e s is =
    let made = makes s (e ∷ []) [] in
    let rest : Deed = if not (is_idle (now_of s).handler) then refuses Busy else made in
    quiet_if (not (has_connection (now_of s).phase)) (refuses NotLoggedIn) rest refl
    (quiet_if (not (is_idle (now_of s).handler)) (refuses Busy) made refl (quiet_makes s (e ∷ []) [] (ap (λ (z : List Request). z ++ []) is)))

quiet_login : (done : LoginDone) (s : Session) → IsQuiet (logs_in done s).entries
quiet_login done s =
    let made = makes s (login_of ((now_of s).generation + 1) done ∷ []) (login_text ((now_of s).generation + 1)) in
    let rest : Deed = if has_connection (now_of s).phase then refuses LoggedInAlready else made in
    quiet_if (is_ended (now_of s).phase) (refuses Ended) rest refl
    (quiet_if (has_connection (now_of s).phase) (refuses LoggedInAlready) made refl
    (quiet_makes s (login_of ((now_of s).generation + 1) done ∷ []) (login_text ((now_of s).generation + 1)) refl))

quiet_ticks : (now : ℕ) (s : Session) → IsQuiet (ticks now s).entries
quiet_ticks now s =
    let made = makes s (Tick (reading_of (now_of s) now) ∷ []) [] in
    let rest = followed s made (λ t. expires (is_ping_late t.config (now_of t)) (is_spent (now_of t).handler) t) in
    let other : Deed = if is_ended (now_of s).phase then nothing else rest in
    quiet_if (nat_lt now (now_of s).clock) (fails Outside) other refl
    (quiet_if (is_ended (now_of s).phase) nothing rest refl
    (quiet_followed s made (λ t. expires (is_ping_late t.config (now_of t)) (is_spent (now_of t).handler) t) (quiet_makes s (Tick (reading_of (now_of s) now) ∷ []) [] refl)
    (λ t. quiet_expires (is_ping_late t.config (now_of t)) (is_spent (now_of t).handler) t)))

quiet_leaves : (s : Session) → IsQuiet (leaves s).entries
quiet_leaves s = quiet_if (has_connection (now_of s).phase) (makes s (Leave ∷ []) []) (refuses NotLoggedIn) (quiet_makes s (Leave ∷ []) [] refl) refl

quiet_cuts : (s : Session) → IsQuiet (cuts s).entries
quiet_cuts s = quiet_link (live_on (now_of s).phase) (λ g. loses g Cut s) (refuses NotLoggedIn) (λ g. quiet_loses g Cut s) refl

none_asked : (a : Answer) (es : List Event) → IsQuiet es → reqs es ≡ if_done a []
none_asked Done es p = p
none_asked (Refused word) es p = p
none_asked Outside es p = p
none_asked Spent es p = p

asks_if : (b : Bool) (d e : Deed) (rs : List Request) → reqs d.entries ≡ if_done d.answer rs → reqs e.entries ≡ if_done e.answer rs
    → reqs (if b then d else e).entries ≡ if_done (if b then d else e).answer rs
asks_if true d e rs p q = p
asks_if false d e rs p q = q

submits_asks : (request : Request) (s : Session) → reqs (submits request s).entries ≡ if_done (submits request s).answer (request ∷ [])
submits_asks request s =
    let es = Submit (length (now_of s).tasks) request ∷ [] in
    let made : Deed = record { entries = es; text = []; answer = Done } in
    let rest : Deed = if nat_lt (pending_of (now_of s)) most_pending then makes s es [] else refuses Full in
    asks_if (is_ended (now_of s).phase) (refuses Ended) rest (request ∷ []) refl
    (asks_if (nat_lt (pending_of (now_of s)) most_pending) (makes s es []) (refuses Full) (request ∷ [])
    (asks_if (is_some (spent_by s es)) (fails Spent) made (request ∷ []) refl refl) refl)

set_asks : (b : Bool) → reqs (let d : Deed = if b then fails Outside else nothing in d).entries ≡ if_done (let d : Deed = if b then fails Outside else nothing in d).answer []
set_asks true = refl
set_asks false = refl

-- a deed without a request
none_of : (d : Deed) → IsQuiet d.entries → reqs d.entries ≡ if_done d.answer []
none_of d p = none_asked d.answer d.entries p

deed_asks : (w : World) (l : DriveLine) → reqs (deed_of w l).entries ≡ if_done (deed_of w l).answer (asked_by l)
deed_asks w Skip = refl
deed_asks w (Set name value) = set_asks w.begun
deed_asks w (Login cmdsn max exp_stat params) =
    let done : LoginDone = record { params = params; tsih = 0; cmdsn = cmdsn; max = max; exp_stat = exp_stat } in none_of (logs_in done w.session) (quiet_login done w.session)
deed_asks w (SubmitLine request) = submits_asks request w.session
deed_asks w (Send count) = none_of (sends count w.session) (quiet_sends count w.session)
deed_asks w (Recv generation bytes) =
    none_of (receives_on (link_at w.links generation) generation bytes w.session) (quiet_on (link_at w.links generation) generation bytes w.session)
deed_asks w CutLine = none_of (cuts w.session) (quiet_cuts w.session)
deed_asks w (TickLine now) = none_of (ticks now w.session) (quiet_ticks now w.session)
deed_asks w (AbortLine id) = none_of (aborts_at (slice_get (now_of w.session).tasks id) id w.session) (quiet_abort (slice_get (now_of w.session).tasks id) id w.session)
deed_asks w (ResetLunLine lun) = none_of (resets (ResetLun lun) w.session) (quiet_reset (ResetLun lun) w.session refl)
deed_asks w ResetTargetLine = none_of (resets ResetTarget w.session) (quiet_reset ResetTarget w.session refl)
deed_asks w LeaveLine = none_of (leaves w.session) (quiet_leaves w.session)
deed_asks w Window = refl
deed_asks w End = refl

quiet_hands_by : (b : Bool) (s : Session) (due : List Delivered) → IsQuiet (hands_out_by b s due).entries
quiet_hands_by true s due = refl
quiet_hands_by false s due = quiet_makes s (Deliver (length due) ∷ []) (outcome_lines s.config.sid due) refl

quiet_hands : (s : Session) → IsQuiet (hands_out s).entries
quiet_hands s = quiet_if (length (due_of_session s) == 0) nothing (hands_out_by (is_ended (now_of s).phase) s (due_of_session s)) refl (quiet_hands_by (is_ended (now_of s).phase) s (due_of_session s))

quiet_settles : (a : Answer) (line : ℕ) (s : Session) → IsQuiet (settles a line s).entries
quiet_settles Done line s = quiet_hands s
quiet_settles (Refused word) line s = quiet_hands s
quiet_settles Outside line s = refl
quiet_settles Spent line s = refl

entries_ask : (w : World) (o : Option DriveLine) → reqs (entries_by w o) ≡ request_by w o
entries_ask w None = refl
entries_ask w (Some l) =
    let rest = settles (deed_of w l).answer (one_more w.line) (entered_all (base w l) (deed_of w l).entries) in
    reqs-append (deed_of w l).entries rest.entries
    ∙ (ap (λ (z : List Request). reqs (deed_of w l).entries ++ z) (quiet_settles (deed_of w l).answer (one_more w.line) (entered_all (base w l) (deed_of w l).entries))
    ∙ (append-nil (reqs (deed_of w l).entries) ∙ deed_asks w l))

-- settings stand before all requests

abbrev pub IsFresh : World → Type 0
IsFresh w = w.begun ≡ false → w.session.history ≡ []

set_fresh : (b : Bool) (s t : Session) → (b ≡ false → s.history ≡ []) → t.history ≡ [] → asked (if b then s else t) ≡ asked s
set_fresh true s t fresh none = refl
set_fresh false s t fresh none = ap requests_in (none ∙ sym (fresh refl))

base_asks : (w : World) (l : DriveLine) → IsFresh w → asked (base w l) ≡ asked w.session
base_asks w (Set name value) fresh = set_fresh w.begun w.session (unused (set_to (setting_of name) value w.session.config)) fresh refl
base_asks w l fresh = refl

base_by_asks : (w : World) (o : Option DriveLine) → IsFresh w → asked (base_by w o) ≡ asked w.session
base_by_asks w None fresh = refl
base_by_asks w (Some l) fresh = base_asks w l fresh

step_asks : (w : World) → IsFresh w → asked (line_step w).session ≡ asked w.session ++ line_request w
step_asks w fresh = by_line (drive_line w.part)
  where
    by_line : (o : Option DriveLine) → asked (line_by w o).session ≡ asked w.session ++ request_by w o
    by_line None = sym (append-nil (asked w.session))
    by_line (Some l) =
        entered_asks (base w l) (line_deed w l).entries ∙ (ap (λ (z : List Request). z ++ reqs (line_deed w l).entries) (base_asks w l fresh)
        ∙ ap (λ (z : List Request). asked w.session ++ z) (entries_ask w (Some l)))

-- a session without entries has nothing to hand out
unused_hands : (s : Session) → s.history ≡ [] → (hands_out s).entries ≡ []
unused_hands s none = ap (λ (h : List Numbered). (hands_out (record { config = s.config; history = h })).entries) none

settled_unused : (s : Session) (line : ℕ) → s.history ≡ [] → (entered_all s (settles Done line s).entries).history ≡ []
settled_unused s line none = ap (λ (es : List Event). (entered_all s es).history) (unused_hands s none) ∙ none

or_first : (a b : Bool) → (a || b) ≡ false → a ≡ false
or_first false b is = refl
or_first true b is = absurd cc

or_second : (a b : Bool) → (a || b) ≡ false → b ≡ false
or_second false b is = is
or_second true b is = absurd cc

fresh_set : (b : Bool) (w : World) (s : Session) (line : ℕ) → b ≡ false → s.history ≡ []
    → (let d : Deed = if b then fails Outside else nothing in entered_all (if b then w.session else s) (joined d (settles d.answer line (entered_all (if b then w.session else s) d.entries))).entries).history ≡ []
fresh_set true w s line is none = absurd cc
fresh_set false w s line is none = settled_unused s line none

fresh_by : (w : World) (l : DriveLine) → IsFresh w → w.begun ≡ false → begins l ≡ false → (line_by w (Some l)).session.history ≡ []
fresh_by w Skip fresh off is = settled_unused w.session (one_more w.line) (fresh off)
fresh_by w (Set name value) fresh off is = fresh_set w.begun w (unused (set_to (setting_of name) value w.session.config)) (one_more w.line) off refl
fresh_by w (Login cmdsn max exp_stat params) fresh off is = absurd cc
fresh_by w (SubmitLine request) fresh off is = absurd cc
fresh_by w (Send count) fresh off is = absurd cc
fresh_by w (Recv generation bytes) fresh off is = absurd cc
fresh_by w CutLine fresh off is = absurd cc
fresh_by w (TickLine now) fresh off is = absurd cc
fresh_by w (AbortLine id) fresh off is = absurd cc
fresh_by w (ResetLunLine lun) fresh off is = absurd cc
fresh_by w ResetTargetLine fresh off is = absurd cc
fresh_by w LeaveLine fresh off is = absurd cc
fresh_by w Window fresh off is = absurd cc
fresh_by w End fresh off is = absurd cc

fresh_line : (w : World) (o : Option DriveLine) → IsFresh w → IsFresh (line_by w o)
fresh_line w None fresh = fresh
fresh_line w (Some l) fresh = λ off. fresh_by w l fresh (or_first w.begun (begins l) off) (or_second w.begun (begins l) off)

fresh_step : (w : World) → IsFresh w → IsFresh (line_step w)
fresh_step w fresh = fresh_line w (drive_line w.part) fresh

-- bytes

-- a world that is fresh and has these requests more
pub record IsAsked (w v : World) (rs : List Request) : Type 0 where
  pub fresh : IsFresh v
  pub asks : asked v.session ≡ asked w.session ++ rs

asked_same : (w v : World) → IsFresh w → v.session ≡ w.session → v.begun ≡ w.begun → IsAsked w v []
asked_same w v fresh same on = record {
  fresh = λ off. ap (λ (s : Session). s.history) same ∙ fresh (sym on ∙ off);
  asks = ap asked same ∙ sym (append-nil (asked w.session));
}

asked_step : (w : World) → IsFresh w → IsAsked w (line_step w) (line_request w)
asked_step w fresh = record { fresh = fresh_step w fresh; asks = step_asks w fresh }

grown : (b : Bool) (w v u : World) → IsAsked w v [] → IsAsked w u [] → IsAsked w (if b then v else u) []
grown true w v u p q = p
grown false w v u p q = q

at_feed : (b : Bool) (w v : World) → IsFresh w → IsAsked w v [] → IsAsked w (if b then line_step w else v) (if b then line_request w else [])
at_feed true w v fresh p = asked_step w fresh
at_feed false w v fresh p = p

unstopped : (b : Bool) (w v : World) (rs : List Request) → IsFresh w → IsAsked w v rs → IsAsked w (if b then w else v) (if b then [] else rs)
unstopped true w v rs fresh p = asked_same w w fresh refl refl
unstopped false w v rs fresh p = p

byte_asks : (w : World) (b : ℕ) → IsFresh w → IsAsked w (feed_byte w b) (byte_request w b)
byte_asks w b fresh =
    unstopped (is_some w.stop) w (byte_step w b) (if b == 10 then line_request w else []) fresh
    (at_feed (b == 10) w (if nat_lt (length w.part) line_limit then record w { part = w.part ++ b ∷ [] } else bad w) fresh
    (grown (nat_lt (length w.part) line_limit) w (record w { part = w.part ++ b ∷ [] }) (bad w) (asked_same w (record w { part = w.part ++ b ∷ [] }) fresh refl refl) (asked_same w (bad w) fresh refl refl)))

asked_both : (w v u : World) (xs ys : List Request) → IsAsked w v xs → IsAsked v u ys → IsAsked w u (xs ++ ys)
asked_both w v u xs ys p q = record {
  fresh = q.fresh;
  asks = q.asks ∙ (ap (λ (z : List Request). z ++ ys) p.asks ∙ append_assoc (asked w.session) xs ys);
}

pub fed_asks : (w : World) (bytes : List ℕ) → IsFresh w → IsAsked w (feed w bytes) (fed_requests w bytes)
fed_asks w [] fresh = asked_same w w fresh refl refl
fed_asks w (b ∷ bytes) fresh =
    let one = byte_asks w b fresh in
    asked_both w (feed_byte w b) (feed (feed_byte w b) bytes) (byte_request w b) (fed_requests (feed_byte w b) bytes) one (fed_asks (feed_byte w b) bytes one.fresh)

at_end : (b : Bool) (w : World) → IsFresh w → IsAsked w (if b then w else line_step w) (if b then [] else line_request w)
at_end true w fresh = asked_same w w fresh refl refl
at_end false w fresh = asked_step w fresh

stopped : (b : Bool) (w v u : World) (rs : List Request) → IsAsked w v rs → u.session ≡ v.session → u.begun ≡ v.begun → IsAsked w (if b then v else u) rs
stopped true w v u rs p same on = p
stopped false w v u rs p same on = record { fresh = λ off. ap (λ (s : Session). s.history) same ∙ p.fresh (sym on ∙ off); asks = ap asked same ∙ p.asks }

end_asks : (w : World) → IsFresh w → IsAsked w (input_end w) (end_request w)
end_asks w fresh =
    let rs : List Request = if length w.part == 0 then [] else line_request w in
    unstopped (is_some w.stop) w (stopped_at_end (last_line w)) rs fresh
    (stopped (is_some (last_line w).stop) w (last_line w) (record (last_line w) { stop = Some InputEnd }) rs (at_end (length w.part == 0) w fresh) refl refl)

over_asks : (w : World) → IsFresh w → IsAsked w (input_over w) []
over_asks w fresh = grown (is_some w.stop) w w (bad w) (asked_same w w fresh refl refl) (asked_same w (bad w) fresh refl refl)

whole : (b : Bool) (w : World) (xs ys : List ℕ) → IsFresh w
    → asked (if b then input_end (feed w xs) else input_over (feed w ys)).session ≡ asked w.session ++ (if b then fed_requests w xs ++ end_request (feed w xs) else fed_requests w ys)
whole true w xs ys fresh =
    let first = fed_asks w xs fresh in
    (asked_both w (feed w xs) (input_end (feed w xs)) (fed_requests w xs) (end_request (feed w xs)) first (end_asks (feed w xs) first.fresh)).asks
whole false w xs ys fresh =
    let first = fed_asks w ys fresh in
    (over_asks (feed w ys) first.fresh).asks ∙ (append-nil (asked (feed w ys).session) ∙ first.asks)

pub input_asks : (w : World) (bytes : List ℕ) → IsFresh w → asked (input_world w bytes).session ≡ asked w.session ++ input_requests w bytes
input_asks w bytes fresh = whole (nat_le (length bytes) input_limit) w bytes (take input_limit bytes) fresh

-- a first part of a line's entries has a first part of its requests

front_of : (xs ys : List Request) → xs ≡ take (length xs) (xs ++ ys)
front_of [] ys = refl
front_of (x ∷ xs) ys = ap (λ (z : List Request). x ∷ z) (front_of xs ys)

split_at : (k : ℕ) (es : List Event) → (rest : List Event) × (es ≡ take k es ++ rest)
split_at zero es = (es, refl)
split_at (suc k) [] = ([], refl)
split_at (suc k) (e ∷ es) = let r = split_at k es in (r.0, ap (λ (z : List Event). e ∷ z) r.1)

part_reqs : (k : ℕ) (es : List Event) → (count : ℕ) × (reqs (take k es) ≡ take count (reqs es))
part_reqs k es =
    let r = split_at k es in
    (length (reqs (take k es)), front_of (reqs (take k es)) (reqs r.0) ∙ ap (λ (z : List Request). take (length (reqs (take k es))) z) (sym (reqs-append (take k es) r.0) ∙ ap reqs (sym r.1)))

pub part_asks : (w : World) (now : Session) → IsFresh w → IsBetween w.session (line_base w) (line_entries w) now → (count : ℕ) × (asked now ≡ asked w.session ++ take count (line_request w))
part_asks w now fresh (inl is) = (0, ap asked is ∙ sym (append-nil (asked w.session)))
part_asks w now fresh (inr part) =
    let r = part_reqs part.0 (line_entries w) in (
      r.0,
      ap asked part.1 ∙ (entered_asks (line_base w) (take part.0 (line_entries w))
          ∙ (ap (λ (z : List Request). z ++ reqs (take part.0 (line_entries w))) (base_by_asks w (drive_line w.part) fresh)
          ∙ ap (λ (z : List Request). asked w.session ++ z) (r.1 ∙ ap (λ (z : List Request). take r.0 z) (entries_ask w (drive_line w.part))))),
    )

-- the end of a run

handed_none : (b : Bool) (s : Session) (e : Event) → request_of e ≡ [] → asked (if b then s else entered s e) ≡ asked s
handed_none true s e is = refl
handed_none false s e is = ap (λ (z : List Request). asked s ++ z) is ∙ append-nil (asked s)

terminated_none : (cause : Cause) (s : Session) → asked (terminated cause s) ≡ asked s
terminated_none cause s = handed_none (is_ended (now_of s).phase) s (Terminate cause) refl

delivered_none : (s : Session) → asked (entered_all s (hands_out s).entries) ≡ asked s
delivered_none s = entered_asks s (hands_out s).entries ∙ (ap (λ (z : List Request). asked s ++ z) (quiet_hands s) ∙ append-nil (asked s))

ended_none : (cause : Cause) (old now : Session) → IsEndedBy cause old now → asked now ≡ asked old
ended_none cause old now (inl is) = ap asked is ∙ terminated_none cause old
ended_none cause old now (inr is) = ap asked is ∙ (delivered_none (terminated cause old) ∙ terminated_none cause old)

-- of a run that read its whole input, and of one that broke off
pub whole_asks : (w : World) (bytes : List ℕ) (cause : Cause) (session : Session) → w.session.history ≡ [] → IsEndedBy cause (input_world w bytes).session session → asked session ≡ input_requests w bytes
whole_asks w bytes cause session none ended =
    ended_none cause (input_world w bytes).session session ended
    ∙ (input_asks w bytes (λ off. none) ∙ ap (λ (z : List Request). z ++ input_requests w bytes) (ap requests_in none))

pub broken_asks : (w : World) (fed : List ℕ) (cause : Cause) (now session : Session) → w.session.history ≡ []
    → IsBetween (feed w fed).session (line_base (feed w fed)) (line_entries (feed w fed)) now → IsEndedBy cause now session
    → (count : ℕ) × (asked session ≡ fed_requests w fed ++ take count (line_request (feed w fed)))
broken_asks w fed cause now session none part ended =
    let first = fed_asks w fed (λ off. none) in
    let p = part_asks (feed w fed) now first.fresh part in (
      p.0,
      ended_none cause now session ended ∙ (p.1 ∙ ap (λ (z : List Request). z ++ take p.0 (line_request (feed w fed)))
          (first.asks ∙ ap (λ (z : List Request). z ++ fed_requests w fed) (ap requests_in none))),
    )
