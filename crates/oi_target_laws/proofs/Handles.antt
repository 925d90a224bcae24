-- What a PDU that has its turn makes of the commands that wait.
use Rattle.std.proofs.Common.{ℕ, Bool, true, false, not, ◌&&◌, ◌||◌, cond, ◌≡◌, ◌∙◌, Option, Some, None, is_some, List, [], ◌∷◌, ◌++◌, refl, ap, sym, subst, bytes_eq, filter, take, length, ◌==◌, if◌then◌else◌}
use Rattle.std.proofs.lemmas.Bool.{eqb-true, and_parts}
use Rattle.std.proofs.lemmas.List.{map-append}
use Rattle.std.specs.List.{list_any}
use Rattle.oi_pdu.specs.declared.codec.Pdu.{Pdu}
use Rattle.oi_pdu.specs.declared.header.DataOut.{DataOut}
use Rattle.oi_pdu.specs.declared.header.Header.{Header}
use Rattle.oi_pdu.specs.declared.header.Header.TheVariants as head
use Rattle.oi_pdu.specs.declared.header.LogoutRequest.{LogoutRequest}
use Rattle.oi_pdu.specs.declared.header.NopOut.{NopOut}
use Rattle.oi_pdu.specs.declared.header.ScsiCommand.{ScsiCommand}
use Rattle.oi_pdu.specs.declared.header.TaskManagement.{TaskManagement}
use Rattle.oi_pdu.specs.declared.header.TextRequest.{TextRequest}
use Rattle.oi_sendtargets.specs.declared.found.Found.{Found}
use Rattle.oi_target_laws.proofs.Moves.{Moves, ends, joins, stays, takes_out}
use Rattle.oi_target_laws.specs.Turned.{brought, command_of_task, commands_if, commands_of, taken_as, taken_by, taken_in}
use Rattle.oi_target_login.specs.Texts.{text_pairs}
use Rattle.oi_target_session.specs.Answers.{echo_pdu, no_tag, r2t_pdu}
use Rattle.oi_target_session.specs.Listings.{is_long}
use Rattle.oi_target_session.specs.Sessions.{Handled, Session, aborted, asking, closes, commanded, counted, data_out, data_to, filled_by, goes, handled, handled_discovering, handled_normally, is_unfit, logged_out, managed, pinged, queued, reset_as, responded, spared, text_kept, text_read, text_sent, texted_with, with_tasks, with_transfer}
use Rattle.oi_target_session.specs.declared.fed.Fed.{Fed}
use Rattle.oi_target_session.specs.declared.fed.Fed.TheVariants.{Going, Closed}
use Rattle.oi_target_session.specs.declared.reset.Reset.{Reset}
use Rattle.oi_target_session.specs.declared.reset.Reset.TheVariants.{Unit as OfUnit, Whole}
use Rattle.oi_target_tasks.specs.Tasks.{grown, is_asking, is_stray, is_waiting, new_task, replaced, unit_command, waiting_in, waits_as}
use Rattle.oi_target_tasks.specs.declared.task.Task.{Task}
use Rattle.oi_text.specs.declared.pairs.Pair.{Pair}
use Rattle.oi_units.specs.Units.{unit_named}
use Rattle.oi_units.specs.declared.command.UnitCommand.{UnitCommand}
use Rattle.oi_units.specs.declared.unit.LogicalUnit.{LogicalUnit}

-- all end where the connection closes
abbrev pub ended_by : Fed → Session → List UnitCommand → List UnitCommand
ended_by Closed s ended = commands_of s.tasks
ended_by Going s ended = ended

-- before any command is executed: some come and some end
abbrev pub Handles : Session → List UnitCommand → List UnitCommand → Handled → Type 0
Handles s came ended h = Moves (commands_of s.tasks) (commands_if h.fed came) [] (ended_by h.fed s ended) (commands_if h.fed (commands_of h.session.tasks))

closing : (s : Session) (came ended : List UnitCommand) → Handles s came ended (closes s)
closing s came ended = ends (commands_of s.tasks)

same_tasks : (s t : Session) (sent : List Pdu) → t.tasks ≡ s.tasks → Handles s [] [] (goes t sent)
same_tasks s t sent same = subst (λ (z : List Task). Moves (commands_of s.tasks) [] [] [] (commands_of z)) (sym same) (stays (commands_of s.tasks))

if_handles : (s : Session) (came ended : List UnitCommand) (b : Bool) (x y : Handled) → Handles s came ended x → Handles s came ended y → Handles s came ended (if b then x else y)
if_handles s came ended true x y p q = p
if_handles s came ended false x y p q = q

-- a command joins the others
one_joins : (s : Session) (t : Task) → Moves (commands_of s.tasks) (t.command ∷ []) [] [] (commands_of (s.tasks ++ t ∷ []))
one_joins s t = subst (λ (z : List UnitCommand). Moves (commands_of s.tasks) (t.command ∷ []) [] [] z) (sym (map-append command_of_task s.tasks (t ∷ []))) (joins (commands_of s.tasks) (t.command ∷ []))

queued_handles : (s : Session) (t : Task) → Handles s (t.command ∷ []) [] (queued s t)
queued_handles s t = go (is_waiting t) where
  go : (b : Bool) → Handles s (t.command ∷ []) [] (if b then goes (with_transfer s (s.tasks ++ asking s t ∷ [])) (r2t_pdu s.numbers (asking s t) ∷ []) else goes (with_tasks s (s.tasks ++ t ∷ [])) [])
  go true = one_joins s (asking s t)
  go false = one_joins s t

commanded_handles : (s : Session) (h : ScsiCommand) (payload : List ℕ) → Handles s (unit_command h ∷ []) [] (commanded s h payload)
commanded_handles s h payload =
    if_handles s (unit_command h ∷ []) [] (is_unfit s h payload) (closes s) (queued s (new_task h payload)) (closing s (unit_command h ∷ []) []) (queued_handles s (new_task h payload))

-- a task of the same command in the place of the one that waits
same_task : (a b : Task) → Some a ≡ Some b → a ≡ b
same_task a b e = cc

none_task : {C : Type 0} (a : Task) → None ≡ Some a → C
none_task a e = absurd (let n : ⊥ = cc in n)

pub found_tag : (tag : ℕ) (ts : List Task) (t : Task) → waiting_in tag ts ≡ Some t → t.tag.0 ≡ tag
found_tag tag [] t e = none_task t e
found_tag tag (x ∷ xs) t e = go (waits_as tag x) refl e (λ h. found_tag tag xs t h) where
  go : (b : Bool) → waits_as tag x ≡ b → cond b (Some x) (waiting_in tag xs) ≡ Some t → (waiting_in tag xs ≡ Some t → t.tag.0 ≡ tag) → t.tag.0 ≡ tag
  go true is h more = subst (λ (z : Task). z.tag.0 ≡ tag) (same_task x t h) (eqb-true x.tag.0 tag (and_parts (x.tag.0 == tag) (is_waiting x) is).0)
  go false is h more = more h

replaced_commands : (tag : ℕ) (u t : Task) (ts : List Task) → waiting_in tag ts ≡ Some t → u.tag.0 ≡ tag → u.command ≡ t.command → commands_of (replaced u ts) ≡ commands_of ts
replaced_commands tag u t [] e same is = none_task t e
replaced_commands tag u t (x ∷ xs) e same is =
    ap (λ (z : ℕ). commands_of (if waits_as z x then u ∷ xs else x ∷ replaced u xs)) same ∙ go (waits_as tag x) e (λ h. replaced_commands tag u t xs h same is) where
      go : (b : Bool) → cond b (Some x) (waiting_in tag xs) ≡ Some t → (waiting_in tag xs ≡ Some t → commands_of (replaced u xs) ≡ commands_of xs)
          → commands_of (if b then u ∷ xs else x ∷ replaced u xs) ≡ x.command ∷ commands_of xs
      go true h more = ap (λ (c : UnitCommand). c ∷ commands_of xs) (is ∙ sym (ap (λ (z : Task). z.command) (same_task x t h)))
      go false h more = ap (λ (cs : List UnitCommand). x.command ∷ cs) (more h)

same_commands : (s t : Session) (sent : List Pdu) → commands_of t.tasks ≡ commands_of s.tasks → Handles s [] [] (goes t sent)
same_commands s t sent same = subst (λ (z : List UnitCommand). Moves (commands_of s.tasks) [] [] [] z) (sym same) (stays (commands_of s.tasks))

filled_handles : (s : Session) (tag : ℕ) (u t : Task) → waiting_in tag s.tasks ≡ Some t → u.tag.0 ≡ tag → u.command ≡ t.command → Handles s [] [] (filled_by s u)
filled_handles s tag u t found same is = go (is_asking u) where
  go : (b : Bool) → Handles s [] [] (if b then goes (with_transfer s (replaced (asking s u) s.tasks)) (r2t_pdu s.numbers (asking s u) ∷ []) else goes (with_tasks s (replaced u s.tasks)) [])
  go true = same_commands s (with_transfer s (replaced (asking s u) s.tasks)) (r2t_pdu s.numbers (asking s u) ∷ []) (replaced_commands tag (asking s u) t s.tasks found same is)
  go false = same_commands s (with_tasks s (replaced u s.tasks)) [] (replaced_commands tag u t s.tasks found same is)

data_handles : (s : Session) (h : DataOut) (payload : List ℕ) → Handles s [] [] (data_out s h payload)
data_handles s h payload = go (waiting_in h.tag.0 s.tasks) refl where
  go : (o : Option Task) → waiting_in h.tag.0 s.tasks ≡ o → Handles s [] [] (data_to s h payload o)
  go None found = stays (commands_of s.tasks)
  go (Some t) found =
      if_handles s [] [] (is_stray t h payload) (closes s) (filled_by s (grown t payload)) (closing s [] [])
      (filled_handles s h.tag.0 (grown t payload) t found (found_tag h.tag.0 s.tasks t found) refl)

pinged_handles : (s : Session) (h : NopOut) (payload : List ℕ) → Handles s [] [] (pinged s h payload)
pinged_handles s h payload = go (h.tag.0 == no_tag) where
  go : (b : Bool) → Handles s [] [] (if b then goes s [] else goes (counted s) (echo_pdu s.numbers h.tag (take s.limits.max_send payload) ∷ []))
  go true = stays (commands_of s.tasks)
  go false = stays (commands_of s.tasks)

none_waits : (p : Task → Bool) (ts : List Task) → list_any p ts ≡ false → filter p ts ≡ []
none_waits p [] none = refl
none_waits p (t ∷ ts) none = go (p t) none (none_waits p ts) where
  go : (b : Bool) → (b || list_any p ts) ≡ false → (list_any p ts ≡ false → filter p ts ≡ []) → cond b (t ∷ filter p ts) (filter p ts) ≡ []
  go true h more = absurd (let n : ⊥ = cc in n)
  go false h more = more h

aborted_handles : (s : Session) (h : TaskManagement) → Handles s [] (commands_of (filter (waits_as h.referenced.0) s.tasks)) (aborted s h)
aborted_handles s h = go (list_any (waits_as h.referenced.0) s.tasks) (none_waits (waits_as h.referenced.0) s.tasks) where
  go : (b : Bool) → (b ≡ false → filter (waits_as h.referenced.0) s.tasks ≡ []) → Handles s [] (commands_of (filter (waits_as h.referenced.0) s.tasks))
      (if b then responded (with_tasks s (filter (λ t. not (waits_as h.referenced.0 t)) s.tasks)) h.tag 0 else responded s h.tag 1)
  go true none = takes_out (waits_as h.referenced.0) s.tasks
  go false none = subst (λ (z : List Task). Moves (commands_of s.tasks) [] [] (commands_of z) (commands_of s.tasks)) (sym (none refl)) (stays (commands_of s.tasks))

pub spares : (r : Reset) (ts : List Task) → Moves (commands_of ts) [] [] (commands_of (taken_by r ts)) (commands_of (spared r ts))
spares (OfUnit lun) ts = takes_out (λ t. bytes_eq t.command.lun lun) ts
spares Whole ts = ends (commands_of ts)

managed_handles : (s : Session) (units : List LogicalUnit) (h : TaskManagement) → Handles s [] (commands_of (taken_as s units h)) (managed s units h)
managed_handles s units h = go (h.function == 1) (h.function == 5) (is_some (unit_named units h.lun)) (h.function == 6) where
  go : (a b c d : Bool)
      → Handles s []
      (commands_of (if a then filter (waits_as h.referenced.0) s.tasks
      else (if b then (if c then taken_by (OfUnit h.lun) s.tasks else [])
      else (if d then taken_by Whole s.tasks
      else []))))
      (if a then aborted s h
      else (if b then (if c then reset_as s h (OfUnit h.lun) else responded s h.tag 2)
      else (if d then reset_as s h Whole
      else responded s h.tag 5)))
  go true b c d = aborted_handles s h
  go false true true d = spares (OfUnit h.lun) s.tasks
  go false true false d = stays (commands_of s.tasks)
  go false false c true = spares Whole s.tasks
  go false false c false = stays (commands_of s.tasks)

logged_out_handles : (s : Session) (h : LogoutRequest) (came ended : List UnitCommand) → Handles s came ended (logged_out s h)
logged_out_handles s h came ended = ends (commands_of s.tasks)

read_handles : (s : Session) (listing : List Found) (h : TextRequest) (o : Option (List Pair)) → Handles s [] [] (text_read s listing h o)
read_handles s listing h None = closing s [] []
read_handles s listing h (Some pairs) = stays (commands_of s.tasks)

texted_handles : (s : Session) (listing : List Found) (h : TextRequest) (text : List ℕ) → Handles s [] [] (texted_with s listing h text)
texted_handles s listing h text = go (is_long text) h.more (length text == 0 && not (h.ttt == no_tag)) where
  go : (a b c : Bool) → Handles s [] [] (if a then closes s else (if b then text_kept s h text else (if c then text_sent s h s.left else text_read s listing h (text_pairs text))))
  go true b c = closing s [] []
  go false true c = stays (commands_of s.tasks)
  go false false true = stays (commands_of s.tasks)
  go false false false = read_handles s listing h (text_pairs text)

normally_handles : (s : Session) (units : List LogicalUnit) (h : Header) (payload : List ℕ)
    → Handles s (brought h) (commands_of (taken_in s units h)) (handled_normally s units h payload)
normally_handles s units (head.ScsiCommand h) payload = commanded_handles s h payload
normally_handles s units (head.DataOut h) payload = data_handles s h payload
normally_handles s units (head.NopOut h) payload = pinged_handles s h payload
normally_handles s units (head.TaskManagement h) payload = managed_handles s units h
normally_handles s units (head.LogoutRequest h) payload = ends (commands_of s.tasks)
normally_handles s units h payload = ends (commands_of s.tasks)

discovering_handles : (s : Session) (units : List LogicalUnit) (listing : List Found) (h : Header) (payload : List ℕ)
    → Handles s (brought h) (commands_of (taken_in s units h)) (handled_discovering s listing h payload)
discovering_handles s units listing (head.TextRequest h) payload = texted_handles s listing h (s.text ++ payload)
discovering_handles s units listing (head.NopOut h) payload = pinged_handles s h payload
discovering_handles s units listing (head.LogoutRequest h) payload = ends (commands_of s.tasks)
discovering_handles s units listing h payload = ends (commands_of s.tasks)

pub handled_handles : (s : Session) (units : List LogicalUnit) (listing : List Found) (h : Header) (payload : List ℕ)
    → Handles s (brought h) (commands_of (taken_in s units h)) (handled s units listing h payload)
handled_handles s units listing h payload =
    if_handles s (brought h) (commands_of (taken_in s units h)) s.discovers (handled_discovering s listing h payload) (handled_normally s units h payload)
    (discovering_handles s units listing h payload) (normally_handles s units h payload)
