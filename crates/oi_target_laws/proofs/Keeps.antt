-- A PDU leaves whose session it is, and one that has its turn which number is expected.
use Rattle.std.proofs.Common.{ℕ, Bool, true, false, not, ◌&&◌, ◌≡◌, ◌∙◌, Option, Some, None, is_some, List, [], ◌∷◌, ◌++◌, filter, length, refl, take, if◌then◌else◌, ◌==◌}
use Rattle.std.specs.List.{list_any}
use Rattle.oi_pdu.specs.declared.codec.Pdu.{Pdu}
use Rattle.oi_pdu.specs.declared.header.DataOut.{DataOut}
use Rattle.oi_pdu.specs.declared.header.Header.{Header}
use Rattle.oi_pdu.specs.declared.header.Header.TheVariants as head
use Rattle.oi_pdu.specs.declared.header.NopOut.{NopOut}
use Rattle.oi_pdu.specs.declared.header.ScsiCommand.{ScsiCommand}
use Rattle.oi_pdu.specs.declared.header.TaskManagement.{TaskManagement}
use Rattle.oi_pdu.specs.declared.header.TextRequest.{TextRequest}
use Rattle.oi_sendtargets.specs.declared.found.Found.{Found}
use Rattle.oi_target.specs.Targets.{Target}
use Rattle.oi_target.specs.Turns.{Received, followed, in_turn, received_at, received_turn, told, turn_of}
use Rattle.oi_target_login.specs.Texts.{text_pairs}
use Rattle.oi_target_session.specs.Answers.{echo_pdu, no_tag, r2t_pdu}
use Rattle.oi_target_session.specs.Arrivals.{Held, advanced}
use Rattle.oi_target_session.specs.Listings.{is_long}
use Rattle.oi_target_session.specs.Sessions.{Handled, Session, Turn, aborted, and_drained, asking, behind, closes, commanded, counted, data_to, drained, filled_by, goes, handled, handled_discovering, handled_normally, is_unfit, managed, pinged, queued, reply_pdus, reset_as, responded, served, text_kept, text_read, text_sent, texted_with, with_tasks, with_transfer, without_resets}
use Rattle.oi_target_session.specs.declared.fed.Fed.{Fed}
use Rattle.oi_target_session.specs.declared.fed.Fed.TheVariants.{Going, Closed}
use Rattle.oi_target_session.specs.declared.place.Place.{Place}
use Rattle.oi_target_session.specs.declared.place.Place.TheVariants.{Now, InTurn, Early, Outside}
use Rattle.oi_target_session.specs.declared.reset.Reset.TheVariants.{Unit as OfUnit, Whole}
use Rattle.oi_target_tasks.specs.Tasks.{grown, is_asking, is_stray, is_waiting, new_task, replaced, waiting_in, waits_as}
use Rattle.oi_target_tasks.specs.declared.task.Task.{Task}
use Rattle.oi_text.specs.declared.pairs.Pair.{Pair}
use Rattle.oi_units.specs.Units.{executed, unit_named}
use Rattle.oi_units.specs.declared.unit.LogicalUnit.{LogicalUnit}

-- the same kind of session, which expects the same number
pub record Keeps (s t : Session) : Type 0 where
  pub expects : t.numbers.exp.0 ≡ s.numbers.exp.0
  pub discovers : t.discovers ≡ s.discovers
  pub nexus : t.nexus ≡ s.nexus

keeps : (s : Session) → Keeps s s
keeps s = record { expects = refl; discovers = refl; nexus = refl }

if_keeps : (s : Session) (b : Bool) (x y : Handled) → Keeps s x.session → Keeps s y.session → Keeps s (if b then x else y).session
if_keeps s true x y p q = p
if_keeps s false x y p q = q

keeps_as : (s t : Session) → t.numbers.exp.0 ≡ s.numbers.exp.0 → t.discovers ≡ s.discovers → t.nexus ≡ s.nexus → Keeps s t
keeps_as s t e d n = record { expects = e; discovers = d; nexus = n }

queued_keeps : (s : Session) (t : Task) → Keeps s (queued s t).session
queued_keeps s t =
    if_keeps s (is_waiting t) (goes (with_transfer s (s.tasks ++ asking s t ∷ [])) (r2t_pdu s.numbers (asking s t) ∷ [])) (goes (with_tasks s (s.tasks ++ t ∷ [])) [])
    (keeps_as s (with_transfer s (s.tasks ++ asking s t ∷ [])) refl refl refl) (keeps_as s (with_tasks s (s.tasks ++ t ∷ [])) refl refl refl)

commanded_keeps : (s : Session) (h : ScsiCommand) (payload : List ℕ) → Keeps s (commanded s h payload).session
commanded_keeps s h payload = if_keeps s (is_unfit s h payload) (closes s) (queued s (new_task h payload)) (keeps s) (queued_keeps s (new_task h payload))

filled_keeps : (s : Session) (t : Task) → Keeps s (filled_by s t).session
filled_keeps s t =
    if_keeps s (is_asking t) (goes (with_transfer s (replaced (asking s t) s.tasks)) (r2t_pdu s.numbers (asking s t) ∷ [])) (goes (with_tasks s (replaced t s.tasks)) [])
    (keeps_as s (with_transfer s (replaced (asking s t) s.tasks)) refl refl refl) (keeps_as s (with_tasks s (replaced t s.tasks)) refl refl refl)

data_keeps : (s : Session) (h : DataOut) (payload : List ℕ) (o : Option Task) → Keeps s (data_to s h payload o).session
data_keeps s h payload None = keeps s
data_keeps s h payload (Some t) = if_keeps s (is_stray t h payload) (closes s) (filled_by s (grown t payload)) (keeps s) (filled_keeps s (grown t payload))

pinged_keeps : (s : Session) (h : NopOut) (payload : List ℕ) → Keeps s (pinged s h payload).session
pinged_keeps s h payload =
    if_keeps s (h.tag.0 == no_tag) (goes s []) (goes (counted s) (echo_pdu s.numbers h.tag (take s.limits.max_send payload) ∷ [])) (keeps s) (keeps_as s (counted s) refl refl refl)

aborted_keeps : (s : Session) (h : TaskManagement) → Keeps s (aborted s h).session
aborted_keeps s h =
    if_keeps s (list_any (waits_as h.referenced.0) s.tasks) (responded (with_tasks s (filter (λ t. not (waits_as h.referenced.0 t)) s.tasks)) h.tag 0) (responded s h.tag 1)
    (keeps_as s (responded (with_tasks s (filter (λ t. not (waits_as h.referenced.0 t)) s.tasks)) h.tag 0).session refl refl refl) (keeps_as s (counted s) refl refl refl)

managed_keeps : (s : Session) (units : List LogicalUnit) (h : TaskManagement) → Keeps s (managed s units h).session
managed_keeps s units h = go (h.function == 1) (h.function == 5) (is_some (unit_named units h.lun)) (h.function == 6) where
  go : (a b c d : Bool)
      → Keeps s
      (if a then aborted s h
      else (if b then (if c then reset_as s h (OfUnit h.lun) else responded s h.tag 2)
      else (if d then reset_as s h Whole
      else responded s h.tag 5))).session
  go true b c d = aborted_keeps s h
  go false true true d = keeps_as s (reset_as s h (OfUnit h.lun)).session refl refl refl
  go false true false d = keeps_as s (counted s) refl refl refl
  go false false c true = keeps_as s (reset_as s h Whole).session refl refl refl
  go false false c false = keeps_as s (counted s) refl refl refl

read_keeps : (s : Session) (listing : List Found) (h : TextRequest) (o : Option (List Pair)) → Keeps s (text_read s listing h o).session
read_keeps s listing h None = keeps s
read_keeps s listing h (Some pairs) = keeps_as s (text_read s listing h (Some pairs)).session refl refl refl

texted_keeps : (s : Session) (listing : List Found) (h : TextRequest) (text : List ℕ) → Keeps s (texted_with s listing h text).session
texted_keeps s listing h text = go (is_long text) h.more (length text == 0 && not (h.ttt == no_tag)) where
  go : (a b c : Bool) → Keeps s (if a then closes s else (if b then text_kept s h text else (if c then text_sent s h s.left else text_read s listing h (text_pairs text)))).session
  go true b c = keeps s
  go false true c = keeps_as s (text_kept s h text).session refl refl refl
  go false false true = keeps_as s (text_sent s h s.left).session refl refl refl
  go false false false = read_keeps s listing h (text_pairs text)

normally_keeps : (s : Session) (units : List LogicalUnit) (h : Header) (payload : List ℕ) → Keeps s (handled_normally s units h payload).session
normally_keeps s units (head.ScsiCommand h) payload = commanded_keeps s h payload
normally_keeps s units (head.DataOut h) payload = data_keeps s h payload (waiting_in h.tag.0 s.tasks)
normally_keeps s units (head.NopOut h) payload = pinged_keeps s h payload
normally_keeps s units (head.TaskManagement h) payload = managed_keeps s units h
normally_keeps s units (head.LogoutRequest h) payload = keeps_as s (counted s) refl refl refl
normally_keeps s units h payload = keeps s

discovering_keeps : (s : Session) (listing : List Found) (h : Header) (payload : List ℕ) → Keeps s (handled_discovering s listing h payload).session
discovering_keeps s listing (head.TextRequest h) payload = texted_keeps s listing h (s.text ++ payload)
discovering_keeps s listing (head.NopOut h) payload = pinged_keeps s h payload
discovering_keeps s listing (head.LogoutRequest h) payload = keeps_as s (counted s) refl refl refl
discovering_keeps s listing h payload = keeps s

pub handled_keeps : (s : Session) (units : List LogicalUnit) (listing : List Found) (h : Header) (payload : List ℕ) → Keeps s (handled s units listing h payload).session
handled_keeps s units listing h payload =
    if_keeps s s.discovers (handled_discovering s listing h payload) (handled_normally s units h payload) (discovering_keeps s listing h payload) (normally_keeps s units h payload)

drained_keeps : (s : Session) (units : List LogicalUnit) (ts : List Task) → Keeps s (drained s units ts).session
drained_keeps s units [] = keeps_as s (with_tasks s []) refl refl refl
drained_keeps s units (t ∷ ts) = go (is_waiting t) (drained_keeps (counted s) (executed units s.nexus t.command t.payload).units ts) where
  go : (b : Bool) → Keeps (counted s) (drained (counted s) (executed units s.nexus t.command t.payload).units ts).session
      → Keeps s (if b then record { session = with_tasks s (t ∷ ts); units = units; sent = []; fed = Going }
      else behind (reply_pdus s t (executed units s.nexus t.command t.payload).reply)
      (drained (counted s) (executed units s.nexus t.command t.payload).units ts)).session
  go true was = keeps_as s (with_tasks s (t ∷ ts)) refl refl refl
  go false was = record { expects = was.expects; discovers = was.discovers; nexus = was.nexus }

pub served_keeps : (s : Session) (units : List LogicalUnit) (listing : List Found) (p : Pdu) → Keeps s (served s units listing p).session
served_keeps s units listing p = go h.fed (handled_keeps s units listing p.head p.payload) where
  h : Handled
  h = handled s units listing p.head p.payload

  go : (f : Fed) → Keeps s h.session → Keeps s (and_drained f h units).session
  go Closed k = k
  go Going k =
      let more = drained_keeps h.session units h.session.tasks in
      record { expects = more.expects ∙ k.expects; discovers = more.discovers ∙ k.discovers; nexus = more.nexus ∙ k.nexus }

-- the same kind of session, of the same initiator port
pub record IsSamePort (s t : Session) : Type 0 where
  pub discovers : t.discovers ≡ s.discovers
  pub nexus : t.nexus ≡ s.nexus

served_port : (s : Session) (units : List LogicalUnit) (listing : List Found) (p : Pdu) → IsSamePort s (served s units listing p).session
served_port s units listing p = record { discovers = (served_keeps s units listing p).discovers; nexus = (served_keeps s units listing p).nexus }

turn_port : (t : Target) (s : Session) (p : Pdu) → IsSamePort s (turn_of t (advanced s) p).session
turn_port t s p =
    record { discovers = (served_keeps (advanced s) t.units t.listing p).discovers; nexus = (served_keeps (advanced s) t.units t.listing p).nexus }

in_turn_port : (t : Target) (s : Session) (p : Pdu) (held : Held) → IsSamePort s (in_turn t s p held).session
in_turn_port t s p [] = record { discovers = (turn_port t s p).discovers; nexus = (turn_port t s p).nexus }
in_turn_port t s p (None ∷ held) = record { discovers = (turn_port t s p).discovers; nexus = (turn_port t s p).nexus }
in_turn_port t s p (Some next ∷ held) = go turn.fed (turn_port t s p) (in_turn_port (told t turn) (without_resets turn.session) next held) where
  turn : Turn
  turn = turn_of t (advanced s) p

  end : Received
  end = in_turn (told t turn) (without_resets turn.session) next held

  go : (f : Fed) → IsSamePort s turn.session → IsSamePort (without_resets turn.session) end.session → IsSamePort s (followed f (received_turn t held turn) end).session
  go Closed one more = record { discovers = one.discovers; nexus = one.nexus }
  go Going one more = record { discovers = more.discovers ∙ one.discovers; nexus = more.nexus ∙ one.nexus }

pub received_nexus : (place : Place) (t : Target) (s : Session) (held : Held) (p : Pdu) → IsSamePort s (received_at place t s held p).session
received_nexus Now t s held p = let same = served_port s t.units t.listing p in record { discovers = same.discovers; nexus = same.nexus }
received_nexus InTurn t s held p = in_turn_port t s p held
received_nexus (Early at) t s held p = record { discovers = refl; nexus = refl }
received_nexus Outside t s held p = record { discovers = refl; nexus = refl }
