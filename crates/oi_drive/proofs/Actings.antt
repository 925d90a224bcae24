-- A line's own part, by its deed.
use Rattle.std.proofs.Common.{◌≡◌, inr, ◌∙◌, ◌-◌, ◌<◌, ℕ, ℤ, Bool, true, false, List, ◌++◌, Option, Some, None, length, map, set, slice_get, slice_index_or, sym, ap, subst, refl, append-nil, Result, Ok, Err}
use Rattle.std.proofs.lemmas.List.{map-set}
use Rattle.std.proofs.lemmas.Option.{slice_get-map, slice_get_read}
use Rattle.std.specs.Option.{option_map}
use Rattle.oi_base.specs.declared.memory.NoMemory.{NoMemory}
use Rattle.oi_drive.specs.Acts.{Does}
use Rattle.oi_drive.specs.Deeds.{Deed, fails, nothing, receives}
use Rattle.oi_drive.specs.Splits.{IsSplit}
use Rattle.oi_drive.specs.Steps.{Acts}
use Rattle.oi_drive.specs.Worlds.{Link, World, base, deed_of, fault_of, link_at, link_of, linked, plain_deed, receives_on, refed_at}
use Rattle.oi_drive.specs.declared.answer.Answer.{Answer}
use Rattle.oi_drive.specs.declared.answer.Answer.TheVariants.{Done, Outside}
use Rattle.oi_drive.specs.declared.link.Piece.{Piece}
use Rattle.oi_drive.specs.declared.link.Piece.TheVariants.{Ended, Fed}
use Rattle.oi_history.specs.declared.rule.Rule.{Rule}
use Rattle.oi_pdu.specs.declared.codec.Pdu.{Pdu}
use Rattle.oi_script.specs.declared.line.DriveLine.{DriveLine}
use Rattle.oi_script.specs.declared.line.DriveLine.TheVariants.{Skip, Set, Login, Submit, Send, Recv, Cut, Tick, Abort, ResetLun as ResetLunLine, ResetTarget as ResetTargetLine, Leave, Window, End}
use Rattle.oi_solo.specs.Sessions.{Session, entered_all}
use Rattle.oi_stream.specs.Bytewise.{fed}
use Rattle.oi_stream.specs.Feeding.{State}

-- its session and its deed are these
acted_by : (w v : World) (l : DriveLine) (s : Session) (d : Deed) (before after : List ℕ) (a : Answer) → base w l ≡ s → deed_of w l ≡ d
    → v ≡ record w { session = entered_all s d.entries; links = linked l d.answer w.links } → after ≡ before ++ d.text → a ≡ d.answer → Acts w l before (Ok a) v after
acted_by w v l s d before after a from is goes wrote ans = (
  goes ∙ (ap (λ (x : Session). record w { session = entered_all x d.entries; links = linked l d.answer w.links }) (sym from)
      ∙ ap (λ (x : Deed). record w { session = entered_all (base w l) x.entries; links = linked l x.answer w.links }) (sym is)),
  wrote ∙ ap (λ (x : Deed). before ++ x.text) (sym is),
  ans ∙ ap (λ (x : Deed). x.answer) (sym is),
)

-- it was done
acts_done : (w : World) (l : DriveLine) (d : Deed) (before after : List ℕ) (a : Answer) (new : Session) (links : List Link) → base w l ≡ w.session → deed_of w l ≡ d
    → Does d w.session before (Ok a) new after → links ≡ linked l a w.links → Acts w l before (Ok a) (record w { session = new; links = links }) after
acts_done w l d before after a new links from is h same =
    acted_by w (record w { session = new; links = links }) l w.session d before after a from is
    (ap (λ (x : Session). record w { session = x; links = links }) h.0
    ∙ (ap (λ (x : List Link). record w { session = entered_all w.session d.entries; links = x }) same
    ∙ ap (λ (x : Answer). record w { session = entered_all w.session d.entries; links = linked l x w.links }) h.2))
    h.1 h.2

-- some of it was done
acts_broke : (w v : World) (l : DriveLine) (d : Deed) (before after : List ℕ) (e : NoMemory) → base w l ≡ w.session → deed_of w l ≡ d → Does d w.session before (Err e) v.session after
    → Acts w l before (Err e) v after
acts_broke w v l d before after e from is h =
    let part = subst (λ (x : Deed). Does x w.session before (Err e) v.session after) (sym is) h in
    inr (subst (λ (x : Session). Does (deed_of w l) x before (Err e) v.session after) (sym from) part)

-- lines that ask something of the session alone

abbrev pub is_plain : DriveLine → Bool
is_plain (Set name value) = false
is_plain (Login cmdsn max exp_stat params) = false
is_plain (Recv generation bytes) = false
is_plain l = true

record IsPlain (w : World) (l : DriveLine) : Type 0 where
  base_is : base w l ≡ w.session
  deed_is : deed_of w l ≡ plain_deed l w.session
  links_are : (a : Answer) → linked l a w.links ≡ w.links

plain_is : (w : World) (l : DriveLine) → is_plain l ≡ true → IsPlain w l
plain_is w Skip p = record { base_is = refl; deed_is = refl; links_are = λ a. refl }
plain_is w (Set name value) p = absurd cc
plain_is w (Login cmdsn max exp_stat params) p = absurd cc
plain_is w (Submit request) p = record { base_is = refl; deed_is = refl; links_are = λ a. refl }
plain_is w (Send count) p = record { base_is = refl; deed_is = refl; links_are = λ a. refl }
plain_is w (Recv generation bytes) p = absurd cc
plain_is w Cut p = record { base_is = refl; deed_is = refl; links_are = λ a. refl }
plain_is w (Tick now) p = record { base_is = refl; deed_is = refl; links_are = λ a. refl }
plain_is w (Abort id) p = record { base_is = refl; deed_is = refl; links_are = λ a. refl }
plain_is w (ResetLunLine lun) p = record { base_is = refl; deed_is = refl; links_are = λ a. refl }
plain_is w ResetTargetLine p = record { base_is = refl; deed_is = refl; links_are = λ a. refl }
plain_is w Leave p = record { base_is = refl; deed_is = refl; links_are = λ a. refl }
plain_is w Window p = record { base_is = refl; deed_is = refl; links_are = λ a. refl }
plain_is w End p = record { base_is = refl; deed_is = refl; links_are = λ a. refl }

pub plain_acts : (w : World) (l : DriveLine) (before after : List ℕ) (r : Result Answer NoMemory) (new : Session) → is_plain l ≡ true → Does (plain_deed l w.session) w.session before r new after
    → Acts w l before r (record w { session = new }) after
plain_acts w l before after (Ok a) new p h =
    let k = plain_is w l p in acts_done w l (plain_deed l w.session) before after a new w.links k.base_is k.deed_is h (sym (k.links_are a))
plain_acts w l before after (Err e) new p h =
    let k = plain_is w l p in acts_broke w (record w { session = new }) l (plain_deed l w.session) before after e k.base_is k.deed_is h

pub line_acts : (w : World) (l k : DriveLine) (before after : List ℕ) (r : Result Answer NoMemory) (new : Session) → l ≡ k → is_plain k ≡ true → Does (plain_deed k w.session) w.session before r new after
    → Acts w l before r (record w { session = new }) after
line_acts w l k before after r new is p h =
    subst (λ (x : DriveLine). Acts w x before r (record w { session = new }) after) (sym is) (plain_acts w k before after r new p h)

pub set_acts : (w v : World) (l : DriveLine) (name text said : List ℕ) (value told : ℤ) (r : Result Answer NoMemory) → l ≡ Set name value → said ≡ name → told ≡ value → Acts w (Set said told) text r v text
    → Acts w l text r v text
set_acts w v l name text said value told r is p q h =
    subst (λ (x : DriveLine). Acts w x text r v text) (sym is)
    (subst (λ (x : List ℕ). Acts w (Set x value) text r v text) p (subst (λ (x : ℤ). Acts w (Set said x) text r v text) q h))

-- bytes

pub recv_past : (w : World) (g : ℕ) (bytes text : List ℕ) → link_at w.links g ≡ None → Acts w (Recv g bytes) text (Ok Outside) w text
recv_past w g bytes text past =
    acted_by w w (Recv g bytes) w.session (fails Outside) text text Outside refl (ap (λ (o : Option Link). receives_on o g bytes w.session) past)
    (ap (λ (o : Option Link). record w { links = refed_at o g bytes w.links }) (sym past)) (sym (append-nil text)) refl

pub recv_ended : (w : World) (g : ℕ) (bytes text : List ℕ) (old new : Link) (pdus : List Pdu) → link_at w.links g ≡ Some old → IsSplit old bytes (Ok Ended) new pdus
    → Acts w (Recv g bytes) text (Ok Done) (record w { links = set w.links (g - 1) new }) text
recv_ended w g bytes text old new pdus here p =
    let at : link_at w.links g ≡ Some None = here ∙ ap (λ (o : Link). let x : Option Link = Some o in x) p.0 in
    acted_by w (record w { links = set w.links (g - 1) new }) (Recv g bytes) w.session nothing text text Done refl (ap (λ (o : Option Link). receives_on o g bytes w.session) at)
    (ap (λ (o : Link). record w { links = set w.links (g - 1) o }) p.1 ∙ ap (λ (o : Option Link). record w { links = refed_at o g bytes w.links }) (sym at)) (sym (append-nil text)) refl

fed_deed : (w : World) (g : ℕ) (bytes : List ℕ) (old new : Link) (fault : Option Rule) (pdus : List Pdu) → link_at w.links g ≡ Some old → IsSplit old bytes (Ok (Fed fault)) new pdus
    → deed_of w (Recv g bytes) ≡ receives g pdus fault w.session
fed_deed w g bytes old new fault pdus here p =
    ap (λ (o : Option Link). receives_on o g bytes w.session) (here ∙ ap (λ (o : Link). let x : Option Link = Some o in x) p.1)
    ∙ (ap (λ (ps : List Pdu). receives g ps (fault_of (fed p.0 bytes).stop) w.session) (sym p.2) ∙ ap (λ (o : Option Rule). receives g pdus o w.session) (sym p.3))

fed_links : (w : World) (g : ℕ) (bytes : List ℕ) (old new : Link) (fault : Option Rule) (pdus : List Pdu) → link_at w.links g ≡ Some old → IsSplit old bytes (Ok (Fed fault)) new pdus
    → set w.links (g - 1) new ≡ refed_at (link_at w.links g) g bytes w.links
fed_links w g bytes old new fault pdus here p =
    ap (λ (o : Link). set w.links (g - 1) o) p.4
    ∙ sym (ap (λ (o : Option Link). refed_at o g bytes w.links) (here ∙ ap (λ (o : Link). let x : Option Link = Some o in x) p.1))

pub recv_goes : (w : World) (g : ℕ) (bytes before after : List ℕ) (old new : Link) (fault : Option Rule) (pdus : List Pdu) (a : Answer) (session : Session) → link_at w.links g ≡ Some old
    → IsSplit old bytes (Ok (Fed fault)) new pdus → Does (receives g pdus fault w.session) w.session before (Ok a) session after
    → Acts w (Recv g bytes) before (Ok a) (record w { session = session; links = set w.links (g - 1) new }) after
recv_goes w g bytes before after old new fault pdus a session here p h =
    acts_done w (Recv g bytes) (receives g pdus fault w.session) before after a session (set w.links (g - 1) new) refl (fed_deed w g bytes old new fault pdus here p) h
    (fed_links w g bytes old new fault pdus here p)

pub recv_broke : (w v : World) (g : ℕ) (bytes before after : List ℕ) (old new : Link) (fault : Option Rule) (pdus : List Pdu) (e : NoMemory) → link_at w.links g ≡ Some old
    → IsSplit old bytes (Ok (Fed fault)) new pdus → Does (receives g pdus fault w.session) w.session before (Err e) v.session after → Acts w (Recv g bytes) before (Err e) v after
recv_broke w v g bytes before after old new fault pdus e here p h =
    acts_broke w v (Recv g bytes) (receives g pdus fault w.session) before after e refl (fed_deed w g bytes old new fault pdus here p) h

-- on the links of a run

here_is : (links : List State) (at : ℕ) (x : State) → at < length links → x ≡ slice_index_or links at x → slice_get (map link_of links) at ≡ Some (link_of x)
here_is links at x h is = slice_get-map link_of links at ∙ ap (λ (o : Option State). option_map link_of o) (slice_get_read links (length links) at x refl h is)

pub ended_at : (w : World) (links : List State) (g : ℕ) (bytes text : List ℕ) (x new : State) (pdus : List Pdu) (p : Piece) → w.links ≡ map link_of links → g - 1 < length links
    → x ≡ slice_index_or links (g - 1) x → p ≡ Ended → IsSplit (link_of x) bytes (Ok p) (link_of new) pdus
    → Acts w (Recv g bytes) text (Ok Done) (record w { links = map link_of (set links (g - 1) new) }) text
ended_at w links g bytes text x new pdus p same h is ended split =
    subst (λ (ls : List Link). Acts w (Recv g bytes) text (Ok Done) (record w { links = ls }) text)
    (ap (λ (ls : List Link). set ls (g - 1) (link_of new)) same ∙ sym (map-set link_of links (g - 1) new))
    (recv_ended w g bytes text (link_of x) (link_of new) pdus (ap (λ (ls : List Link). slice_get ls (g - 1)) same ∙ here_is links (g - 1) x h is)
    (subst (λ (q : Piece). IsSplit (link_of x) bytes (Ok q) (link_of new) pdus) ended split))

recv_does : (w : World) (g : ℕ) (bytes before after : List ℕ) (old new : Link) (fault : Option Rule) (pdus : List Pdu) (r : Result Answer NoMemory) (session : Session) → link_at w.links g ≡ Some old
    → IsSplit old bytes (Ok (Fed fault)) new pdus → Does (receives g pdus fault w.session) w.session before r session after
    → Acts w (Recv g bytes) before r (record w { session = session; links = set w.links (g - 1) new }) after
recv_does w g bytes before after old new fault pdus (Ok a) session here p h = recv_goes w g bytes before after old new fault pdus a session here p h
recv_does w g bytes before after old new fault pdus (Err e) session here p h =
    recv_broke w (record w { session = session; links = set w.links (g - 1) new }) g bytes before after old new fault pdus e here p h

pub fed_at : (w : World) (links : List State) (g : ℕ) (bytes before after : List ℕ) (x new : State) (pdus : List Pdu) (p : Piece) (fault : Option Rule) (r : Result Answer NoMemory) (session : Session)
    → w.links ≡ map link_of links → g - 1 < length links → x ≡ slice_index_or links (g - 1) x → p ≡ Fed fault → IsSplit (link_of x) bytes (Ok p) (link_of new) pdus
    → Does (receives g pdus fault w.session) w.session before r session after
    → Acts w (Recv g bytes) before r (record w { session = session; links = map link_of (set links (g - 1) new) }) after
fed_at w links g bytes before after x new pdus p fault r session same h is fed split does =
    subst (λ (ls : List Link). Acts w (Recv g bytes) before r (record w { session = session; links = ls }) after)
    (ap (λ (ls : List Link). set ls (g - 1) (link_of new)) same ∙ sym (map-set link_of links (g - 1) new))
    (recv_does w g bytes before after (link_of x) (link_of new) fault pdus r session (ap (λ (ls : List Link). slice_get ls (g - 1)) same ∙ here_is links (g - 1) x h is)
    (subst (λ (q : Piece). IsSplit (link_of x) bytes (Ok q) (link_of new) pdus) fed split) does)
