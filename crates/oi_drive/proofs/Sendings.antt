-- Deeds in a loop.
use Rattle.std.proofs.Common.{◌≡◌, ◌∙◌, ◌<◌, ◌+◌, ◌-◌, ℕ, suc, true, List, [], ◌∷◌, ◌++◌, Option, Some, None, sym, ap, subst, refl, arith, append_assoc, append-nil, Result, Ok, Err}
use Rattle.oi_base.specs.declared.memory.NoMemory.{NoMemory}
use Rattle.oi_drive.proofs.Going.{does_joined, does_nothing, does_stop, entered-append, part_followed}
use Rattle.oi_drive.specs.Acts.{Does, Turns}
use Rattle.oi_drive.specs.Deeds.{Deed, followed, if_done, if_sent, joined, live_on, nothing, on_link, sends, stops, takes, takes_all, turns}
use Rattle.oi_drive.specs.declared.answer.Answer.{Answer}
use Rattle.oi_drive.specs.declared.answer.Answer.TheVariants.{Done, Spent}
use Rattle.oi_drive.specs.declared.answer.Turn.TheVariants as turn
use Rattle.oi_history.specs.declared.event.Event.{Event}
use Rattle.oi_pdu.specs.declared.codec.Pdu.{Pdu}
use Rattle.oi_solo.specs.Sessions.{Session, entered_all, now_of, owed_of}

-- some of a deed is done, and this is the rest
pub record IsUnderWay (whole rest : Deed) (first now : Session) (before after : List ℕ) : Type 0 where
  pub entries : List Event
  pub text : List ℕ
  pub session : now ≡ entered_all first entries
  pub wrote : after ≡ before ++ text
  pub is : whole ≡ joined (record { entries = entries; text = text; answer = Done }) rest

pub begun : (d : Deed) (s : Session) (out : List ℕ) → IsUnderWay d d s s out out
begun d s out = record { entries = []; text = []; session = refl; wrote = sym (append-nil out); is = refl }

-- its rest is done
pub rest_done : (whole rest : Deed) (first now new : Session) (before mid after : List ℕ) (r : Result Answer NoMemory) → IsUnderWay whole rest first now before mid → Does rest now mid r new after
    → Does whole first before r new after
rest_done whole rest first now new before mid after r u h =
    subst (λ (d : Deed). Does d first before r new after) (sym u.is)
    (does_joined (record { entries = u.entries; text = u.text; answer = Done }) rest first now new before mid after r u.session u.wrote h)

-- one more deed of it is done
pub more_done : (whole d : Deed) (f : Session → Deed) (first now new : Session) (before mid after : List ℕ) → IsUnderWay whole (followed now d f) first now before mid
    → Does d now mid (Ok Done) new after → IsUnderWay whole (f new) first new before after
more_done whole d f first now new before mid after u h = record {
  entries = u.entries ++ d.entries;
  text = u.text ++ d.text;
  session = h.0 ∙ (ap (λ (s : Session). entered_all s d.entries) u.session ∙ sym (entered-append first u.entries d.entries));
  wrote = h.1 ∙ (ap (λ (z : List ℕ). z ++ d.text) u.wrote ∙ append_assoc before u.text d.text);
  is = u.is ∙ (ap (λ (a : Answer). joined (record { entries = u.entries; text = u.text; answer = Done }) (if_done a d (f (entered_all now d.entries)))) (sym h.2)
      ∙ (ap (λ (s : Session). joined (record { entries = u.entries; text = u.text; answer = Done }) (joined d (f s))) (sym h.0) ∙ regroup u.entries d.entries (f new).entries u.text d.text (f new).text (f new).answer));
}
  where
    regroup : (xs ys zs : List Event) (a b c : List ℕ) (answer : Answer)
        → (let left : Deed = record { entries = xs ++ (ys ++ zs); text = a ++ (b ++ c); answer = answer } in left) ≡ record { entries = (xs ++ ys) ++ zs; text = (a ++ b) ++ c; answer = answer }
    regroup xs ys zs a b c answer =
        ap (λ (es : List Event). let d : Deed = record { entries = es; text = a ++ (b ++ c); answer = answer } in d) (sym (append_assoc xs ys zs))
        ∙ ap (λ (t : List ℕ). let d : Deed = record { entries = (xs ++ ys) ++ zs; text = t; answer = answer } in d) (sym (append_assoc a b c))

-- transmissions

one_less : (count i : ℕ) → i < count → count - i ≡ suc (count - (i + 1))
one_less count i h = omega arith

sends_at : (count i : ℕ) (s : Session) → i < count
    → sends (count - i) s ≡ on_link (live_on (now_of s).phase) (λ g. followed s (turns g s) (λ t. if_sent (owed_of s) (sends (count - (i + 1)) t))) nothing
sends_at count i s h = ap (λ n. sends n s) (one_less count i h)

sends_live : (count i g : ℕ) (s : Session) → i < count → live_on (now_of s).phase ≡ Some g → sends (count - i) s ≡ followed s (turns g s) (λ t. if_sent (owed_of s) (sends (count - (i + 1)) t))
sends_live count i g s h live =
    sends_at count i s h ∙ ap (λ (o : Option ℕ). on_link o (λ g. followed s (turns g s) (λ t. if_sent (owed_of s) (sends (count - (i + 1)) t))) nothing) live

sends_off : (count i : ℕ) (s : Session) → i < count → live_on (now_of s).phase ≡ None → sends (count - i) s ≡ nothing
sends_off count i s h off =
    sends_at count i s h ∙ ap (λ (o : Option ℕ). on_link o (λ g. followed s (turns g s) (λ t. if_sent (owed_of s) (sends (count - (i + 1)) t))) nothing) off

pub record IsSending (count i : ℕ) (first now : Session) (before after : List ℕ) : Type 0 where
  pub course : IsUnderWay (sends count first) (sends (count - i) now) first now before after

pub sending_first : (count : ℕ) (s : Session) (out : List ℕ) → IsSending count 0 s s out out
sending_first count s out = record { course = subst (λ n. IsUnderWay (sends count s) (sends n s) s s out out) (same count) (begun (sends count s) s out) }
  where
    same : (n : ℕ) → n ≡ n - 0
    same n = omega arith

as_live : (count i g : ℕ) (first now : Session) (before mid : List ℕ) → i < count → IsSending count i first now before mid → live_on (now_of now).phase ≡ Some g
    → IsUnderWay (sends count first) (followed now (turns g now) (λ t. if_sent (owed_of now) (sends (count - (i + 1)) t))) first now before mid
as_live count i g first now before mid h u live = subst (λ (d : Deed). IsUnderWay (sends count first) d first now before mid) (sends_live count i g now h live) u.course

pub sending_more : (count i g : ℕ) (first now new : Session) (before mid after : List ℕ) → i < count → IsSending count i first now before mid → live_on (now_of now).phase ≡ Some g
    → Turns g now mid (Ok turn.Sent) new after → IsSending count (i + 1) first new before after
sending_more count i g first now new before mid after h u live p =
    record {
      course = subst (λ (es : List Event). IsUnderWay (sends count first) (if_sent es (sends (count - (i + 1)) new)) first new before after) p.0.2
          (more_done (sends count first) (turns g now) (λ t. if_sent (owed_of now) (sends (count - (i + 1)) t)) first now new before mid after (as_live count i g first now before mid h u live) p.1);
    }

pub sending_idle : (count i g : ℕ) (first now new : Session) (before mid after : List ℕ) → i < count → IsSending count i first now before mid → live_on (now_of now).phase ≡ Some g
    → Turns g now mid (Ok turn.Idle) new after → Does (sends count first) first before (Ok Done) new after
sending_idle count i g first now new before mid after h u live p =
    rest_done (sends count first) nothing first new new before after after (Ok Done)
    (subst (λ (es : List Event). IsUnderWay (sends count first) (if_sent es (sends (count - (i + 1)) new)) first new before after) p.0
    (more_done (sends count first) (turns g now) (λ t. if_sent (owed_of now) (sends (count - (i + 1)) t)) first now new before mid after (as_live count i g first now before mid h u live) p.1))
    (does_nothing new new after refl)

pub sending_spent : (count i g : ℕ) (first now new : Session) (before mid after : List ℕ) → i < count → IsSending count i first now before mid → live_on (now_of now).phase ≡ Some g
    → Turns g now mid (Ok turn.Spent) new after → Does (sends count first) first before (Ok Spent) new after
sending_spent count i g first now new before mid after h u live p =
    rest_done (sends count first) _ first now new before mid after (Ok Spent) (as_live count i g first now before mid h u live)
    (does_stop (turns g now) (λ t. if_sent (owed_of now) (sends (count - (i + 1)) t)) now new mid after Spent p refl)

pub sending_broke : (count i g : ℕ) (first now new : Session) (before mid after late : List ℕ) (e : NoMemory) → i < count → IsSending count i first now before mid → live_on (now_of now).phase ≡ Some g
    → Turns g now mid (Err e) new after → Does (sends count first) first before (Err e) new late
sending_broke count i g first now new before mid after late e h u live p =
    rest_done (sends count first) _ first now new before mid late (Err e) (as_live count i g first now before mid h u live)
    (part_followed (turns g now) (λ t. if_sent (owed_of now) (sends (count - (i + 1)) t)) now new p)

pub sending_off : (count i : ℕ) (first now : Session) (before after : List ℕ) → i < count → IsSending count i first now before after → live_on (now_of now).phase ≡ None
    → Does (sends count first) first before (Ok Done) now after
sending_off count i first now before after h u off =
    rest_done (sends count first) nothing first now now before after after (Ok Done)
    (subst (λ (d : Deed). IsUnderWay (sends count first) d first now before after) (sends_off count i now h off) u.course) (does_nothing now now after refl)

pub sending_over : (count i : ℕ) (first now : Session) (before after : List ℕ) → count ≡ i → IsSending count i first now before after → Does (sends count first) first before (Ok Done) now after
sending_over count i first now before after same u =
    let none : count - i ≡ 0 = omega arith in
    rest_done (sends count first) nothing first now now before after after (Ok Done)
    (subst (λ n. IsUnderWay (sends count first) (sends n now) first now before after) none u.course) (does_nothing now now after refl)

-- PDUs

pub taking_first : (g : ℕ) (pdus : List Pdu) (s : Session) (out : List ℕ) → IsUnderWay (takes_all g pdus s) (takes_all g pdus s) s s out out
taking_first g pdus s out = begun (takes_all g pdus s) s out

pub taking_more : (g : ℕ) (whole : Deed) (pdu : Pdu) (pdus : List Pdu) (first now new : Session) (before mid after : List ℕ) → IsUnderWay whole (takes_all g (pdu ∷ pdus) now) first now before mid
    → Does (takes g pdu now) now mid (Ok Done) new after → IsUnderWay whole (takes_all g pdus new) first new before after
taking_more g whole pdu pdus first now new before mid after u h = more_done whole (takes g pdu now) (λ t. takes_all g pdus t) first now new before mid after u h

pub taking_stopped : (g : ℕ) (whole : Deed) (pdu : Pdu) (pdus : List Pdu) (first now new : Session) (before mid after : List ℕ) (a : Answer)
    → IsUnderWay whole (takes_all g (pdu ∷ pdus) now) first now before mid → Does (takes g pdu now) now mid (Ok a) new after → stops a ≡ true → Does whole first before (Ok a) new after
taking_stopped g whole pdu pdus first now new before mid after a u h off =
    rest_done whole _ first now new before mid after (Ok a) u (does_stop (takes g pdu now) (λ t. takes_all g pdus t) now new mid after a h off)

pub taking_broke : (g : ℕ) (whole : Deed) (pdu : Pdu) (pdus : List Pdu) (first now new : Session) (before mid after late : List ℕ) (e : NoMemory)
    → IsUnderWay whole (takes_all g (pdu ∷ pdus) now) first now before mid → Does (takes g pdu now) now mid (Err e) new after → Does whole first before (Err e) new late
taking_broke g whole pdu pdus first now new before mid after late e u h =
    rest_done whole _ first now new before mid late (Err e) u (part_followed (takes g pdu now) (λ t. takes_all g pdus t) now new h)

pub taking_over : (g : ℕ) (whole : Deed) (first now : Session) (before after : List ℕ) → IsUnderWay whole (takes_all g [] now) first now before after → Does whole first before (Ok Done) now after
taking_over g whole first now before after u = rest_done whole nothing first now now before after after (Ok Done) u (does_nothing now now after refl)
