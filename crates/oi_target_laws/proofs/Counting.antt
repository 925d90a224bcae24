-- PDUs have their turn in the order of their numbers.
use Rattle.std.proofs.Common.{ℕ, zero, suc, ◌+◌, ◌-◌, Bool, true, false, not, ◌||◌, ◌≡◌, ◌∙◌, Option, Some, None, List, [], ◌∷◌, ◌++◌, length, replicate, refl, ap, sym, subst, arith, flat_map, option_to_list, slice_get, slice_set, nat_lt, ◌==◌, if◌then◌else◌}
use Rattle.std.proofs.lemmas.Bool.{eqb-true, eqb-false}
use Rattle.oi_base.specs.Serials.{distance, successor}
use Rattle.oi_pdu.specs.declared.codec.Pdu.{Pdu}
use Rattle.oi_pdu.specs.declared.header.Header.{Header}
use Rattle.oi_pdu.specs.declared.header.Header.TheVariants as head
use Rattle.oi_target.specs.Targets.{Target}
use Rattle.oi_target.specs.Turns.{Received, followed, in_turn, received_at, received_turn, told, turn_of}
use Rattle.oi_target_laws.proofs.Keeps.{Keeps, served_keeps}
use Rattle.oi_target_laws.specs.Numbers.{SameAreEqual, Succeed, behind_all, number_by, number_of, numbers_in}
use Rattle.oi_target_laws.specs.Turned.{Turned, in_turn_turns, turned_at, turns_at, turns_if}
use Rattle.oi_target_session.specs.Arrivals.{Held, advanced, is_held, padded, place_ahead, place_by, place_of, window}
use Rattle.oi_target_session.specs.Sessions.{Session, Turn, without_resets}
use Rattle.oi_target_session.specs.declared.fed.Fed.{Fed}
use Rattle.oi_target_session.specs.declared.fed.Fed.TheVariants.{Going, Closed}
use Rattle.oi_target_session.specs.declared.place.Place.{Place}
use Rattle.oi_target_session.specs.declared.place.Place.TheVariants.{Now, InTurn, Early, Outside}

-- one number further
nearer : (exp number ahead : ℕ) → distance exp number ≡ suc ahead → distance (successor exp) number ≡ ahead
nearer exp number ahead is = omega arith

pub same_are_equal : SameAreEqual
same_are_equal a b small tiny is = omega arith

-- a PDU takes the number that is so far ahead of the expected one
pub record IsAhead (discovers : Bool) (exp ahead : ℕ) (p : Pdu) : Type 0 where
  pub number : ℕ
  pub takes : number_of discovers p.head ≡ Some number
  pub far : distance exp number ≡ ahead

-- each that is held does, from this distance on
abbrev pub AreAhead : Bool → ℕ → ℕ → Held → Type 0
AreAhead d exp ahead [] = Unit {0}
AreAhead d exp ahead (None ∷ held) = AreAhead d exp (suc ahead) held
AreAhead d exp ahead (Some p ∷ held) = IsAhead d exp ahead p × AreAhead d exp (suc ahead) held

one_nearer : (d : Bool) (exp ahead : ℕ) (p : Pdu) → IsAhead d exp (suc ahead) p → IsAhead d (successor exp) ahead p
one_nearer d exp ahead p is = record { number = is.number; takes = is.takes; far = nearer exp is.number ahead is.far }

all_nearer : (d : Bool) (exp ahead : ℕ) (held : Held) → AreAhead d exp (suc ahead) held → AreAhead d (successor exp) ahead held
all_nearer d exp ahead [] are = tt
all_nearer d exp ahead (None ∷ held) are = all_nearer d exp (suc ahead) held are
all_nearer d exp ahead (Some p ∷ held) are = (one_nearer d exp ahead p are.0, all_nearer d exp (suc ahead) held are.1)

empty_ahead : (d : Bool) (exp ahead n : ℕ) → AreAhead d exp ahead (replicate n None)
empty_ahead d exp ahead zero = tt
empty_ahead d exp ahead (suc n) = empty_ahead d exp (suc ahead) n

padded_ahead : (d : Bool) (exp ahead n : ℕ) (held : Held) → AreAhead d exp ahead held → AreAhead d exp ahead (held ++ replicate n None)
padded_ahead d exp ahead n [] are = empty_ahead d exp ahead n
padded_ahead d exp ahead n (None ∷ held) are = padded_ahead d exp (suc ahead) n held are
padded_ahead d exp ahead n (Some p ∷ held) are = (are.0, padded_ahead d exp (suc ahead) n held are.1)

set_ahead : (d : Bool) (exp ahead : ℕ) (p : Pdu) (at : ℕ) (held : Held) → IsAhead d exp (ahead + at) p → AreAhead d exp ahead held → AreAhead d exp ahead (slice_set held at (Some p))
set_ahead d exp ahead p at [] is are = tt
set_ahead d exp ahead p zero (None ∷ held) is are = (subst (λ (z : ℕ). IsAhead d exp z p) (omega arith) is, are)
set_ahead d exp ahead p zero (Some q ∷ held) is are = (subst (λ (z : ℕ). IsAhead d exp z p) (omega arith) is, are.1)
set_ahead d exp ahead p (suc at) (None ∷ held) is are = set_ahead d exp (suc ahead) p at held (subst (λ (z : ℕ). IsAhead d exp z p) (omega arith) is) are
set_ahead d exp ahead p (suc at) (Some q ∷ held) is are = (are.0, set_ahead d exp (suc ahead) p at held (subst (λ (z : ℕ). IsAhead d exp z p) (omega arith) is) are.1)

-- numbers that follow others
pub succeed_join : (first : ℕ) (ks js : List ℕ) → Succeed first ks → Succeed (behind_all first ks) js → Succeed first (ks ++ js)
succeed_join first [] js a b = b
succeed_join first (k ∷ ks) js a b = (a.0, succeed_join (successor first) ks js a.1 b)

pub behind_join : (first : ℕ) (ks js : List ℕ) → behind_all first (ks ++ js) ≡ behind_all (behind_all first ks) js
behind_join first [] js = refl
behind_join first (k ∷ ks) js = behind_join (successor first) ks js

-- a session expects this number, and holds PDUs that are ahead of it
pub record Awaits (discovers : Bool) (exp : ℕ) (s : Session) (held : Held) : Type 0 where
  pub discovers_is : s.discovers ≡ discovers
  pub expects : s.numbers.exp.0 ≡ exp
  pub ahead : AreAhead discovers exp 1 held

-- PDUs had their turn, and what is expected then, where the connection stays
pub record Counts (discovers : Bool) (exp : ℕ) (turns : List Turned) (f : Fed) (s : Session) (held : Held) : Type 0 where
  pub succeed : Succeed exp (flat_map numbers_in turns)
  pub awaits : f ≡ Going → Awaits discovers (behind_all exp (flat_map numbers_in turns)) s held

-- a PDU whose number is expected
one_number : (d : Bool) (exp : ℕ) (p : Pdu) → IsAhead d exp 0 p → Succeed exp (option_to_list (number_of d p.head) ++ [])
one_number d exp p is = subst (λ (o : Option ℕ). Succeed exp (option_to_list o ++ [])) (sym is.takes) (is.far, tt)

one_behind : (d : Bool) (exp : ℕ) (p : Pdu) → IsAhead d exp 0 p → behind_all exp (option_to_list (number_of d p.head) ++ []) ≡ successor exp
one_behind d exp p is = ap (λ (o : Option ℕ). behind_all exp (option_to_list o ++ [])) is.takes

one_counts : (t : Target) (s : Session) (p : Pdu) (held : Held) → IsAhead s.discovers s.numbers.exp.0 0 p → AreAhead s.discovers (successor s.numbers.exp.0) 1 held
    → Counts s.discovers s.numbers.exp.0 (turned_at t (advanced s) p ∷ []) (turn_of t (advanced s) p).fed (without_resets (turn_of t (advanced s) p).session) held
one_counts t s p held is are = record {
  succeed = one_number s.discovers s.numbers.exp.0 p is;
  awaits = λ going. record {
    discovers_is = (served_keeps (advanced s) t.units t.listing p).discovers;
    expects = (served_keeps (advanced s) t.units t.listing p).expects ∙ sym (one_behind s.discovers s.numbers.exp.0 p is);
    ahead = subst (λ (z : ℕ). AreAhead s.discovers z 1 held) (sym (one_behind s.discovers s.numbers.exp.0 p is)) are;
  };
}

in_turn_counts : (t : Target) (s : Session) (p : Pdu) (held : Held) → IsAhead s.discovers s.numbers.exp.0 0 p → AreAhead s.discovers s.numbers.exp.0 1 held
    → Counts s.discovers s.numbers.exp.0 (in_turn_turns t s p held) (in_turn t s p held).fed (in_turn t s p held).session (in_turn t s p held).held
in_turn_counts t s p [] is are = one_counts t s p [] is tt
in_turn_counts t s p (None ∷ held) is are = one_counts t s p held is (all_nearer s.discovers s.numbers.exp.0 1 held are)
in_turn_counts t s p (Some next ∷ held) is are =
    go turn.fed (λ first rest. in_turn_counts (told t turn) (without_resets turn.session) next held first rest) where
      turn : Turn
      turn = turn_of t (advanced s) p

      k : Keeps (advanced s) turn.session
      k = served_keeps (advanced s) t.units t.listing p

      end : Received
      end = in_turn (told t turn) (without_resets turn.session) next held

      all : Fed → Received
      all f = followed f (received_turn t held turn) end

      turns : List Turned
      turns = in_turn_turns (told t turn) (without_resets turn.session) next held

      next_is : IsAhead s.discovers (successor s.numbers.exp.0) 0 next
      next_is = one_nearer s.discovers s.numbers.exp.0 0 next are.0

      held_are : AreAhead s.discovers (successor s.numbers.exp.0) 1 held
      held_are = all_nearer s.discovers s.numbers.exp.0 1 held are.1

      more : (IsAhead turn.session.discovers turn.session.numbers.exp.0 0 next → AreAhead turn.session.discovers turn.session.numbers.exp.0 1 held
          → Counts turn.session.discovers turn.session.numbers.exp.0 turns end.fed end.session end.held)
          → Counts s.discovers (successor s.numbers.exp.0) turns end.fed end.session end.held
      more counts =
          subst (λ (b : Bool). Counts b (successor s.numbers.exp.0) turns end.fed end.session end.held) k.discovers
          (subst (λ (z : ℕ). Counts turn.session.discovers z turns end.fed end.session end.held) k.expects
          (counts
          (subst (λ (b : Bool). IsAhead b turn.session.numbers.exp.0 0 next) (sym k.discovers) (subst (λ (z : ℕ). IsAhead s.discovers z 0 next) (sym k.expects) next_is))
          (subst (λ (b : Bool). AreAhead b turn.session.numbers.exp.0 1 held) (sym k.discovers) (subst (λ (z : ℕ). AreAhead s.discovers z 1 held) (sym k.expects) held_are))))

      go : (f : Fed)
          → (IsAhead turn.session.discovers turn.session.numbers.exp.0 0 next → AreAhead turn.session.discovers turn.session.numbers.exp.0 1 held
          → Counts turn.session.discovers turn.session.numbers.exp.0 turns end.fed end.session end.held)
          → Counts s.discovers s.numbers.exp.0 (turned_at t (advanced s) p ∷ turns_if f turns) (all f).fed (all f).session (all f).held
      go Closed counts = one_counts t s p held is held_are
      go Going counts =
          let rest = more counts in
          record {
            succeed = subst (λ (o : Option ℕ). Succeed s.numbers.exp.0 (option_to_list o ++ flat_map numbers_in turns)) (sym is.takes) (is.far, rest.succeed);
            awaits = λ going. subst (λ (o : Option ℕ). Awaits s.discovers (behind_all s.numbers.exp.0 (option_to_list o ++ flat_map numbers_in turns)) end.session end.held)
                (sym is.takes) (rest.awaits going);
          }

-- the place of a PDU is that of its number
abbrev placed_by : ℕ → Option ℕ → Place
placed_by exp None = Now
placed_by exp (Some number) = place_ahead (distance exp number)

by_place : (exp : ℕ) (immediate : Bool) (number : ℕ) → place_by exp immediate number ≡ placed_by exp (number_by immediate number)
by_place exp true number = refl
by_place exp false number = refl

place_is : (d : Bool) (exp : ℕ) (h : Header) → place_of d exp h ≡ placed_by exp (number_of d h)
place_is d exp (head.NopOut h) = by_place exp h.immediate h.cmdsn.0
place_is d exp (head.ScsiCommand h) = by_place exp (h.immediate || d) h.cmdsn.0
place_is d exp (head.TaskManagement h) = by_place exp (h.immediate || d) h.cmdsn.0
place_is d exp (head.LogoutRequest h) = by_place exp h.immediate h.cmdsn.0
place_is d exp (head.TextRequest h) = by_place exp (h.immediate || not d) h.cmdsn.0
place_is d exp h = refl

-- a PDU that takes no number
now_counts : (t : Target) (s : Session) (held : Held) (p : Pdu) → AreAhead s.discovers s.numbers.exp.0 1 held → number_of s.discovers p.head ≡ None
    → Counts s.discovers s.numbers.exp.0 (turned_at t s p ∷ []) (turn_of t s p).fed (without_resets (turn_of t s p).session) held
now_counts t s held p are none = record {
  succeed = subst (λ (o : Option ℕ). Succeed s.numbers.exp.0 (option_to_list o ++ [])) (sym none) tt;
  awaits = λ going. subst (λ (o : Option ℕ). Awaits s.discovers (behind_all s.numbers.exp.0 (option_to_list o ++ [])) (without_resets (turn_of t s p).session) held) (sym none)
      (record { discovers_is = (served_keeps s t.units t.listing p).discovers; expects = (served_keeps s t.units t.listing p).expects; ahead = are });
}

ahead_again : (ahead : ℕ) → ¬ (ahead ≡ 0) → ahead ≡ 1 + (ahead - 1)
ahead_again ahead some = omega arith

-- one that comes early
early_counts : (s : Session) (held : Held) (p : Pdu) (number : ℕ) → AreAhead s.discovers s.numbers.exp.0 1 held → number_of s.discovers p.head ≡ Some number
    → ¬ (distance s.numbers.exp.0 number ≡ 0) → (b : Bool)
    → Counts s.discovers s.numbers.exp.0 [] (if b then Closed else Going) s
    (if b then held else slice_set (padded (distance s.numbers.exp.0 number - 1) held) (distance s.numbers.exp.0 number - 1) (Some p))
early_counts s held p number are takes some true = record { succeed = tt; awaits = λ going. absurd (let n : ⊥ = cc in n) }
early_counts s held p number are takes some false = record {
  succeed = tt;
  awaits = λ going. record {
    discovers_is = refl;
    expects = refl;
    ahead = set_ahead s.discovers s.numbers.exp.0 1 p (distance s.numbers.exp.0 number - 1) (padded (distance s.numbers.exp.0 number - 1) held)
        (record { number = number; takes = takes; far = ahead_again (distance s.numbers.exp.0 number) some })
        (padded_ahead s.discovers s.numbers.exp.0 1 (suc (distance s.numbers.exp.0 number - 1) - length held) held are);
  };
}

-- what comes of a place
abbrev CountsAt : Place → Target → Session → Held → Pdu → Type 0
CountsAt place t s held p =
    Counts s.discovers s.numbers.exp.0 (turns_at place t s held p) (received_at place t s held p).fed (received_at place t s held p).session (received_at place t s held p).held

numbered_counts : (t : Target) (s : Session) (held : Held) (p : Pdu) (number : ℕ) → AreAhead s.discovers s.numbers.exp.0 1 held → number_of s.discovers p.head ≡ Some number
    → (a b : Bool) → (distance s.numbers.exp.0 number == 0) ≡ a → CountsAt (if a then InTurn else (if b then Early (distance s.numbers.exp.0 number - 1) else Outside)) t s held p
numbered_counts t s held p number are takes true b is =
    in_turn_counts t s p held (record { number = number; takes = takes; far = eqb-true (distance s.numbers.exp.0 number) 0 is }) are
numbered_counts t s held p number are takes false true is =
    early_counts s held p number are takes (eqb-false (distance s.numbers.exp.0 number) 0 is) (is_held (slice_get held (distance s.numbers.exp.0 number - 1)))
numbered_counts t s held p number are takes false false is = record { succeed = tt; awaits = λ going. absurd (let n : ⊥ = cc in n) }

-- a PDU that comes
pub received_counts : (t : Target) (s : Session) (held : Held) (p : Pdu) → AreAhead s.discovers s.numbers.exp.0 1 held
    → Counts s.discovers s.numbers.exp.0 (turns_at (place_of s.discovers s.numbers.exp.0 p.head) t s held p)
    (received_at (place_of s.discovers s.numbers.exp.0 p.head) t s held p).fed
    (received_at (place_of s.discovers s.numbers.exp.0 p.head) t s held p).session
    (received_at (place_of s.discovers s.numbers.exp.0 p.head) t s held p).held
received_counts t s held p are = subst (λ (z : Place). CountsAt z t s held p) (sym (place_is s.discovers s.numbers.exp.0 p.head)) (go (number_of s.discovers p.head) refl) where
  go : (o : Option ℕ) → number_of s.discovers p.head ≡ o → CountsAt (placed_by s.numbers.exp.0 o) t s held p
  go None takes = now_counts t s held p are takes
  go (Some number) takes =
      numbered_counts t s held p number are takes (distance s.numbers.exp.0 number == 0) (nat_lt (distance s.numbers.exp.0 number) window) refl
