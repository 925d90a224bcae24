-- Behind a PDU of a session the others have learnt of its resets, and nothing else of a target changes but its units.
use Rattle.std.proofs.Common.{◌≡◌, Some, None, List, [], ◌∷◌, ◌++◌, refl, subst}
use Rattle.oi_pdu.specs.declared.codec.Pdu.{Pdu}
use Rattle.oi_target.specs.Steps.{received_by}
use Rattle.oi_target.specs.Targets.{Target, reset_each, reset_links}
use Rattle.oi_target.specs.Turns.{Received, followed, in_turn, reached, received_at, received_turn, told, turn_of}
use Rattle.oi_target.specs.declared.link.Link.{Link}
use Rattle.oi_target.specs.declared.link.Serving.{Serving}
use Rattle.oi_target_session.specs.Arrivals.{Held, advanced, place_of}
use Rattle.oi_target_session.specs.Owing.{paid}
use Rattle.oi_target_session.specs.Sessions.{Session, Turn, without_resets}
use Rattle.oi_target_session.specs.declared.fed.Fed.{Fed}
use Rattle.oi_target_session.specs.declared.fed.Fed.TheVariants.{Going, Closed}
use Rattle.oi_target_session.specs.declared.place.Place.{Place}
use Rattle.oi_target_session.specs.declared.place.Place.TheVariants.{Now, InTurn, Early, Outside}
use Rattle.oi_target_session.specs.declared.reset.Reset.{Reset}
use Rattle.oi_units.specs.declared.unit.LogicalUnit.{LogicalUnit}

-- connections behind resets, each of which they learnt on units of its own time
abbrev pub AreTold : List Reset → List Link → List Link → Type 0
AreTold [] ls ks = ks ≡ ls
AreTold (reset ∷ resets) ls ks = (units : List LogicalUnit) × AreTold resets (reset_each reset units ls).links ks

pub resets_told : (resets : List Reset) (units : List LogicalUnit) (ls : List Link) → AreTold resets ls (reset_links resets units ls).links
resets_told [] units ls = refl
resets_told (reset ∷ resets) units ls = (units, resets_told resets (reset_each reset units ls).units (reset_each reset units ls).links)

pub told_join : (first second : List Reset) (ls ks js : List Link) → AreTold first ls ks → AreTold second ks js → AreTold (first ++ second) ls js
told_join [] second ls ks js a b = subst (λ (z : List Link). AreTold second z js) a b
told_join (reset ∷ resets) second ls ks js a b = (a.0, told_join resets second (reset_each reset a.0 ls).links ks js a.1 b)

pub record IsTold (t : Target) (r : Received) : Type 0 where
  pub links : AreTold r.resets t.links r.target.links
  pub same : r.target ≡ reached t (record { units = r.target.units; links = r.target.links })

turn_told : (t : Target) (held : Held) (turn : Turn) → IsTold t (received_turn t held turn)
turn_told t held turn = record { links = resets_told turn.session.resets turn.units t.links; same = refl }

in_turn_told : (t : Target) (s : Session) (p : Pdu) (held : Held) → IsTold t (in_turn t s p held)
in_turn_told t s p [] = turn_told t [] (turn_of t (advanced s) p)
in_turn_told t s p (None ∷ held) = turn_told t held (turn_of t (advanced s) p)
in_turn_told t s p (Some next ∷ held) = go turn.fed (in_turn_told (told t turn) (without_resets turn.session) next held) where
  turn : Turn
  turn = turn_of t (advanced s) p

  one : Received
  one = received_turn t held turn

  rest : Received
  rest = in_turn (told t turn) (without_resets turn.session) next held

  go : (f : Fed) → IsTold (told t turn) rest → IsTold t (followed f one rest)
  go Closed more = turn_told t held turn
  go Going more = record {
    links = told_join one.resets rest.resets t.links (told t turn).links rest.target.links (resets_told turn.session.resets turn.units t.links) more.links;
    same = more.same;
  }

received_told : (place : Place) (t : Target) (s : Session) (held : Held) (p : Pdu) → IsTold t (received_at place t s held p)
received_told Now t s held p = turn_told t held (turn_of t s p)
received_told InTurn t s held p = in_turn_told t s p held
received_told (Early at) t s held p = record { links = refl; same = refl }
received_told Outside t s held p = record { links = refl; same = refl }

pub step_told : (t : Target) (v : Serving) (p : Pdu) → IsTold t (received_by v t p)
step_told t v p = received_told (place_of v.session.discovers v.session.numbers.exp.0 p.head) t (paid v.session v.owed) v.held p
