-- Journeys, one hop more, and a longer last hop.
use Rattle.std.proofs.Common.{◌≡◌, ◌<◌, ◌≤◌, ℕ, Bool, true, false, List, [], ◌∷◌, ◌++◌, Option, Some, None, length, subst, refl, arith, length-append, lit≤}
use Rattle.std.specs.Prelude.{if◌then◌else◌, nat_lt}
use Rattle.std.proofs.lemmas.Bool.Decides.{nat_tests}
use Rattle.oi_names.specs.declared.portal.Portal.{Portal}
use Rattle.oi_pdu.specs.declared.codec.Pdu.{Pdu}
use Rattle.oi_login.specs.Exchanges.{Hop, JourneyFrom, LoginExchange, LoginJourney, Outcome, Going, Done, Failed, hop_of, most_hops, next_hop, onward}
use Rattle.oi_login.specs.declared.config.LoginConfig.{LoginConfig}
use Rattle.oi_login.specs.declared.fault.LoginFault.TheVariants.{Status, WrongStage, Key, Auth, Moved, TooManyTurns, Over, Memory}

one_hop : (target : Option (List ℕ)) → 1 ≤ most_hops target
one_hop None = lit≤ tt
one_hop (Some target) = lit≤ tt

pub begins : (c : LoginConfig) (from : Portal) (rs qs : List Pdu) (o : Outcome) → LoginExchange c rs qs o → LoginJourney c from (hop_of from rs qs ∷ []) o
begins c from rs qs o exchange = record { leads = (refl, exchange); few = one_hop c.target }

-- the last hop's exchange is another one
again_from : (c : LoginConfig) (from : Portal) (hops : List Hop) (last : Hop) (rs qs : List Pdu) (o u : Outcome) → LoginExchange c rs qs u → JourneyFrom c from (hops ++ last ∷ []) o
    → JourneyFrom c from (hops ++ hop_of last.portal rs qs ∷ []) u
again_from c from [] last rs qs o u exchange (at, old) = (at, exchange)
again_from c from (hop ∷ []) last rs qs o u exchange (at, moved, (here, old)) = (at, moved, (here, exchange))
again_from c from (hop ∷ next ∷ hops) last rs qs o u exchange (at, moved, leads) = (at, moved, again_from c next.portal (next ∷ hops) last rs qs o u exchange leads)

pub again : (c : LoginConfig) (from : Portal) (hops : List Hop) (last : Hop) (rs qs : List Pdu) (o u : Outcome) → LoginJourney c from (hops ++ last ∷ []) o → LoginExchange c rs qs u
    → LoginJourney c from (hops ++ hop_of last.portal rs qs ∷ []) u
again c from hops last rs qs o u journey exchange = record {
  leads = again_from c from hops last rs qs o u exchange journey.leads;
  few = omega (arith, journey.few, length-append hops (last ∷ []), length-append hops (hop_of last.portal rs qs ∷ []));
}

-- one hop more
moves_from : (c : LoginConfig) (from next : Portal) (hops : List Hop) (rs qs : List Pdu) (u : Outcome) → JourneyFrom c from hops (Failed (Moved next)) → LoginExchange c rs qs u
    → JourneyFrom c from (hops ++ hop_of next rs qs ∷ []) u
moves_from c from next [] rs qs u leads exchange = absurd leads
moves_from c from next (hop ∷ []) rs qs u (at, old) exchange = (at, old, (refl, exchange))
moves_from c from next (hop ∷ second ∷ hops) rs qs u (at, moved, leads) exchange = (at, moved, moves_from c second.portal next (second ∷ hops) rs qs u leads exchange)

moved_is : (o : Outcome) (next : Portal) → next_hop o ≡ Some next → o ≡ Failed (Moved next)
moved_is (Going p) next e = absurd cc
moved_is (Done done) next e = absurd cc
moved_is (Failed (Moved portal)) next e = cc
moved_is (Failed (Status k d)) next e = absurd cc
moved_is (Failed WrongStage) next e = absurd cc
moved_is (Failed (Key key)) next e = absurd cc
moved_is (Failed Auth) next e = absurd cc
moved_is (Failed TooManyTurns) next e = absurd cc
moved_is (Failed Over) next e = absurd cc
moved_is (Failed Memory) next e = absurd cc

onward_by : (b : Bool) (o : Outcome) (next : Portal) → (if b then next_hop o else None) ≡ Some next → (b ≡ true) × (next_hop o ≡ Some next)
onward_by true o next e = (refl, e)
onward_by false o next e = absurd cc

below : (m n : ℕ) → nat_lt m n ≡ true → m < n
below m n e = grind (arith, nat_tests)

pub moves : (c : LoginConfig) (from next : Portal) (hops : List Hop) (rs qs : List Pdu) (o u : Outcome) → LoginJourney c from hops o → onward c hops o ≡ Some next → LoginExchange c rs qs u
    → LoginJourney c from (hops ++ hop_of next rs qs ∷ []) u
moves c from next hops rs qs o u journey goes exchange =
    let both = onward_by (nat_lt (length hops) (most_hops c.target)) o next goes in
    let room = below (length hops) (most_hops c.target) both.0 in
    record {
      leads = moves_from c from next hops rs qs u (subst (λ (x : Outcome). JourneyFrom c from hops x) (moved_is o next both.1) journey.leads) exchange;
      few = omega (arith, room, length-append hops (hop_of next rs qs ∷ []));
    }

some_from : (c : LoginConfig) (from : Portal) (hops : List Hop) (o : Outcome) → JourneyFrom c from hops o → 1 ≤ length hops
some_from c from [] o leads = absurd leads
some_from c from (hop ∷ hops) o leads = omega arith

most_five : (target : Option (List ℕ)) → most_hops target ≤ 5
most_five None = lit≤ tt
most_five (Some target) = lit≤ tt

pub bounds : (c : LoginConfig) (from : Portal) (hops : List Hop) (o : Outcome) → LoginJourney c from hops o → (1 ≤ length hops) × (length hops ≤ 5)
bounds c from hops o journey = let most = most_five c.target in (some_from c from hops o journey.leads, omega (arith, journey.few, most))
