use Rattle.std.proofs.Common.{[], ◌∷◌, ◌++◌, List, refl, subst}
use Rattle.std.proofs.lemmas.List.{append-nil}
use Rattle.oi_pdu.specs.declared.codec.Pdu.{Pdu}
use Rattle.oi_login.proofs.Exchanging.{answers_exact, grows}
use Rattle.oi_login.proofs.Unique.{one_exchange}
use Rattle.oi_login.specs.Exchanges.{LoginExchange, Going, Done, Failed}
use Rattle.oi_login.specs.declared.moves.Turn.TheVariants.{Asks, Reaches, Fails}
use Rattle.oi_login.proofs.laws.login_exact.Goals as goal

pub returns-clause-whole : goal.returns-clause-whole
returns-clause-whole c = answers_exact

pub returns-clause-sends : goal.returns-clause-sends
returns-clause-sends c = λ k rs qs p q r request was turns. grows k p rs qs (request ∷ []) r (Going q) (Asks q request) turns ([], refl, (refl, refl)) was

pub returns-clause-done : goal.returns-clause-done
returns-clause-done c =
    λ k rs qs p r done was turns. subst (λ (t : List Pdu). LoginExchange k (rs ++ r ∷ []) t (Done done)) (append-nil qs) (grows k p rs qs [] r (Done done) (Reaches done) turns (refl, refl) was)

pub returns-clause-failed : goal.returns-clause-failed
returns-clause-failed c =
    λ k rs qs p r fault was turns. subst (λ (t : List Pdu). LoginExchange k (rs ++ r ∷ []) t (Failed fault)) (append-nil qs) (grows k p rs qs [] r (Failed fault) (Fails fault) turns (refl, refl) was)

pub returns-clause-one : goal.returns-clause-one
returns-clause-one c = one_exchange
