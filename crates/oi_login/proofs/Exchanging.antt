-- The exchange, one response more, and the machine's answers as a whole.
use Rattle.std.proofs.Common.{◌≡◌, ◌∙◌, List, [], ◌∷◌, ◌++◌, Some, None, Result, Ok, Err, ap, sym, subst, refl}
use Rattle.oi_pdu.specs.declared.codec.Pdu.{Pdu}
use Rattle.oi_login.specs.Exchanges.{AnswersAll, ComesTo, Continues, ExchangeFrom, LoginExchange, Outcome, Going, Failed, sent_in}
use Rattle.oi_login.specs.States.{LoginState, first_request, opening, state_at}
use Rattle.oi_login.specs.Turns.{Turns}
use Rattle.oi_login.specs.declared.config.LoginConfig.{LoginConfig}
use Rattle.oi_login.specs.declared.fault.LoginFault.{LoginFault}
use Rattle.oi_login.specs.declared.fault.LoginFault.TheVariants.{Status, WrongStage, Key, Auth, Moved, TooManyTurns, Over, Memory}
use Rattle.oi_login.specs.declared.login.LoginStep.{LoginStep}
use Rattle.oi_login.specs.declared.login.LoginStep.TheVariants.{Send, Done as Finished}
use Rattle.oi_login.specs.declared.moves.Turn.{Turn}
use Rattle.oi_login.specs.declared.moves.Turn.TheVariants.{Asks, Reaches, Fails}
use Rattle.oi_login.specs.declared.progress.Progress.{Progress}

same_progress : (p q : Progress) → Going p ≡ Going q → p ≡ q
same_progress p q e = cc

-- after these responses the exchange goes on as it does from its state
abbrev GoesOn : LoginConfig → List Pdu → Pdu → List Pdu → Progress → Outcome → Type 0
GoesOn c rs r more p outcome = (q : Progress) (rest : List Pdu) → ExchangeFrom c q rs rest (Going p) → ExchangeFrom c q (rs ++ r ∷ []) (rest ++ more) outcome

going_on : (c : LoginConfig) (rs qs more : List Pdu) (r : Pdu) (p : Progress) (outcome : Outcome) (turn : Turn) → GoesOn c rs r more p outcome
    → Continues turn (λ q rest o. ExchangeFrom c q rs rest o) qs (Going p)
    → Continues turn (λ q rest o. ExchangeFrom c q (rs ++ r ∷ []) rest o) (qs ++ more) outcome
going_on c rs qs more r p outcome (Asks q request) goes (rest, e, from) =
    (rest ++ more, ap (λ (t : List Pdu). t ++ more) e, goes q rest from)
going_on c rs qs more r p outcome (Reaches done) goes (e, clash) = absurd cc
going_on c rs qs more r p outcome (Fails fault) goes (e, clash) = absurd cc

first_turn : (c : LoginConfig) (qs more : List Pdu) (r : Pdu) (p q : Progress) (outcome : Outcome) (turn : Turn) → q ≡ p → qs ≡ [] → Turns c q r turn
    → Continues turn (λ s rest o. ExchangeFrom c s [] rest o) more outcome → ExchangeFrom c p (r ∷ []) (qs ++ more) outcome
first_turn c qs more r p q outcome turn same none turns more_is =
    subst (λ (t : List Pdu). ExchangeFrom c p (r ∷ []) (t ++ more) outcome) (sym none) (turn, subst (λ (s : Progress). Turns c s r turn) same turns, more_is)

-- the exchange with one response more
grown : (c : LoginConfig) (start p : Progress) (rs qs more : List Pdu) (r : Pdu) (outcome : Outcome) (turn : Turn) → Turns c p r turn
    → Continues turn (λ s rest o. ExchangeFrom c s [] rest o) more outcome → ExchangeFrom c start rs qs (Going p) → ExchangeFrom c start (rs ++ r ∷ []) (qs ++ more) outcome
grown c start p [] qs more r outcome turn turns more_is (none, at) = first_turn c qs more r start p outcome turn (same_progress p start at) none turns more_is
grown c start p (s ∷ rs) qs more r outcome turn turns more_is (t, ts, continues) =
    (t, ts, going_on c rs qs more r p outcome t (λ q rest from. grown c q p rs rest more r outcome turn turns more_is from) continues)

pub grows : (c : LoginConfig) (p : Progress) (rs qs more : List Pdu) (r : Pdu) (outcome : Outcome) (turn : Turn) → Turns c p r turn
    → Continues turn (λ s rest o. ExchangeFrom c s [] rest o) more outcome → LoginExchange c rs qs (Going p) → LoginExchange c (rs ++ r ∷ []) (qs ++ more) outcome
grows c p rs qs more r outcome turn turns more_is (rest, e, from) =
    (rest ++ more, ap (λ (t : List Pdu). t ++ more) e, grown c (opening c) p rs rest more r outcome turn turns more_is from)

-- a login that is over sends nothing
quiet : (c : LoginConfig) (rs : List Pdu) (answers : List (Result LoginStep LoginFault)) (new : LoginState) → AnswersAll (state_at c None) rs answers new → sent_in answers ≡ []
quiet c [] [] new all = refl
quiet c [] (a ∷ answers) new all = absurd all
quiet c (r ∷ rs) [] new all = absurd all
quiet c (r ∷ rs) (Ok (Send request) ∷ answers) new (mid, (p, q, at, turns, is), all) = absurd cc
quiet c (r ∷ rs) (Ok (Finished done) ∷ answers) new (mid, (p, at, turns, is), all) = absurd cc
quiet c (r ∷ rs) (Err Over ∷ answers) new (mid, (at, is), all) = quiet c rs answers new (subst (λ (s : LoginState). AnswersAll s rs answers new) is all)
quiet c (r ∷ rs) (Err Memory ∷ answers) new (mid, (some, is), all) = quiet c rs answers new (subst (λ (s : LoginState). AnswersAll s rs answers new) is all)
quiet c (r ∷ rs) (Err (Status k d) ∷ answers) new (mid, (p, at, turns, is), all) = absurd cc
quiet c (r ∷ rs) (Err WrongStage ∷ answers) new (mid, (p, at, turns, is), all) = absurd cc
quiet c (r ∷ rs) (Err (Key key) ∷ answers) new (mid, (p, at, turns, is), all) = absurd cc
quiet c (r ∷ rs) (Err Auth ∷ answers) new (mid, (p, at, turns, is), all) = absurd cc
quiet c (r ∷ rs) (Err (Moved portal) ∷ answers) new (mid, (p, at, turns, is), all) = absurd cc
quiet c (r ∷ rs) (Err TooManyTurns ∷ answers) new (mid, (p, at, turns, is), all) = absurd cc

some_is : (p q : Progress) → Some p ≡ Some q → q ≡ p
some_is p q e = cc

turned : (c : LoginConfig) (p q : Progress) (r : Pdu) (turn : Turn) → Some p ≡ Some q → Turns c q r turn → Turns c p r turn
turned c p q r turn at turns = subst (λ (s : Progress). Turns c s r turn) (some_is p q at) turns

ended : (c : LoginConfig) (p q : Progress) (r : Pdu) (rs : List Pdu) (fault : LoginFault) (answers : List (Result LoginStep LoginFault)) (mid new : LoginState) (outcome : Outcome)
    → Some p ≡ Some q → Turns c q r (Fails fault) → mid ≡ state_at c None → AnswersAll mid rs answers new → outcome ≡ Failed fault
    → ExchangeFrom c p (r ∷ rs) (sent_in answers) outcome
ended c p q r rs fault answers mid new outcome at turns is all comes =
    (Fails fault, turned c p q r (Fails fault) at turns, (quiet c rs answers new (subst (λ (s : LoginState). AnswersAll s rs answers new) is all), comes))

at_end : (c : LoginConfig) (p : Progress) (new : LoginState) (outcome : Outcome) → new ≡ state_at c (Some p) → ComesTo new.at [] outcome → outcome ≡ Going p
at_end c p new outcome is (q, at, comes) =
    let here : Some p ≡ Some q = sym (ap (λ (s : LoginState). s.at) is) ∙ at in
    comes ∙ ap (λ (s : Progress). Going s) (some_is p q here)

-- the answers as a whole are the exchange
exact : (c : LoginConfig) (p : Progress) (rs : List Pdu) (answers : List (Result LoginStep LoginFault)) (new : LoginState) (outcome : Outcome)
    → AnswersAll (state_at c (Some p)) rs answers new → ComesTo new.at answers outcome → ExchangeFrom c p rs (sent_in answers) outcome
exact c p [] [] new outcome is comes = (refl, at_end c p new outcome is comes)
exact c p [] (a ∷ answers) new outcome all comes = absurd all
exact c p (r ∷ rs) [] new outcome all comes = absurd all
exact c p (r ∷ rs) (Ok (Send request) ∷ answers) new outcome (mid, (q, next, at, turns, is), all) comes = (
  Asks next request,
  turned c p q r (Asks next request) at turns,
  (sent_in answers, refl, exact c next rs answers new outcome (subst (λ (s : LoginState). AnswersAll s rs answers new) is all) comes),
)
exact c p (r ∷ rs) (Ok (Finished done) ∷ answers) new outcome (mid, (q, at, turns, is), all) comes =
    (Reaches done, turned c p q r (Reaches done) at turns, (quiet c rs answers new (subst (λ (s : LoginState). AnswersAll s rs answers new) is all), comes))
exact c p (r ∷ rs) (Err Over ∷ answers) new outcome (mid, (at, is), all) comes = absurd cc
exact c p (r ∷ rs) (Err Memory ∷ answers) new outcome all comes = absurd comes
exact c p (r ∷ rs) (Err (Status k d) ∷ answers) new outcome (mid, (q, at, turns, is), all) comes = ended c p q r rs (Status k d) answers mid new outcome at turns is all comes
exact c p (r ∷ rs) (Err WrongStage ∷ answers) new outcome (mid, (q, at, turns, is), all) comes = ended c p q r rs WrongStage answers mid new outcome at turns is all comes
exact c p (r ∷ rs) (Err (Key key) ∷ answers) new outcome (mid, (q, at, turns, is), all) comes = ended c p q r rs (Key key) answers mid new outcome at turns is all comes
exact c p (r ∷ rs) (Err Auth ∷ answers) new outcome (mid, (q, at, turns, is), all) comes = ended c p q r rs Auth answers mid new outcome at turns is all comes
exact c p (r ∷ rs) (Err (Moved portal) ∷ answers) new outcome (mid, (q, at, turns, is), all) comes = ended c p q r rs (Moved portal) answers mid new outcome at turns is all comes
exact c p (r ∷ rs) (Err TooManyTurns ∷ answers) new outcome (mid, (q, at, turns, is), all) comes = ended c p q r rs TooManyTurns answers mid new outcome at turns is all comes

pub answers_exact : (c : LoginConfig) (rs : List Pdu) (answers : List (Result LoginStep LoginFault)) (new : LoginState) (outcome : Outcome)
    → AnswersAll (state_at c (Some (opening c))) rs answers new → ComesTo new.at answers outcome → LoginExchange c rs (first_request c ∷ sent_in answers) outcome
answers_exact c rs answers new outcome all comes = (sent_in answers, refl, exact c (opening c) rs answers new outcome all comes)
