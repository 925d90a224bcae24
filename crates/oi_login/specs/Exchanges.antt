-- A login over all responses that come: the requests that are sent, and what it comes to.
use Rattle.std.specs.Prelude.{◌≡◌, ℕ, ◌≤◌, List, [], ◌∷◌, Option, Some, None, Result, Ok, Err, length, nat_lt, if◌then◌else◌}
use Rattle.std.specs.List.{flat_map}
use Rattle.oi_base.specs.declared.login.LoginDone.{LoginDone}
use Rattle.oi_names.specs.declared.portal.Portal.{Portal}
use Rattle.oi_pdu.specs.declared.codec.Pdu.{Pdu}
use Rattle.oi_login.specs.States.{Answers, LoginState, first_request, opening}
use Rattle.oi_login.specs.Turns.{Turns}
use Rattle.oi_login.specs.declared.config.LoginConfig.{LoginConfig}
use Rattle.oi_login.specs.declared.fault.LoginFault.{LoginFault}
use Rattle.oi_login.specs.declared.fault.LoginFault.TheVariants.{Moved, Memory}
use Rattle.oi_login.specs.declared.login.LoginStep.{LoginStep}
use Rattle.oi_login.specs.declared.login.LoginStep.TheVariants.{Send, Done as Finished}
use Rattle.oi_login.specs.declared.moves.Turn.{Turn}
use Rattle.oi_login.specs.declared.moves.Turn.TheVariants.{Asks, Reaches, Fails}
use Rattle.oi_login.specs.declared.progress.Progress.{Progress}

-- what a login came to after the responses so far
pub data Outcome : Type 0 where
  Going : (progress : Progress) → Outcome
  Done : (done : LoginDone) → Outcome
  Failed : (fault : LoginFault) → Outcome

-- a further request, behind which the exchange goes on; else its end
abbrev pub Continues : Turn → (Progress → List Pdu → Outcome → Type 0) → List Pdu → Outcome → Type 0
Continues (Asks p request) more requests outcome = (rest : List Pdu) × (requests ≡ request ∷ rest) × more p rest outcome
Continues (Reaches done) more requests outcome = (requests ≡ []) × (outcome ≡ Done done)
Continues (Fails fault) more requests outcome = (requests ≡ []) × (outcome ≡ Failed fault)

-- the requests that follow these responses, and the outcome; responses after the end count for nothing
abbrev pub ExchangeFrom : LoginConfig → Progress → List Pdu → List Pdu → Outcome → Type 0
ExchangeFrom c p [] requests outcome = (requests ≡ []) × (outcome ≡ Going p)
ExchangeFrom c p (r ∷ rs) requests outcome =
    (turn : Turn) × Turns c p r turn × Continues turn (λ q rest o. ExchangeFrom c q rs rest o) requests outcome

-- the login exchange: for these settings and these responses, all requests that are sent and the outcome
abbrev pub LoginExchange : LoginConfig → List Pdu → List Pdu → Outcome → Type 0
LoginExchange c responses requests outcome =
    (rest : List Pdu) × (requests ≡ first_request c ∷ rest) × ExchangeFrom c (opening c) responses rest outcome

-- one login on the way of a redirected one: where, what came from there, and what was sent
pub record Hop : Type 0 where
  pub portal : Portal
  pub responses : List Pdu
  pub requests : List Pdu

abbrev pub hop_of : Portal → List Pdu → List Pdu → Hop
hop_of portal responses requests = record { portal = portal; responses = responses; requests = requests }

-- a discovery does not follow a redirection, a session follows four
abbrev pub most_hops : Option (List ℕ) → ℕ
most_hops None = 1
most_hops (Some target) = 5

-- each hop begins where the one before it was sent, and the outcome is that of the last one
abbrev pub JourneyFrom : LoginConfig → Portal → List Hop → Outcome → Type 0
JourneyFrom c from [] outcome = ⊥
JourneyFrom c from (hop ∷ []) outcome = (hop.portal ≡ from) × LoginExchange c hop.responses hop.requests outcome
JourneyFrom c from (hop ∷ next ∷ hops) outcome =
    (hop.portal ≡ from) × LoginExchange c hop.responses hop.requests (Failed (Moved next.portal)) × JourneyFrom c next.portal (next ∷ hops) outcome

-- the login journey: a login that begins at a portal and follows redirections
pub record LoginJourney (c : LoginConfig) (from : Portal) (hops : List Hop) (outcome : Outcome) : Type 0 where
  pub leads : JourneyFrom c from hops outcome
  pub few : length hops ≤ most_hops c.target

abbrev pub next_hop : Outcome → Option Portal
next_hop (Failed (Moved portal)) = Some portal
next_hop outcome = None

-- where a journey that has come to this outcome goes on, if it does
abbrev pub onward : LoginConfig → List Hop → Outcome → Option Portal
onward c hops outcome = if nat_lt (length hops) (most_hops c.target) then next_hop outcome else None

-- a journey is over where it neither goes on nor waits
abbrev pub IsOver : LoginConfig → List Hop → Outcome → Type 0
IsOver c hops (Going p) = ⊥
IsOver c hops outcome = onward c hops outcome ≡ None

-- the machine's answers to these responses, one after another
abbrev pub AnswersAll : LoginState → List Pdu → List (Result LoginStep LoginFault) → LoginState → Type 0
AnswersAll old [] [] new = new ≡ old
AnswersAll old (r ∷ rs) (answer ∷ answers) new = (mid : LoginState) × Answers old r answer mid × AnswersAll mid rs answers new
AnswersAll old [] (answer ∷ answers) new = ⊥
AnswersAll old (r ∷ rs) [] new = ⊥

abbrev pub sent_by : Result LoginStep LoginFault → List Pdu
sent_by (Ok (Send request)) = request ∷ []
sent_by answer = []

-- the requests among the answers
abbrev pub sent_in : List (Result LoginStep LoginFault) → List Pdu
sent_in answers = flat_map sent_by answers

-- what the answers came to; where memory was wanted, nothing
abbrev pub ComesTo : Option Progress → List (Result LoginStep LoginFault) → Outcome → Type 0
ComesTo at [] outcome = (p : Progress) × (at ≡ Some p) × (outcome ≡ Going p)
ComesTo at (Ok (Send request) ∷ answers) outcome = ComesTo at answers outcome
ComesTo at (Ok (Finished done) ∷ answers) outcome = outcome ≡ Done done
ComesTo at (Err Memory ∷ answers) outcome = ⊥
ComesTo at (Err fault ∷ answers) outcome = outcome ≡ Failed fault
