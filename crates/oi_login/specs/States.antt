-- What contracts see of a login, and what its calls answer.
use Rattle.std.specs.Prelude.{◌≡◌, Bool, not, [], Option, Some, None, IsSome, Result, Ok, Err, is_some}
use Rattle.oi_pdu.specs.Wire.{Encodable}
use Rattle.oi_pdu.specs.declared.codec.Pdu.{Pdu}
use Rattle.oi_text.specs.Pairs.{text_of}
use Rattle.oi_login.specs.Keys.{first_keys}
use Rattle.oi_login.specs.Requests.{request_of}
use Rattle.oi_login.specs.Turns.{Turns}
use Rattle.oi_login.specs.declared.config.LoginConfig.{LoginConfig}
use Rattle.oi_login.specs.declared.fault.LoginFault.{LoginFault}
use Rattle.oi_login.specs.declared.fault.LoginFault.TheVariants.{Over, Memory}
use Rattle.oi_login.specs.declared.login.LoginStep.{LoginStep}
use Rattle.oi_login.specs.declared.login.LoginStep.TheVariants.{Send, Done}
use Rattle.oi_login.specs.declared.moves.Turn.TheVariants.{Asks, Reaches, Fails}
use Rattle.oi_login.specs.declared.progress.Progress.{Progress}
use Rattle.oi_login.specs.declared.progress.Stage.TheVariants.{Opening}

-- its settings, and how far it has come; None once it is over
pub record LoginState : Type 0 where
  pub config : LoginConfig
  pub at : Option Progress

-- the first request has the T bit where no authentication is offered
abbrev pub begins_transit : LoginConfig → Bool
begins_transit c = not (is_some c.auth)

-- the first request was sent
abbrev pub opening : LoginConfig → Progress
opening c = record { stage = Opening; transit = begins_transit c; text = []; pairs = []; turns = 0 }

abbrev pub first_request : LoginConfig → Pdu
first_request c = request_of c.isid Opening (begins_transit c) 0 (text_of (first_keys c))

abbrev pub state_at : LoginConfig → Option Progress → LoginState
state_at c at = record { config = c; at = at }

-- the answer to a response, one line an answer: the request to send, the end, or a fault, after which the login is over.
-- Want of memory ends it too
abbrev pub Answers : LoginState → Pdu → Result LoginStep LoginFault → LoginState → Type 0
Answers old response (Ok (Send request)) new =
    (p : Progress) × (q : Progress) × (old.at ≡ Some p) × Turns old.config p response (Asks q request) × (new ≡ state_at old.config (Some q))
Answers old response (Ok (Done done)) new =
    (p : Progress) × (old.at ≡ Some p) × Turns old.config p response (Reaches done) × (new ≡ state_at old.config None)
Answers old response (Err Over) new = (old.at ≡ None) × (new ≡ old)
Answers old response (Err Memory) new = IsSome old.at × (new ≡ state_at old.config None)
Answers old response (Err fault) new =
    (p : Progress) × (old.at ≡ Some p) × Turns old.config p response (Fails fault) × (new ≡ state_at old.config None)

-- a request that is to be sent can be encoded
abbrev pub CanBeSent : LoginStep → Type 0
CanBeSent (Send request) = Encodable request
CanBeSent (Done done) = Unit {0}
