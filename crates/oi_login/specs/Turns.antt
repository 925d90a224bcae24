-- What a login does with one response. For one response the order is: the opcode, the status class, the stages, the length of
-- the text, the text, its keys, and last the count of responses.
use Rattle.std.specs.Prelude.{◌≡◌, ℕ, Bool, true, false, ◌+◌, ◌||◌, ◌&&◌, ◌==◌, ◌++◌, not, List, [], Option, Some, None, codes, MatchBool, MatchOption, if◌then◌else◌}
use Rattle.oi_base.specs.Serials.{successor}
use Rattle.oi_names.specs.Portals.{IsPortalOf}
use Rattle.oi_names.specs.declared.portal.Portal.{Portal}
use Rattle.oi_negotiate.specs.Keys.{is_text}
use Rattle.oi_negotiate.specs.Negotiated.{answer_to, negotiated, refused_key}
use Rattle.oi_pdu.specs.declared.codec.Pdu.{Pdu}
use Rattle.oi_pdu.specs.declared.header.Header.{Header}
use Rattle.oi_pdu.specs.declared.header.Header.TheVariants.{LoginResponse}
use Rattle.oi_pdu.specs.declared.header.LoginResponse.{LoginResponse as ResponseHeader}
use Rattle.oi_text.specs.Pairs.{IsText, text_of}
use Rattle.oi_text.specs.declared.pairs.Pair.{Pair}
use Rattle.oi_login.specs.Answers.{IsFound, count_of, refusals, sole}
use Rattle.oi_login.specs.Chap.{HasChallenge, IsProved}
use Rattle.oi_login.specs.Keys.{algorithm_keys, offer_keys, response_keys}
use Rattle.oi_login.specs.Requests.{request_of}
use Rattle.oi_login.specs.Stages.{heard, is_due, is_last_turn, is_long, is_operational}
use Rattle.oi_login.specs.declared.chap.Challenge.{Challenge as TargetChallenge}
use Rattle.oi_login.specs.declared.config.LoginAuth.{LoginAuth}
use Rattle.oi_login.specs.declared.config.LoginConfig.{LoginConfig}
use Rattle.oi_login.specs.declared.fault.LoginFault.{LoginFault}
use Rattle.oi_login.specs.declared.fault.LoginFault.TheVariants.{Status, WrongStage, Key, Auth, Moved, TooManyTurns}
use Rattle.oi_login.specs.declared.moves.Ask.{Ask}
use Rattle.oi_login.specs.declared.moves.Turn.{Turn}
use Rattle.oi_login.specs.declared.moves.Turn.TheVariants.{Asks, Reaches, Fails}
use Rattle.oi_login.specs.declared.progress.Progress.{Progress}
use Rattle.oi_login.specs.declared.progress.Stage.{Stage}
use Rattle.oi_login.specs.declared.progress.Stage.TheVariants.{Opening, Challenge, Proof, Security, Operational}

-- a request of these keys, after which this is awaited
abbrev pub asking : Stage → Bool → List Pair → Ask
asking stage transit keys = record { stage = stage; transit = transit; text = text_of keys }

-- the security stage has nothing more to do: with the target's T bit the operational stage begins with the offer, else an empty
-- request has the T bit again
abbrev pub after_security : LoginConfig → Bool → Ask
after_security c true = asking Operational true (offer_keys c)
after_security c false = asking Security true []

abbrev pub is_word : Option (List ℕ) → List ℕ → Bool
is_word None word = false
is_word (Some value) word = is_text value word

-- with CHAP the target has to take it; without, it says None or nothing
abbrev pub takes_method : Option LoginAuth → List Pair → Bool
takes_method None pairs = count_of (codes "AuthMethod") pairs == 0 || is_word (sole (codes "AuthMethod") pairs) (codes "None")
takes_method (Some auth) pairs = is_word (sole (codes "AuthMethod") pairs) (codes "CHAP")

abbrev pub opened_with : Option LoginAuth → LoginConfig → Bool → Ask
opened_with None c transit = after_security c transit
opened_with (Some auth) c transit = asking Challenge false algorithm_keys

-- the answer to the first request
abbrev pub after_opening : LoginConfig → Bool → List Pair → Option Ask
after_opening c transit pairs = if takes_method c.auth pairs then Some (opened_with c.auth c transit) else None

-- the answer with the target's challenge
abbrev pub TakesChallenge : Option LoginAuth → List Pair → Option Ask → Type 0
TakesChallenge None pairs move = move ≡ None
TakesChallenge (Some auth) pairs (Some ask) =
    (challenge : TargetChallenge) × HasChallenge pairs challenge × (ask ≡ asking Proof true (response_keys auth challenge))
TakesChallenge (Some auth) pairs None = (challenge : TargetChallenge) → HasChallenge pairs challenge → ⊥

-- the answer to the response
abbrev pub TakesProof : LoginConfig → Bool → List Pair → Option Ask → Type 0
TakesProof c transit pairs (Some ask) = IsProved c.auth pairs × (ask ≡ after_security c transit)
TakesProof c transit pairs None = IsProved c.auth pairs → ⊥

-- what is asked next after an answer with these pairs and this T bit; None where the authentication failed
abbrev pub Moves : LoginConfig → Stage → Bool → List Pair → Option Ask → Type 0
Moves c Opening transit pairs move = move ≡ after_opening c transit pairs
Moves c Challenge transit pairs move = TakesChallenge c.auth pairs move
Moves c Proof transit pairs move = TakesProof c transit pairs move
Moves c Security transit pairs move = move ≡ Some (after_security c transit)
Moves c Operational transit pairs move = move ≡ Some (asking Operational true [])

-- the next request, where one may follow: its own keys, then an answer to each key that is not known
abbrev pub asked : LoginConfig → Progress → ResponseHeader → List Pair → Option Ask → Turn
asked c p h pairs None = Fails Auth
asked c p h pairs (Some ask) =
    if is_last_turn p then Fails TooManyTurns
    else Asks (record { stage = ask.stage; transit = ask.transit; text = []; pairs = p.pairs ++ pairs; turns = p.turns + 1 })
    (request_of c.isid ask.stage ask.transit (successor h.stat.0) (ask.text ++ text_of (refusals pairs)))

-- the text goes on in the next response: an empty request without the T bit asks for it
abbrev pub asked_on : LoginConfig → Progress → ResponseHeader → Turn
asked_on c p h =
    if is_last_turn p then Fails TooManyTurns
    else Asks (record { stage = p.stage; transit = false; text = p.text; pairs = p.pairs; turns = p.turns + 1 })
    (request_of c.isid p.stage false (successor h.stat.0) [])

abbrev pub settled_by : LoginConfig → ResponseHeader → List Pair → Option (List ℕ) → Turn
settled_by c h theirs (Some key) = Fails (Key key)
settled_by c h theirs None =
    Reaches (record { params = negotiated c.offer theirs; tsih = h.tsih; cmdsn = 1; max = h.max.0; exp_stat = successor h.stat.0 })

-- the end of the operational stage: all pairs of the target settle the keys
abbrev pub settled : LoginConfig → ResponseHeader → List Pair → Turn
settled c h theirs = settled_by c h theirs (refused_key theirs)

-- an answer with these pairs
abbrev pub Hears : LoginConfig → Progress → ResponseHeader → List Pair → Turn → Type 0
Hears c p h pairs turn =
    MatchBool (is_operational p.stage && h.transit) (turn ≡ settled c h (p.pairs ++ pairs))
    ((move : Option Ask) × Moves c p.stage h.transit pairs move × (turn ≡ asked c p h pairs move))

-- the text of an answer is read as a whole
abbrev pub ReadsText : LoginConfig → Progress → ResponseHeader → Turn → Type 0
ReadsText c p h turn =
    (reading : Option (List Pair)) × IsFound (IsText p.text) reading
    × MatchOption reading (turn ≡ Fails (Key [])) (λ pairs. Hears c p h pairs turn)

-- a response of class 0: the stages, the length of the text, and its parts
abbrev pub Succeeds : LoginConfig → Progress → ResponseHeader → Turn → Type 0
Succeeds c p h turn =
    MatchBool (not (is_due p h)) (turn ≡ Fails WrongStage)
    (MatchBool (is_long p.text) (turn ≡ Fails TooManyTurns)
    (MatchBool h.more (turn ≡ asked_on c p h)
    (ReadsText c p h turn)))

-- the first TargetAddress of a text names this portal (RFC 7143, section 13.8)
abbrev pub NamesPortal : List ℕ → Portal → Type 0
NamesPortal text portal =
    (pairs : List Pair) × (value : List ℕ) × (tag : Option ℕ) × IsText text pairs
    × (answer_to (codes "TargetAddress") pairs ≡ Some value) × IsPortalOf portal.address portal.port tag value

-- a redirection, for every detail
abbrev pub Redirects : List ℕ → ℕ → LoginFault → Type 0
Redirects text detail (Moved portal) = NamesPortal text portal
Redirects text detail fault = (fault ≡ Status 1 detail) × ((portal : Portal) → NamesPortal text portal → ⊥)

-- a response of another class
abbrev pub Refuses : List ℕ → ResponseHeader → LoginFault → Type 0
Refuses text h fault = MatchBool (h.class == 1) (Redirects text h.detail fault) (fault ≡ Status h.class h.detail)

abbrev pub FailsBy : (LoginFault → Type 0) → Turn → Type 0
FailsBy P (Fails fault) = P fault
FailsBy P turn = ⊥

-- a Login Response, with the text so far before its own
abbrev pub Responds : LoginConfig → Progress → ResponseHeader → Turn → Type 0
Responds c p h turn = MatchBool (h.class == 0) (Succeeds c p h turn) (FailsBy (Refuses p.text h) turn)

abbrev pub TurnsBy : LoginConfig → Progress → Header → Turn → Type 0
TurnsBy c p (LoginResponse h) turn = Responds c p h turn
TurnsBy c p h turn = turn ≡ Fails WrongStage

-- what one response leads to
abbrev pub Turns : LoginConfig → Progress → Pdu → Turn → Type 0
Turns c p r turn = TurnsBy c (heard p r.payload) r.head turn
