-- The requests of a login can be encoded.
use Rattle.std.proofs.Common.{◌≡◌, ◌<◌, ◌≤◌, ◌*◌, ◌^◌, ℕ, Bool, true, false, ◌==◌, ◌&&◌, not, List, [], ◌++◌, Option, Some, None, length, ap, sym, subst, refl, arith, length-append, MatchBool, MatchOption, lit<, lit≤}
use Rattle.std.specs.Prelude.{if◌then◌else◌, nat_lt}
use Rattle.std.proofs.lemmas.Bool.Decides.{nat_tests}
use Rattle.oi_base.specs.Serials.{successor}
use Rattle.oi_negotiate.specs.Negotiated.{refused_key}
use Rattle.oi_pdu.specs.Wire.{Encodable}
use Rattle.oi_pdu.specs.declared.codec.Pdu.{Pdu}
use Rattle.oi_pdu.specs.declared.header.Header.{Header}
use Rattle.oi_pdu.specs.declared.header.Header.TheVariants as headers
use Rattle.oi_pdu.specs.declared.header.LoginResponse.{LoginResponse as ResponseHeader}
use Rattle.oi_text.specs.Pairs.{IsText, text_of}
use Rattle.oi_text.specs.declared.pairs.Pair.{Pair}
use Rattle.oi_login.proofs.Sizes.{algorithm_short, first_short, offer_short, refused_short, response_short}
use Rattle.oi_login.proofs.Steps.{either}
use Rattle.oi_login.specs.Answers.{IsFound, refusals}
use Rattle.oi_login.specs.Configs.{AuthFits, HasNames, IsSendable, IsValidAuth}
use Rattle.oi_login.specs.Keys.{first_keys}
use Rattle.oi_login.specs.Requests.{request_of}
use Rattle.oi_login.specs.Stages.{heard, is_due, is_last_turn, is_long, is_operational}
use Rattle.oi_login.specs.States.{begins_transit, first_request}
use Rattle.oi_login.specs.Turns.{FailsBy, Hears, Moves, ReadsText, Refuses, Succeeds, TakesChallenge, Turns, TurnsBy, after_security, asked, asked_on, opened_with, settled, settled_by, takes_method}
use Rattle.oi_login.specs.declared.config.LoginAuth.{LoginAuth}
use Rattle.oi_login.specs.declared.config.LoginConfig.{LoginConfig}
use Rattle.oi_login.specs.declared.fault.LoginFault.{LoginFault}
use Rattle.oi_login.specs.declared.fault.LoginFault.TheVariants.{WrongStage, Key, Auth, TooManyTurns}
use Rattle.oi_login.specs.declared.moves.Ask.{Ask}
use Rattle.oi_login.specs.declared.moves.Turn.{Turn}
use Rattle.oi_login.specs.declared.moves.Turn.TheVariants.{Asks, Reaches, Fails}
use Rattle.oi_login.specs.declared.progress.Progress.{Progress}
use Rattle.oi_login.specs.declared.progress.Stage.{Stage}
use Rattle.oi_login.specs.declared.progress.Stage.TheVariants.{Opening, Challenge, Proof, Security, Operational}

successor_small : (n : ℕ) → successor n < 2 ^ 32
successor_small n = omega arith

-- a request with a short text
encodable_at : (isid : List ℕ) (stage : Stage) (transit : Bool) (stat : ℕ) (text : List ℕ) → length isid ≡ 6 → stat < 2 ^ 32 → length text < 2 ^ 24 → Encodable (request_of isid stage transit stat text)
encodable_at isid Operational true stat text six small short =
    record { header = (((lit< tt, (lit< tt, (small, tt))), (lit< tt, (lit< tt, tt)), lit< tt, lit< tt, six), refl); size = short }
encodable_at isid Operational false stat text six small short =
    record { header = (((lit< tt, (lit< tt, (small, tt))), (lit< tt, (lit< tt, tt)), lit< tt, lit< tt, six), refl); size = short }
encodable_at isid stage true stat text six small short =
    record { header = (((lit< tt, (lit< tt, (small, tt))), (lit< tt, (lit< tt, tt)), lit< tt, lit< tt, six), refl); size = short }
encodable_at isid stage false stat text six small short =
    record { header = (((lit< tt, (lit< tt, (small, tt))), (lit< tt, (lit< tt, tt)), lit< tt, lit< tt, six), refl); size = short }

-- own keys are short

security_short : (c : LoginConfig) (transit : Bool) → IsSendable c → length (after_security c transit).text ≤ 2 ^ 18
security_short c true sends = offer_short c sends.offer
security_short c false sends = lit≤ tt

opened_short : (auth : Option LoginAuth) (c : LoginConfig) (transit : Bool) → IsSendable c → length (opened_with auth c transit).text ≤ 2 ^ 18
opened_short None c transit sends = security_short c transit sends
opened_short (Some auth) c transit sends = algorithm_short

short_if : (b : Bool) (ask x : Ask) → Some ask ≡ (if b then Some x else None) → length x.text ≤ 2 ^ 18 → length ask.text ≤ 2 ^ 18
short_if true ask x e short = let same : ask ≡ x = cc in subst (λ (a : Ask). length a.text ≤ 2 ^ 18) (sym same) short
short_if false ask x e short = absurd cc

short_as : (ask x : Ask) → ask ≡ x → length x.text ≤ 2 ^ 18 → length ask.text ≤ 2 ^ 18
short_as ask x e short = subst (λ (a : Ask). length a.text ≤ 2 ^ 18) (sym e) short

short_some : (ask x : Ask) → Some ask ≡ Some x → length x.text ≤ 2 ^ 18 → length ask.text ≤ 2 ^ 18
short_some ask x e short = let same : ask ≡ x = cc in short_as ask x same short

answer_short : (o : Option LoginAuth) (ps : List Pair) (ask : Ask) → IsValidAuth o → AuthFits o → TakesChallenge o ps (Some ask) → length ask.text ≤ 2 ^ 18
answer_short None ps ask valid fits e = absurd cc
answer_short (Some auth) ps ask valid fits (challenge, has, is) = short_as ask _ is (response_short auth challenge valid.0 fits.0 fits.1)

move_short : (c : LoginConfig) (stage : Stage) (transit : Bool) (ps : List Pair) (ask : Ask) → IsSendable c → Moves c stage transit ps (Some ask) → length ask.text ≤ 2 ^ 18
move_short c Opening transit ps ask sends m = short_if (takes_method c.auth ps) ask (opened_with c.auth c transit) m (opened_short c.auth c transit sends)
move_short c Challenge transit ps ask sends m = answer_short c.auth ps ask sends.valid.auth sends.auth m
move_short c Proof transit ps ask sends (proved, is) = short_as ask (after_security c transit) is (security_short c transit sends)
move_short c Security transit ps ask sends m = short_some ask (after_security c transit) m (security_short c transit sends)
move_short c Operational transit ps ask sends m = short_some ask _ m (lit≤ tt)

-- a request that is an answer can be encoded

abbrev SendsWell : Turn → Type 0
SendsWell (Asks q request) = Encodable request
SendsWell turn = Unit {0}

well_as : (turn x : Turn) → turn ≡ x → SendsWell x → SendsWell turn
well_as turn x e well = subst SendsWell (sym e) well

well_fails : (turn : Turn) (f : LoginFault) → turn ≡ Fails f → SendsWell turn
well_fails turn f e = well_as turn (Fails f) e tt

well_if : (b : Bool) (turn : Turn) (q : Progress) (request : Pdu) → turn ≡ (if b then Fails TooManyTurns else Asks q request) → Encodable request → SendsWell turn
well_if true turn q request e well = well_as turn (Fails TooManyTurns) e tt
well_if false turn q request e well = well_as turn (Asks q request) e well

text_short : (ask : Ask) (ps : List Pair) (text : List ℕ) → IsText text ps → length text ≤ 65536 → length ask.text ≤ 2 ^ 18 → length (ask.text ++ text_of (refusals ps)) < 2 ^ 24
text_short ask ps text is few short =
    let more : length (text_of (refusals ps)) ≤ 16 * length (text_of ps) = refused_short ps in
    let same : length text ≡ length (text_of ps) = ap length is.whole in
    omega (arith, more, same, length-append ask.text (text_of (refusals ps)))

well_move : (c : LoginConfig) (p : Progress) (h : ResponseHeader) (ps : List Pair) (turn : Turn) (move : Option Ask) → IsSendable c → IsText p.text ps → length p.text ≤ 65536
    → Moves c p.stage h.transit ps move → turn ≡ asked c p h ps move → SendsWell turn
well_move c p h ps turn None sends is few moves e = well_fails turn Auth e
well_move c p h ps turn (Some ask) sends is few moves e =
    well_if (is_last_turn p) turn _ _ e
    (encodable_at c.isid ask.stage ask.transit (successor h.stat.0) (ask.text ++ text_of (refusals ps)) sends.isid (successor_small h.stat.0)
    (text_short ask ps p.text is few (move_short c p.stage h.transit ps ask sends moves)))

well_settled : (c : LoginConfig) (h : ResponseHeader) (ps : List Pair) (o : Option (List ℕ)) (turn : Turn) → turn ≡ settled_by c h ps o → SendsWell turn
well_settled c h ps (Some key) turn e = well_as turn (Fails (Key key)) e tt
well_settled c h ps None turn e = well_as turn (settled_by c h ps None) e tt

abbrev AsksNext : LoginConfig → Progress → ResponseHeader → List Pair → Turn → Type 0
AsksNext c p h ps turn = (move : Option Ask) × Moves c p.stage h.transit ps move × (turn ≡ asked c p h ps move)

well_next : (c : LoginConfig) (p : Progress) (h : ResponseHeader) (ps : List Pair) (turn : Turn) → IsSendable c → IsText p.text ps → length p.text ≤ 65536 → AsksNext c p h ps turn → SendsWell turn
well_next c p h ps turn sends is few (move, moves, e) = well_move c p h ps turn move sends is few moves e

well_read : (c : LoginConfig) (p : Progress) (h : ResponseHeader) (turn : Turn) (o : Option (List Pair)) → IsSendable c → length p.text ≤ 65536 → IsFound (IsText p.text) o
    → MatchOption o (turn ≡ Fails (Key [])) (λ ps. Hears c p h ps turn) → SendsWell turn
well_read c p h turn None sends few found e = well_fails turn (Key []) e
well_read c p h turn (Some ps) sends few found m =
    either (is_operational p.stage && h.transit) (turn ≡ settled c h (p.pairs ++ ps)) (AsksNext c p h ps turn) (SendsWell turn)
    (well_settled c h (p.pairs ++ ps) (refused_key (p.pairs ++ ps)) turn) (well_next c p h ps turn sends found few) m

well_text : (c : LoginConfig) (p : Progress) (h : ResponseHeader) (turn : Turn) → IsSendable c → length p.text ≤ 65536 → ReadsText c p h turn → SendsWell turn
well_text c p h turn sends few (o, found, m) = well_read c p h turn o sends few found m

well_more : (c : LoginConfig) (p : Progress) (h : ResponseHeader) (turn : Turn) → IsSendable c → turn ≡ asked_on c p h → SendsWell turn
well_more c p h turn sends e =
    well_if (is_last_turn p) turn _ _ e (encodable_at c.isid p.stage false (successor h.stat.0) [] sends.isid (successor_small h.stat.0) (lit< tt))

abbrev GoesFurther : LoginConfig → Progress → ResponseHeader → Turn → Type 0
GoesFurther c p h turn = MatchBool h.more (turn ≡ asked_on c p h) (ReadsText c p h turn)

not_long : (n : ℕ) → nat_lt 65536 n ≡ false → n ≤ 65536
not_long n e = grind (arith, nat_tests)

well_long : (c : LoginConfig) (p : Progress) (h : ResponseHeader) (turn : Turn) (b : Bool) → b ≡ is_long p.text → IsSendable c → MatchBool b (turn ≡ Fails TooManyTurns) (GoesFurther c p h turn)
    → SendsWell turn
well_long c p h turn true e sends m = well_fails turn TooManyTurns m
well_long c p h turn false e sends m =
    either h.more (turn ≡ asked_on c p h) (ReadsText c p h turn) (SendsWell turn) (well_more c p h turn sends) (well_text c p h turn sends (not_long (length p.text) (sym e))) m

well_success : (c : LoginConfig) (p : Progress) (h : ResponseHeader) (turn : Turn) → IsSendable c → Succeeds c p h turn → SendsWell turn
well_success c p h turn sends s =
    either (not (is_due p h)) (turn ≡ Fails WrongStage) (MatchBool (is_long p.text) (turn ≡ Fails TooManyTurns) (GoesFurther c p h turn)) (SendsWell turn)
    (well_fails turn WrongStage) (well_long c p h turn (is_long p.text) refl sends) s

well_failure : (P : LoginFault → Type 0) (turn : Turn) → FailsBy P turn → SendsWell turn
well_failure P (Fails f) fails = tt
well_failure P (Asks q request) fails = absurd fails
well_failure P (Reaches done) fails = absurd fails

well_by : (c : LoginConfig) (p : Progress) (h : Header) (turn : Turn) → IsSendable c → TurnsBy c p h turn → SendsWell turn
well_by c p (headers.LoginResponse h) turn sends t =
    either (h.class == 0) (Succeeds c p h turn) (FailsBy (Refuses p.text h) turn) (SendsWell turn) (well_success c p h turn sends) (well_failure (Refuses p.text h) turn) t
well_by c p h turn sends t = well_fails turn WrongStage t

pub sends_well : (c : LoginConfig) (p q : Progress) (r request : Pdu) → IsSendable c → Turns c p r (Asks q request) → Encodable request
sends_well c p q r request sends t = well_by c (heard p r.payload) r.head (Asks q request) sends t

pub first_well : (c : LoginConfig) → length c.isid ≡ 6 → HasNames c → Encodable (first_request c)
first_well c six names = encodable_at c.isid Opening (begins_transit c) 0 (text_of (first_keys c)) six (lit< tt) (first_short c names)
