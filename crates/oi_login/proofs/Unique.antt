-- Settings and responses determine the exchange.
use Rattle.std.proofs.Common.{◌≡◌, ◌∙◌, ◌⊎◌, inl, inr, ℕ, Bool, true, false, ◌==◌, ◌&&◌, not, List, [], ◌∷◌, ◌++◌, Option, Some, None, ap, sym, subst, refl, MatchBool, MatchOption}
use Rattle.std.specs.Prelude.{codes}
use Rattle.oi_names.proofs.Readings.{once}
use Rattle.oi_names.specs.Portals.{IsPortalOf}
use Rattle.oi_names.specs.declared.portal.Portal.{Portal}
use Rattle.oi_negotiate.specs.Negotiated.{answer_to}
use Rattle.oi_pdu.specs.declared.codec.Pdu.{Pdu}
use Rattle.oi_pdu.specs.declared.header.Header.{Header}
use Rattle.oi_pdu.specs.declared.header.Header.TheVariants as headers
use Rattle.oi_pdu.specs.declared.header.LoginResponse.{LoginResponse as ResponseHeader}
use Rattle.oi_text.specs.Pairs.{IsText}
use Rattle.oi_text.specs.declared.pairs.Pair.{Pair}
use Rattle.oi_login.proofs.Readings.{one_binary, one_text}
use Rattle.oi_login.specs.Answers.{IsFound}
use Rattle.oi_login.specs.Chap.{HasChallenge}
use Rattle.oi_login.specs.Exchanges.{Continues, ExchangeFrom, LoginExchange, Outcome}
use Rattle.oi_login.specs.Keys.{response_keys}
use Rattle.oi_login.specs.Stages.{heard, is_due, is_long, is_operational}
use Rattle.oi_login.specs.States.{first_request, opening}
use Rattle.oi_login.specs.Turns.{FailsBy, Hears, Moves, NamesPortal, ReadsText, Redirects, Refuses, Succeeds, TakesChallenge, TakesProof, Turns, TurnsBy, after_security, asked, asked_on, asking, settled}
use Rattle.oi_login.specs.declared.chap.Challenge.{Challenge as TargetChallenge}
use Rattle.oi_login.specs.declared.config.LoginAuth.{LoginAuth}
use Rattle.oi_login.specs.declared.config.LoginConfig.{LoginConfig}
use Rattle.oi_login.specs.declared.fault.LoginFault.{LoginFault}
use Rattle.oi_login.specs.declared.fault.LoginFault.TheVariants.{Status, WrongStage, Key, Auth, Moved, TooManyTurns, Over, Memory}
use Rattle.oi_login.specs.declared.moves.Ask.{Ask}
use Rattle.oi_login.specs.declared.moves.Turn.{Turn}
use Rattle.oi_login.specs.declared.moves.Turn.TheVariants.{Asks, Reaches, Fails}
use Rattle.oi_login.specs.declared.progress.Progress.{Progress}
use Rattle.oi_login.specs.declared.progress.Stage.{Stage}
use Rattle.oi_login.specs.declared.progress.Stage.TheVariants.{Opening, Challenge, Proof, Security, Operational}

-- what holds on both sides of a test
sides : (b : Bool) (P Q S T R : Type 0) → (P → S → R) → (Q → T → R) → MatchBool b P Q → MatchBool b S T → R
sides true P Q S T R f g x y = f x y
sides false P Q S T R f g x y = g x y

one_found : {A : Type 0} (P : A → Type 0) → ((a b : A) → P a → P b → a ≡ b) → (o u : Option A) → IsFound P o → IsFound P u → o ≡ u
one_found {A} P one (Some a) (Some b) x y = ap (λ (z : A). Some z) (one a b x y)
one_found {A} P one (Some a) None x y = absurd (y a x)
one_found {A} P one None (Some b) x y = absurd (x b y)
one_found {A} P one None None x y = refl

portal_is : (a b : Portal) → a.address ≡ b.address → a.port ≡ b.port → a ≡ b
portal_is a b addresses ports =
    let made : List ℕ → ℕ → Portal = λ x y. record { address = x; port = y } in
    ap (λ (x : List ℕ). made x a.port) addresses ∙ ap (λ (y : ℕ). made b.address y) ports

some_text : (v w : List ℕ) → Some v ≡ Some w → v ≡ w
some_text v w e = cc

one_portal : (text : List ℕ) (a b : Portal) → NamesPortal text a → NamesPortal text b → a ≡ b
one_portal text a b (ps, v, t, is, first, reads) (qs, w, u, also, named, has) =
    let same = ap (λ (ts : List Pair). answer_to (codes "TargetAddress") ts) (one_text text ps qs is also) in
    let value = some_text v w (sym first ∙ (same ∙ named)) in
    let both = once w a.address b.address a.port b.port t u (subst (λ (x : List ℕ). IsPortalOf a.address a.port t x) value reads) has in
    portal_is a b both.0 both.1

challenge_is : (a b : TargetChallenge) → a.id ≡ b.id → a.bytes ≡ b.bytes → a ≡ b
challenge_is a b ids bytes =
    let made : ℕ → List ℕ → TargetChallenge = λ x y. record { id = x; bytes = y } in
    ap (λ (x : ℕ). made x a.bytes) ids ∙ ap (λ (y : List ℕ). made b.id y) bytes

some_number : (m n : ℕ) → Some m ≡ Some n → m ≡ n
some_number m n e = cc

one_challenge : (ps : List Pair) (a b : TargetChallenge) → HasChallenge ps a → HasChallenge ps b → a ≡ b
one_challenge ps a b x y =
    challenge_is a b (some_number a.id b.id (sym x.id ∙ y.id)) (one_binary (codes "CHAP_C") ps a.bytes b.bytes x.bytes y.bytes)

-- what is asked next

both_are : {A : Type 0} (m n k : A) → m ≡ k → n ≡ k → m ≡ n
both_are {A} m n k x y = x ∙ sym y

some_ask : (a b : Ask) → a ≡ b → Some a ≡ Some b
some_ask a b e = ap (λ (x : Ask). Some x) e

one_answer : (auth : Option LoginAuth) (ps : List Pair) (m n : Option Ask) → TakesChallenge auth ps m → TakesChallenge auth ps n → m ≡ n
one_answer None ps m n x y = both_are m n None x y
one_answer (Some auth) ps (Some a) (Some b) (k, has, is) (l, also, are) =
    some_ask a b (is ∙ (ap (λ (x : TargetChallenge). asking Proof true (response_keys auth x)) (one_challenge ps k l has also) ∙ sym are))
one_answer (Some auth) ps (Some a) None (k, has, is) none = absurd (none k has)
one_answer (Some auth) ps None (Some b) none (k, has, is) = absurd (none k has)
one_answer (Some auth) ps None None x y = refl

one_proof : (c : LoginConfig) (transit : Bool) (ps : List Pair) (m n : Option Ask) → TakesProof c transit ps m → TakesProof c transit ps n → m ≡ n
one_proof c transit ps (Some a) (Some b) (proved, is) (also, are) = some_ask a b (both_are a b (after_security c transit) is are)
one_proof c transit ps (Some a) None (proved, is) none = absurd (none proved)
one_proof c transit ps None (Some b) none (proved, is) = absurd (none proved)
one_proof c transit ps None None x y = refl

one_move : (c : LoginConfig) (stage : Stage) (transit : Bool) (ps : List Pair) (m n : Option Ask) → Moves c stage transit ps m → Moves c stage transit ps n → m ≡ n
one_move c Opening transit ps m n x y = both_are m n _ x y
one_move c Challenge transit ps m n x y = one_answer c.auth ps m n x y
one_move c Proof transit ps m n x y = one_proof c transit ps m n x y
one_move c Security transit ps m n x y = both_are m n _ x y
one_move c Operational transit ps m n x y = both_are m n _ x y

-- what one response leads to

abbrev AsksNext : LoginConfig → Progress → ResponseHeader → List Pair → Turn → Type 0
AsksNext c p h ps turn = (move : Option Ask) × Moves c p.stage h.transit ps move × (turn ≡ asked c p h ps move)

one_next : (c : LoginConfig) (p : Progress) (h : ResponseHeader) (ps : List Pair) (a b : Turn) → AsksNext c p h ps a → AsksNext c p h ps b → a ≡ b
one_next c p h ps a b (m, moves, is) (n, also, are) =
    is ∙ (ap (λ (x : Option Ask). asked c p h ps x) (one_move c p.stage h.transit ps m n moves also) ∙ sym are)

one_hearing : (c : LoginConfig) (p : Progress) (h : ResponseHeader) (ps : List Pair) (a b : Turn) → Hears c p h ps a → Hears c p h ps b → a ≡ b
one_hearing c p h ps a b x y =
    sides (is_operational p.stage && h.transit) (a ≡ settled c h (p.pairs ++ ps)) (AsksNext c p h ps a) (b ≡ settled c h (p.pairs ++ ps)) (AsksNext c p h ps b) (a ≡ b)
    (both_are a b (settled c h (p.pairs ++ ps))) (one_next c p h ps a b) x y

abbrev Read : LoginConfig → Progress → ResponseHeader → Turn → Option (List Pair) → Type 0
Read c p h turn reading = MatchOption reading (turn ≡ Fails (Key [])) (λ ps. Hears c p h ps turn)

one_read : (c : LoginConfig) (p : Progress) (h : ResponseHeader) (o : Option (List Pair)) (a b : Turn) → Read c p h a o → Read c p h b o → a ≡ b
one_read c p h None a b x y = both_are a b (Fails (Key [])) x y
one_read c p h (Some ps) a b x y = one_hearing c p h ps a b x y

one_reading : (c : LoginConfig) (p : Progress) (h : ResponseHeader) (a b : Turn) → ReadsText c p h a → ReadsText c p h b → a ≡ b
one_reading c p h a b (o, found, x) (u, also, y) =
    one_read c p h u a b (subst (λ (r : Option (List Pair)). Read c p h a r) (one_found (IsText p.text) (one_text p.text) o u found also) x) y

abbrev GoesFurther : LoginConfig → Progress → ResponseHeader → Turn → Type 0
GoesFurther c p h turn = MatchBool h.more (turn ≡ asked_on c p h) (ReadsText c p h turn)

abbrev HasLength : LoginConfig → Progress → ResponseHeader → Turn → Type 0
HasLength c p h turn = MatchBool (is_long p.text) (turn ≡ Fails TooManyTurns) (GoesFurther c p h turn)

one_success : (c : LoginConfig) (p : Progress) (h : ResponseHeader) (a b : Turn) → Succeeds c p h a → Succeeds c p h b → a ≡ b
one_success c p h a b x y =
    sides (not (is_due p h)) (a ≡ Fails WrongStage) (HasLength c p h a) (b ≡ Fails WrongStage) (HasLength c p h b) (a ≡ b) (both_are a b (Fails WrongStage))
    (sides (is_long p.text) (a ≡ Fails TooManyTurns) (GoesFurther c p h a) (b ≡ Fails TooManyTurns) (GoesFurther c p h b) (a ≡ b) (both_are a b (Fails TooManyTurns))
    (sides h.more (a ≡ asked_on c p h) (ReadsText c p h a) (b ≡ asked_on c p h) (ReadsText c p h b) (a ≡ b) (both_are a b (asked_on c p h)) (one_reading c p h a b))) x y

abbrev Redirected : List ℕ → ℕ → LoginFault → Type 0
Redirected text detail f = ((portal : Portal) × (f ≡ Moved portal) × NamesPortal text portal) ⊎ ((f ≡ Status 1 detail) × ((portal : Portal) → NamesPortal text portal → ⊥))

redirected : (text : List ℕ) (detail : ℕ) (f : LoginFault) → Redirects text detail f → Redirected text detail f
redirected text detail (Moved portal) names = inl (portal, refl, names)
redirected text detail (Status k d) none = inr none
redirected text detail WrongStage none = inr none
redirected text detail (Key key) none = inr none
redirected text detail Auth none = inr none
redirected text detail TooManyTurns none = inr none
redirected text detail Over none = inr none
redirected text detail Memory none = inr none

one_redirected : (text : List ℕ) (detail : ℕ) (f g : LoginFault) → Redirected text detail f → Redirected text detail g → f ≡ g
one_redirected text detail f g (inl (a, is, names)) (inl (b, are, also)) = is ∙ (ap (λ (x : Portal). Moved x) (one_portal text a b names also) ∙ sym are)
one_redirected text detail f g (inl (a, is, names)) (inr (are, none)) = absurd (none a names)
one_redirected text detail f g (inr (is, none)) (inl (b, are, names)) = absurd (none b names)
one_redirected text detail f g (inr (is, none)) (inr (are, also)) = both_are f g (Status 1 detail) is are

one_redirection : (text : List ℕ) (detail : ℕ) (f g : LoginFault) → Redirects text detail f → Redirects text detail g → f ≡ g
one_redirection text detail f g x y = one_redirected text detail f g (redirected text detail f x) (redirected text detail g y)

one_refusal : (text : List ℕ) (h : ResponseHeader) (f g : LoginFault) → Refuses text h f → Refuses text h g → f ≡ g
one_refusal text h f g x y =
    sides (h.class == 1) (Redirects text h.detail f) (f ≡ Status h.class h.detail) (Redirects text h.detail g) (g ≡ Status h.class h.detail) (f ≡ g)
    (one_redirection text h.detail f g) (both_are f g (Status h.class h.detail)) x y

one_failure : (text : List ℕ) (h : ResponseHeader) (a b : Turn) → FailsBy (Refuses text h) a → FailsBy (Refuses text h) b → a ≡ b
one_failure text h (Fails f) (Fails g) x y = ap (λ (e : LoginFault). Fails e) (one_refusal text h f g x y)
one_failure text h (Asks p request) b x y = absurd x
one_failure text h (Reaches done) b x y = absurd x
one_failure text h (Fails f) (Asks p request) x y = absurd y
one_failure text h (Fails f) (Reaches done) x y = absurd y

one_turn_by : (c : LoginConfig) (p : Progress) (h : Header) (a b : Turn) → TurnsBy c p h a → TurnsBy c p h b → a ≡ b
one_turn_by c p (headers.LoginResponse h) a b x y =
    sides (h.class == 0) (Succeeds c p h a) (FailsBy (Refuses p.text h) a) (Succeeds c p h b) (FailsBy (Refuses p.text h) b) (a ≡ b)
    (one_success c p h a b) (one_failure p.text h a b) x y
one_turn_by c p h a b x y = both_are a b (Fails WrongStage) x y

pub one_turn : (c : LoginConfig) (p : Progress) (r : Pdu) (a b : Turn) → Turns c p r a → Turns c p r b → a ≡ b
one_turn c p r a b x y = one_turn_by c (heard p r.payload) r.head a b x y

-- the exchange

abbrev Same : List Pdu → List Pdu → Outcome → Outcome → Type 0
Same qs us o u = (qs ≡ us) × (o ≡ u)

one_more : (turn : Turn) (more : Progress → List Pdu → Outcome → Type 0) (qs us : List Pdu) (o u : Outcome)
    → ((p : Progress) (vs ws : List Pdu) → more p vs o → more p ws u → Same vs ws o u) → Continues turn more qs o → Continues turn more us u → Same qs us o u
one_more (Asks p request) more qs us o u one (vs, e, x) (ws, f, y) =
    let both = one p vs ws x y in
    (e ∙ (ap (λ (t : List Pdu). request ∷ t) both.0 ∙ sym f), both.1)
one_more (Reaches done) more qs us o u one (e, x) (f, y) = (e ∙ sym f, x ∙ sym y)
one_more (Fails fault) more qs us o u one (e, x) (f, y) = (e ∙ sym f, x ∙ sym y)

one_from : (c : LoginConfig) (p : Progress) (rs qs us : List Pdu) (o u : Outcome) → ExchangeFrom c p rs qs o → ExchangeFrom c p rs us u → Same qs us o u
one_from c p [] qs us o u (e, x) (f, y) = (e ∙ sym f, x ∙ sym y)
one_from c p (r ∷ rs) qs us o u (s, turns, x) (t, also, y) =
    one_more t (λ q rest v. ExchangeFrom c q rs rest v) qs us o u (λ q vs ws. one_from c q rs vs ws o u)
    (subst (λ (z : Turn). Continues z (λ q rest v. ExchangeFrom c q rs rest v) qs o) (one_turn c p r s t turns also) x) y

pub one_exchange : (c : LoginConfig) (rs qs us : List Pdu) (o u : Outcome) → LoginExchange c rs qs o → LoginExchange c rs us u → Same qs us o u
one_exchange c rs qs us o u (vs, e, x) (ws, f, y) =
    let both = one_from c (opening c) rs vs ws o u x y in
    (e ∙ (ap (λ (t : List Pdu). first_request c ∷ t) both.0 ∙ sym f), both.1)
