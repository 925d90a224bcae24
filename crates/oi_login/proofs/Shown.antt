-- With mutual CHAP no login is done before the target has shown who it is.
use Rattle.std.proofs.Common.{◌≡◌, ◌∙◌, ◌⊎◌, inl, inr, ℕ, ◌+◌, Bool, true, false, ◌==◌, ◌&&◌, not, List, [], ◌∷◌, ◌++◌, Option, Some, None, length, ap, sym, subst, refl, append_assoc, MatchBool, MatchOption}
use Rattle.std.specs.Prelude.{if◌then◌else◌, slice_get}
use Rattle.std.proofs.lemmas.List.{append-nil}
use Rattle.oi_base.specs.declared.login.LoginDone.{LoginDone}
use Rattle.oi_base.specs.declared.login.Mutual.{Mutual}
use Rattle.oi_pdu.specs.declared.codec.Pdu.{Pdu}
use Rattle.oi_pdu.specs.declared.header.Header.{Header}
use Rattle.oi_pdu.specs.declared.header.Header.TheVariants as headers
use Rattle.oi_pdu.specs.declared.header.LoginResponse.{LoginResponse as ResponseHeader}
use Rattle.oi_text.specs.Pairs.{IsText, text_of}
use Rattle.oi_text.specs.declared.pairs.Pair.{Pair}
use Rattle.oi_login.proofs.Steps.{either}
use Rattle.oi_login.specs.Answers.{IsFound, refusals}
use Rattle.oi_login.specs.Chap.{HasChallenge, HasProof, IsProved, IsProvedTo}
use Rattle.oi_login.specs.Exchanges.{Continues, ExchangeFrom, LoginExchange, Done, Failed}
use Rattle.oi_login.specs.Keys.{algorithm_keys, response_keys}
use Rattle.oi_login.specs.Mutual.{ShowsItself, joined_text}
use Rattle.oi_login.specs.Stages.{heard, is_due, is_last_turn, is_long, is_operational}
use Rattle.oi_login.specs.States.{first_request, opening}
use Rattle.oi_login.specs.Turns.{FailsBy, Hears, Moves, ReadsText, Refuses, Succeeds, TakesChallenge, Turns, TurnsBy, after_opening, asked, asked_on, asking, opened_with, settled, takes_method}
use Rattle.oi_login.specs.declared.chap.Challenge.{Challenge as TargetChallenge}
use Rattle.oi_login.specs.declared.config.LoginAuth.{LoginAuth}
use Rattle.oi_login.specs.declared.config.LoginConfig.{LoginConfig}
use Rattle.oi_login.specs.declared.fault.LoginFault.{LoginFault}
use Rattle.oi_login.specs.declared.fault.LoginFault.TheVariants.{WrongStage, Key, Auth, TooManyTurns}
use Rattle.oi_login.specs.declared.moves.Ask.{Ask}
use Rattle.oi_login.specs.declared.moves.Turn.{Turn}
use Rattle.oi_login.specs.declared.moves.Turn.TheVariants.{Asks, Reaches, Fails}
use Rattle.oi_login.specs.declared.progress.Progress.{Progress}
use Rattle.oi_login.specs.declared.progress.Stage.{Stage}
use Rattle.oi_login.specs.declared.progress.Stage.TheVariants.{Opening, Challenge, Proof}

-- what a response leads to outside the operational stage: a fault, a request for the rest of a text, or what is asked next

abbrev waiting_on : Progress → Progress
waiting_on p = record { stage = p.stage; transit = false; text = p.text; pairs = p.pairs; turns = p.turns + 1 }

abbrev asking_next : Progress → List Pair → Ask → Progress
asking_next p ps ask = record { stage = ask.stage; transit = ask.transit; text = []; pairs = p.pairs ++ ps; turns = p.turns + 1 }

pub record MovesOn (c : LoginConfig) (p : Progress) (turn : Turn) : Type 0 where
  pub pairs : List Pair
  pub transit : Bool
  pub ask : Ask
  pub request : Pdu
  pub text : IsText p.text pairs
  pub moves : Moves c p.stage transit pairs (Some ask)
  pub turns : turn ≡ Asks (asking_next p pairs ask) request
  pub payload : request.payload ≡ ask.text ++ text_of (refusals pairs)

abbrev Step : LoginConfig → Progress → Turn → Type 0
Step c p turn = ((f : LoginFault) × (turn ≡ Fails f)) ⊎ (((request : Pdu) × (turn ≡ Asks (waiting_on p) request)) ⊎ MovesOn c p turn)

failing : (c : LoginConfig) (p : Progress) (turn : Turn) (f : LoginFault) → turn ≡ Fails f → Step c p turn
failing c p turn f e = inl (f, e)

step_asked : (c : LoginConfig) (p : Progress) (turn : Turn) (ps : List Pair) (transit : Bool) (ask : Ask) (request : Pdu) (b : Bool) → IsText p.text ps → Moves c p.stage transit ps (Some ask)
    → request.payload ≡ ask.text ++ text_of (refusals ps) → turn ≡ (if b then Fails TooManyTurns else Asks (asking_next p ps ask) request) → Step c p turn
step_asked c p turn ps transit ask request true is moves payload e = inl (TooManyTurns, e)
step_asked c p turn ps transit ask request false is moves payload e =
    inr (inr (record { pairs = ps; transit = transit; ask = ask; request = request; text = is; moves = moves; turns = e; payload = payload }))

step_move : (c : LoginConfig) (p : Progress) (h : ResponseHeader) (ps : List Pair) (turn : Turn) (move : Option Ask) → IsText p.text ps → Moves c p.stage h.transit ps move
    → turn ≡ asked c p h ps move → Step c p turn
step_move c p h ps turn None is moves e = inl (Auth, e)
step_move c p h ps turn (Some ask) is moves e = step_asked c p turn ps h.transit ask _ (is_last_turn p) is moves refl e

step_next : (c : LoginConfig) (p : Progress) (h : ResponseHeader) (ps : List Pair) (turn : Turn) → IsText p.text ps
    → ((move : Option Ask) × Moves c p.stage h.transit ps move × (turn ≡ asked c p h ps move)) → Step c p turn
step_next c p h ps turn is (move, moves, e) = step_move c p h ps turn move is moves e

step_heard : (c : LoginConfig) (p : Progress) (h : ResponseHeader) (ps : List Pair) (turn : Turn) (b : Bool) → b ≡ false → IsText p.text ps
    → MatchBool (b && h.transit) (turn ≡ settled c h (p.pairs ++ ps)) ((move : Option Ask) × Moves c p.stage h.transit ps move × (turn ≡ asked c p h ps move)) → Step c p turn
step_heard c p h ps turn true e is m = absurd cc
step_heard c p h ps turn false e is m = step_next c p h ps turn is m

step_read : (c : LoginConfig) (p : Progress) (h : ResponseHeader) (turn : Turn) (o : Option (List Pair)) → is_operational p.stage ≡ false → IsFound (IsText p.text) o
    → MatchOption o (turn ≡ Fails (Key [])) (λ ps. Hears c p h ps turn) → Step c p turn
step_read c p h turn None outside found e = inl (Key [], e)
step_read c p h turn (Some ps) outside found m = step_heard c p h ps turn (is_operational p.stage) outside found m

step_text : (c : LoginConfig) (p : Progress) (h : ResponseHeader) (turn : Turn) → is_operational p.stage ≡ false → ReadsText c p h turn → Step c p turn
step_text c p h turn outside (o, found, m) = step_read c p h turn o outside found m

step_more : (c : LoginConfig) (p : Progress) (turn : Turn) (request : Pdu) (b : Bool) → turn ≡ (if b then Fails TooManyTurns else Asks (waiting_on p) request) → Step c p turn
step_more c p turn request true e = inl (TooManyTurns, e)
step_more c p turn request false e = inr (inl (request, e))

abbrev GoesFurther : LoginConfig → Progress → ResponseHeader → Turn → Type 0
GoesFurther c p h turn = MatchBool h.more (turn ≡ asked_on c p h) (ReadsText c p h turn)

abbrev HasLength : LoginConfig → Progress → ResponseHeader → Turn → Type 0
HasLength c p h turn = MatchBool (is_long p.text) (turn ≡ Fails TooManyTurns) (GoesFurther c p h turn)

step_success : (c : LoginConfig) (p : Progress) (h : ResponseHeader) (turn : Turn) → is_operational p.stage ≡ false → Succeeds c p h turn → Step c p turn
step_success c p h turn outside s =
    either (not (is_due p h)) (turn ≡ Fails WrongStage) (HasLength c p h turn) (Step c p turn) (failing c p turn WrongStage)
    (either (is_long p.text) (turn ≡ Fails TooManyTurns) (GoesFurther c p h turn) (Step c p turn) (failing c p turn TooManyTurns)
    (either h.more (turn ≡ asked_on c p h) (ReadsText c p h turn) (Step c p turn) (step_more c p turn _ (is_last_turn p)) (step_text c p h turn outside))) s

step_failure : (c : LoginConfig) (p : Progress) (P : LoginFault → Type 0) (turn : Turn) → FailsBy P turn → Step c p turn
step_failure c p P (Fails f) fails = inl (f, refl)
step_failure c p P (Asks q request) fails = absurd fails
step_failure c p P (Reaches done) fails = absurd fails

step_by : (c : LoginConfig) (p : Progress) (h : Header) (turn : Turn) → is_operational p.stage ≡ false → TurnsBy c p h turn → Step c p turn
step_by c p (headers.LoginResponse h) turn outside t =
    either (h.class == 0) (Succeeds c p h turn) (FailsBy (Refuses p.text h) turn) (Step c p turn) (step_success c p h turn outside) (step_failure c p (Refuses p.text h) turn) t
step_by c p h turn outside t = inl (WrongStage, t)

step : (c : LoginConfig) (p : Progress) (r : Pdu) (turn : Turn) → is_operational p.stage ≡ false → Turns c p r turn → Step c (heard p r.payload) turn
step c p r turn outside t = step_by c (heard p r.payload) r.head turn outside t

-- an exchange that is done has gone on behind each response before its end

abbrev On : LoginConfig → Progress → Pdu → List Pdu → List Pdu → LoginDone → Type 0
On c q request rs qs done = (rest : List Pdu) × (qs ≡ request ∷ rest) × ExchangeFrom c q rs rest (Done done)

abbrev After : LoginConfig → List Pdu → List Pdu → LoginDone → Turn → Type 0
After c rs qs done turn = Continues turn (λ q rest o. ExchangeFrom c q rs rest o) qs (Done done)

done_fails : (c : LoginConfig) (rs qs : List Pdu) (done : LoginDone) (turn : Turn) (f : LoginFault) → turn ≡ Fails f → After c rs qs done turn → ⊥
done_fails c rs qs done turn f e a =
    let both : (qs ≡ []) × (Done done ≡ Failed f) = subst (After c rs qs done) e a in
    let clash = both.1 in
    absurd cc

done_asks : (c : LoginConfig) (rs qs : List Pdu) (done : LoginDone) (turn : Turn) (q : Progress) (request : Pdu) → turn ≡ Asks q request → After c rs qs done turn → On c q request rs qs done
done_asks c rs qs done turn q request e a = subst (After c rs qs done) e a

-- the proof stage

pub record Proves (auth : LoginAuth) (wanted : Mutual) (text : List ℕ) (responses : List Pdu) : Type 0 where
  pub answer : List Pdu
  pub after : List Pdu
  pub pairs : List Pair
  pub parts : responses ≡ answer ++ after
  pub is_text : IsText (text ++ joined_text answer) pairs
  pub proof : HasProof auth wanted pairs

proved : (c : LoginConfig) (auth : LoginAuth) (wanted : Mutual) (ps : List Pair) → c.auth ≡ Some auth → auth.mutual ≡ Some wanted → IsProved c.auth ps → HasProof auth wanted ps
proved c auth wanted ps with_chap with_mutual is =
    let one = subst (λ (o : Option LoginAuth). IsProved o ps) with_chap is in
    subst (λ (o : Option Mutual). IsProvedTo auth o ps) with_mutual one

stage_moves : (c : LoginConfig) (s k : Stage) (transit : Bool) (ps : List Pair) (move : Option Ask) → s ≡ k → Moves c s transit ps move → Moves c k transit ps move
stage_moves c s k transit ps move e moves = subst (λ (x : Stage). Moves c x transit ps move) e moves

proof_here : (c : LoginConfig) (auth : LoginAuth) (wanted : Mutual) (p : Progress) (r : Pdu) (rs : List Pdu) (ps : List Pair) (transit : Bool) (ask : Ask) → c.auth ≡ Some auth
    → auth.mutual ≡ Some wanted → IsText (p.text ++ r.payload) ps → Moves c Proof transit ps (Some ask) → Proves auth wanted p.text (r ∷ rs)
proof_here c auth wanted p r rs ps transit ask with_chap with_mutual is (proof, asks) = record {
  answer = r ∷ [];
  after = rs;
  pairs = ps;
  parts = refl;
  is_text = subst (λ (t : List ℕ). IsText (p.text ++ t) ps) (sym (append-nil r.payload)) is;
  proof = proved c auth wanted ps with_chap with_mutual proof;
}

proof_later : (auth : LoginAuth) (wanted : Mutual) (text : List ℕ) (r : Pdu) (rs : List Pdu) → Proves auth wanted (text ++ r.payload) rs → Proves auth wanted text (r ∷ rs)
proof_later auth wanted text r rs proves = record {
  answer = r ∷ proves.answer;
  after = proves.after;
  pairs = proves.pairs;
  parts = ap (λ (t : List Pdu). r ∷ t) proves.parts;
  is_text = subst (λ (t : List ℕ). IsText t proves.pairs) (append_assoc text r.payload (joined_text proves.answer)) proves.is_text;
  proof = proves.proof;
}

outside_proof : (s : Stage) → s ≡ Proof → is_operational s ≡ false
outside_proof s e = ap is_operational e

proof_turn : (c : LoginConfig) (auth : LoginAuth) (wanted : Mutual) (done : LoginDone) (p : Progress) (r : Pdu) (rs qs : List Pdu) (turn : Turn) → c.auth ≡ Some auth → auth.mutual ≡ Some wanted
    → p.stage ≡ Proof → ((q : Progress) (us : List Pdu) → q.stage ≡ Proof → ExchangeFrom c q rs us (Done done) → Proves auth wanted q.text rs) → After c rs qs done turn
    → Step c (heard p r.payload) turn → Proves auth wanted p.text (r ∷ rs)
proof_turn c auth wanted done p r rs qs turn with_chap with_mutual at goes a (inl (f, e)) = absurd (done_fails c rs qs done turn f e a)
proof_turn c auth wanted done p r rs qs turn with_chap with_mutual at goes a (inr (inl (request, e))) =
    let q = waiting_on (heard p r.payload) in
    let on = done_asks c rs qs done turn q request e a in
    proof_later auth wanted p.text r rs (goes q on.0 at on.2)
proof_turn c auth wanted done p r rs qs turn with_chap with_mutual at goes a (inr (inr m)) =
    proof_here c auth wanted p r rs m.pairs m.transit m.ask with_chap with_mutual m.text (stage_moves c p.stage Proof m.transit m.pairs (Some m.ask) at m.moves)

proof_stage : (c : LoginConfig) (auth : LoginAuth) (wanted : Mutual) (done : LoginDone) (p : Progress) (rs qs : List Pdu) → c.auth ≡ Some auth → auth.mutual ≡ Some wanted → p.stage ≡ Proof
    → ExchangeFrom c p rs qs (Done done) → Proves auth wanted p.text rs
proof_stage c auth wanted done p [] qs with_chap with_mutual at (none, clash) = absurd cc
proof_stage c auth wanted done p (r ∷ rs) qs with_chap with_mutual at (turn, turns, a) =
    proof_turn c auth wanted done p r rs qs turn with_chap with_mutual at (λ q us here from. proof_stage c auth wanted done q rs us with_chap with_mutual here from) a
    (step c p r turn (outside_proof p.stage at) turns)

-- the stages before it

later : (auth : LoginAuth) (wanted : Mutual) (first request : Pdu) (rest qs rs : List Pdu) (r : Pdu) → qs ≡ request ∷ rest → ShowsItself auth wanted (request ∷ rest) rs
    → ShowsItself auth wanted (first ∷ qs) (r ∷ rs)
later auth wanted first request rest qs rs r e s = record {
  before = r ∷ s.before;
  answer = s.answer;
  after = s.after;
  request = s.request;
  pairs = s.pairs;
  parts = ap (λ (t : List Pdu). r ∷ t) s.parts;
  asked = subst (λ (t : List Pdu). slice_get t (length s.before) ≡ Some s.request) (sym e) s.asked;
  challenged = s.challenged;
  text = s.text;
  proof = s.proof;
}

taken : (c : LoginConfig) (auth : LoginAuth) (ps : List Pair) (ask : Ask) → c.auth ≡ Some auth → TakesChallenge c.auth ps (Some ask)
    → (challenge : TargetChallenge) × HasChallenge ps challenge × (ask ≡ asking Proof true (response_keys auth challenge))
taken c auth ps ask with_chap takes = subst (λ (o : Option LoginAuth). TakesChallenge o ps (Some ask)) with_chap takes

shown_here : (auth : LoginAuth) (wanted : Mutual) (first request : Pdu) (rest qs rs : List Pdu) (r : Pdu) (ps : List Pair) (ask : Ask) (challenge : TargetChallenge) → qs ≡ request ∷ rest
    → request.payload ≡ ask.text ++ text_of (refusals ps) → ask ≡ asking Proof true (response_keys auth challenge) → Proves auth wanted [] rs → ShowsItself auth wanted (first ∷ qs) (r ∷ rs)
shown_here auth wanted first request rest qs rs r ps ask challenge e payload is proves = record {
  before = r ∷ [];
  answer = proves.answer;
  after = proves.after;
  request = request;
  pairs = proves.pairs;
  parts = ap (λ (t : List Pdu). r ∷ t) proves.parts;
  asked = subst (λ (t : List Pdu). slice_get t 0 ≡ Some request) (sym e) refl;
  challenged = (challenge, text_of (refusals ps), payload ∙ ap (λ (a : Ask). a.text ++ text_of (refusals ps)) is);
  text = proves.is_text;
  proof = proves.proof;
}

challenge_moves : (c : LoginConfig) (auth : LoginAuth) (wanted : Mutual) (done : LoginDone) (first request : Pdu) (rest qs rs : List Pdu) (p : Progress) (r : Pdu) (ps : List Pair) (ask : Ask)
    → c.auth ≡ Some auth → auth.mutual ≡ Some wanted → qs ≡ request ∷ rest → request.payload ≡ ask.text ++ text_of (refusals ps)
    → ((challenge : TargetChallenge) × HasChallenge ps challenge × (ask ≡ asking Proof true (response_keys auth challenge)))
    → ExchangeFrom c (asking_next p ps ask) rs rest (Done done) → ShowsItself auth wanted (first ∷ qs) (r ∷ rs)
challenge_moves c auth wanted done first request rest qs rs p r ps ask with_chap with_mutual e payload (challenge, has, is) from =
    shown_here auth wanted first request rest qs rs r ps ask challenge e payload is
    (proof_stage c auth wanted done (asking_next p ps ask) rs rest with_chap with_mutual (ap (λ (a : Ask). a.stage) is) from)

abbrev Shows : LoginConfig → LoginAuth → Mutual → LoginDone → Stage → List Pdu → Type 0
Shows c auth wanted done stage rs =
    (q : Progress) (first : Pdu) (us : List Pdu) → q.stage ≡ stage → ExchangeFrom c q rs us (Done done) → ShowsItself auth wanted (first ∷ us) rs

challenge_turn : (c : LoginConfig) (auth : LoginAuth) (wanted : Mutual) (done : LoginDone) (p : Progress) (first r : Pdu) (rs qs : List Pdu) (turn : Turn) → c.auth ≡ Some auth
    → auth.mutual ≡ Some wanted → p.stage ≡ Challenge → Shows c auth wanted done Challenge rs → After c rs qs done turn → Step c (heard p r.payload) turn
    → ShowsItself auth wanted (first ∷ qs) (r ∷ rs)
challenge_turn c auth wanted done p first r rs qs turn with_chap with_mutual at goes a (inl (f, e)) = absurd (done_fails c rs qs done turn f e a)
challenge_turn c auth wanted done p first r rs qs turn with_chap with_mutual at goes a (inr (inl (request, e))) =
    let q = waiting_on (heard p r.payload) in
    let on = done_asks c rs qs done turn q request e a in
    later auth wanted first request on.0 qs rs r on.1 (goes q request on.0 at on.2)
challenge_turn c auth wanted done p first r rs qs turn with_chap with_mutual at goes a (inr (inr m)) =
    let q = asking_next (heard p r.payload) m.pairs m.ask in
    let on = done_asks c rs qs done turn q m.request m.turns a in
    challenge_moves c auth wanted done first m.request on.0 qs rs (heard p r.payload) r m.pairs m.ask with_chap with_mutual on.1 m.payload
    (taken c auth m.pairs m.ask with_chap (stage_moves c p.stage Challenge m.transit m.pairs (Some m.ask) at m.moves)) on.2

challenge_stage : (c : LoginConfig) (auth : LoginAuth) (wanted : Mutual) (done : LoginDone) (p : Progress) (first : Pdu) (rs qs : List Pdu) → c.auth ≡ Some auth → auth.mutual ≡ Some wanted
    → p.stage ≡ Challenge → ExchangeFrom c p rs qs (Done done) → ShowsItself auth wanted (first ∷ qs) rs
challenge_stage c auth wanted done p first [] qs with_chap with_mutual at (none, clash) = absurd cc
challenge_stage c auth wanted done p first (r ∷ rs) qs with_chap with_mutual at (turn, turns, a) =
    challenge_turn c auth wanted done p first r rs qs turn with_chap with_mutual at
    (λ q request us here from. challenge_stage c auth wanted done q request rs us with_chap with_mutual here from) a
    (step c p r turn (ap is_operational at) turns)

some_of : (b : Bool) (ask x : Ask) → Some ask ≡ (if b then Some x else None) → ask ≡ x
some_of true ask x e = cc
some_of false ask x e = absurd cc

opened : (c : LoginConfig) (auth : LoginAuth) (transit : Bool) (ps : List Pair) (ask : Ask) → c.auth ≡ Some auth → Some ask ≡ after_opening c transit ps → ask ≡ asking Challenge false algorithm_keys
opened c auth transit ps ask with_chap e =
    some_of (takes_method c.auth ps) ask (opened_with c.auth c transit) e ∙ ap (λ (o : Option LoginAuth). opened_with o c transit) with_chap

opening_turn : (c : LoginConfig) (auth : LoginAuth) (wanted : Mutual) (done : LoginDone) (p : Progress) (first r : Pdu) (rs qs : List Pdu) (turn : Turn) → c.auth ≡ Some auth
    → auth.mutual ≡ Some wanted → p.stage ≡ Opening → Shows c auth wanted done Opening rs → After c rs qs done turn → Step c (heard p r.payload) turn
    → ShowsItself auth wanted (first ∷ qs) (r ∷ rs)
opening_turn c auth wanted done p first r rs qs turn with_chap with_mutual at goes a (inl (f, e)) = absurd (done_fails c rs qs done turn f e a)
opening_turn c auth wanted done p first r rs qs turn with_chap with_mutual at goes a (inr (inl (request, e))) =
    let q = waiting_on (heard p r.payload) in
    let on = done_asks c rs qs done turn q request e a in
    later auth wanted first request on.0 qs rs r on.1 (goes q request on.0 at on.2)
opening_turn c auth wanted done p first r rs qs turn with_chap with_mutual at goes a (inr (inr m)) =
    let q = asking_next (heard p r.payload) m.pairs m.ask in
    let on = done_asks c rs qs done turn q m.request m.turns a in
    let is = opened c auth m.transit m.pairs m.ask with_chap (stage_moves c p.stage Opening m.transit m.pairs (Some m.ask) at m.moves) in
    later auth wanted first m.request on.0 qs rs r on.1 (challenge_stage c auth wanted done q m.request rs on.0 with_chap with_mutual (ap (λ (k : Ask). k.stage) is) on.2)

opening_stage : (c : LoginConfig) (auth : LoginAuth) (wanted : Mutual) (done : LoginDone) (p : Progress) (first : Pdu) (rs qs : List Pdu) → c.auth ≡ Some auth → auth.mutual ≡ Some wanted
    → p.stage ≡ Opening → ExchangeFrom c p rs qs (Done done) → ShowsItself auth wanted (first ∷ qs) rs
opening_stage c auth wanted done p first [] qs with_chap with_mutual at (none, clash) = absurd cc
opening_stage c auth wanted done p first (r ∷ rs) qs with_chap with_mutual at (turn, turns, a) =
    opening_turn c auth wanted done p first r rs qs turn with_chap with_mutual at
    (λ q request us here from. opening_stage c auth wanted done q request rs us with_chap with_mutual here from) a
    (step c p r turn (ap is_operational at) turns)

pub shown : (c : LoginConfig) (auth : LoginAuth) (wanted : Mutual) (rs qs : List Pdu) (done : LoginDone) → c.auth ≡ Some auth → auth.mutual ≡ Some wanted → LoginExchange c rs qs (Done done)
    → ShowsItself auth wanted qs rs
shown c auth wanted rs qs done with_chap with_mutual (rest, e, from) =
    subst (λ (t : List Pdu). ShowsItself auth wanted t rs) (sym e) (opening_stage c auth wanted done (opening c) (first_request c) rs rest with_chap with_mutual refl from)
