-- What the machine answers, from what a response leads to.
use Rattle.std.proofs.Common.{◌≡◌, ℕ, Bool, true, false, List, [], Option, Some, None, Err, sym, subst, MatchBool, MatchOption, ◌++◌, ◌==◌, ◌&&◌, not}
use Rattle.std.specs.Prelude.{if◌then◌else◌}
use Rattle.oi_negotiate.specs.Negotiated.{refused_key}
use Rattle.oi_pdu.specs.declared.codec.Pdu.{Pdu}
use Rattle.oi_pdu.specs.declared.header.Header.{Header}
use Rattle.oi_pdu.specs.declared.header.Header.TheVariants as headers
use Rattle.oi_pdu.specs.declared.header.LoginResponse.{LoginResponse as ResponseHeader}
use Rattle.oi_text.specs.declared.pairs.Pair.{Pair}
use Rattle.oi_login.specs.Stages.{heard, is_due, is_last_turn, is_long, is_operational}
use Rattle.oi_login.specs.States.{Answers, LoginState, state_at}
use Rattle.oi_login.specs.Turns.{Hears, Moves, ReadsText, Redirects, Refuses, Succeeds, Turns, TurnsBy, asked, asked_on, settled, settled_by}
use Rattle.oi_login.specs.declared.config.LoginConfig.{LoginConfig}
use Rattle.oi_login.specs.declared.fault.LoginFault.{LoginFault}
use Rattle.oi_login.specs.declared.fault.LoginFault.TheVariants.{Status, WrongStage, Key, Auth, Moved, TooManyTurns, Over, Memory}
use Rattle.oi_login.specs.declared.moves.Ask.{Ask}
use Rattle.oi_login.specs.declared.moves.Turn.TheVariants.{Asks, Fails}
use Rattle.oi_login.specs.declared.progress.Progress.{Progress}

-- a fault that a response has; the login's own end and want of memory are none
abbrev pub IsOwn : LoginFault → Type 0
IsOwn Over = ⊥
IsOwn Memory = ⊥
IsOwn fault = Unit {0}

pub either : (b : Bool) (P Q R : Type 0) → (P → R) → (Q → R) → MatchBool b P Q → R
either true P Q R f g h = f h
either false P Q R f g h = g h

same_fault : (f g : LoginFault) → Fails f ≡ Fails g → g ≡ f
same_fault f g e = cc

own_by : (f g : LoginFault) → Fails f ≡ Fails g → IsOwn g → IsOwn f
own_by f g e own = subst IsOwn (same_fault f g e) own

own_asking : (b : Bool) (q : Progress) (request : Pdu) (f : LoginFault) → Fails f ≡ (if b then Fails TooManyTurns else Asks q request) → IsOwn f
own_asking true q request f e = own_by f TooManyTurns e tt
own_asking false q request f e = absurd cc

own_asked : (c : LoginConfig) (p : Progress) (h : ResponseHeader) (ps : List Pair) (move : Option Ask) (f : LoginFault) → Fails f ≡ asked c p h ps move → IsOwn f
own_asked c p h ps None f e = own_by f Auth e tt
own_asked c p h ps (Some ask) f e = own_asking (is_last_turn p) _ _ f e

own_settled : (c : LoginConfig) (h : ResponseHeader) (ps : List Pair) (o : Option (List ℕ)) (f : LoginFault) → Fails f ≡ settled_by c h ps o → IsOwn f
own_settled c h ps (Some key) f e = own_by f (Key key) e tt
own_settled c h ps None f e = absurd cc

own_move : (c : LoginConfig) (p : Progress) (h : ResponseHeader) (ps : List Pair) (f : LoginFault)
    → ((move : Option Ask) × Moves c p.stage h.transit ps move × (Fails f ≡ asked c p h ps move)) → IsOwn f
own_move c p h ps f (move, moves, e) = own_asked c p h ps move f e

own_heard : (c : LoginConfig) (p : Progress) (h : ResponseHeader) (ps : List Pair) (f : LoginFault) → Hears c p h ps (Fails f) → IsOwn f
own_heard c p h ps f heard =
    either (is_operational p.stage && h.transit) (Fails f ≡ settled c h (p.pairs ++ ps)) ((move : Option Ask) × Moves c p.stage h.transit ps move × (Fails f ≡ asked c p h ps move)) (IsOwn f)
    (own_settled c h (p.pairs ++ ps) (refused_key (p.pairs ++ ps)) f) (own_move c p h ps f) heard

own_reading : (c : LoginConfig) (p : Progress) (h : ResponseHeader) (o : Option (List Pair)) (f : LoginFault)
    → MatchOption o (Fails f ≡ Fails (Key [])) (λ ps. Hears c p h ps (Fails f)) → IsOwn f
own_reading c p h None f e = own_by f (Key []) e tt
own_reading c p h (Some ps) f heard = own_heard c p h ps f heard

own_text : (c : LoginConfig) (p : Progress) (h : ResponseHeader) (f : LoginFault) → ReadsText c p h (Fails f) → IsOwn f
own_text c p h f (reading, found, r) = own_reading c p h reading f r

own_more : (c : LoginConfig) (p : Progress) (h : ResponseHeader) (f : LoginFault) → MatchBool h.more (Fails f ≡ asked_on c p h) (ReadsText c p h (Fails f)) → IsOwn f
own_more c p h f m = either h.more (Fails f ≡ asked_on c p h) (ReadsText c p h (Fails f)) (IsOwn f) (own_asking (is_last_turn p) _ _ f) (own_text c p h f) m

own_long : (c : LoginConfig) (p : Progress) (h : ResponseHeader) (f : LoginFault)
    → MatchBool (is_long p.text) (Fails f ≡ Fails TooManyTurns) (MatchBool h.more (Fails f ≡ asked_on c p h) (ReadsText c p h (Fails f))) → IsOwn f
own_long c p h f l =
    either (is_long p.text) (Fails f ≡ Fails TooManyTurns) (MatchBool h.more (Fails f ≡ asked_on c p h) (ReadsText c p h (Fails f))) (IsOwn f)
    (λ e. own_by f TooManyTurns e tt) (own_more c p h f) l

own_success : (c : LoginConfig) (p : Progress) (h : ResponseHeader) (f : LoginFault) → Succeeds c p h (Fails f) → IsOwn f
own_success c p h f s =
    either (not (is_due p h)) (Fails f ≡ Fails WrongStage)
    (MatchBool (is_long p.text) (Fails f ≡ Fails TooManyTurns) (MatchBool h.more (Fails f ≡ asked_on c p h) (ReadsText c p h (Fails f)))) (IsOwn f)
    (λ e. own_by f WrongStage e tt) (own_long c p h f) s

own_redirection : (text : List ℕ) (detail : ℕ) (f : LoginFault) → Redirects text detail f → IsOwn f
own_redirection text detail (Moved portal) names = tt
own_redirection text detail Over (e, none) = absurd cc
own_redirection text detail Memory (e, none) = absurd cc
own_redirection text detail (Status k d) names = tt
own_redirection text detail WrongStage names = tt
own_redirection text detail (Key key) names = tt
own_redirection text detail Auth names = tt
own_redirection text detail TooManyTurns names = tt

own_status : (f : LoginFault) (k d : ℕ) → f ≡ Status k d → IsOwn f
own_status f k d e = subst IsOwn (sym e) tt

own_refusal : (text : List ℕ) (h : ResponseHeader) (f : LoginFault) → Refuses text h f → IsOwn f
own_refusal text h f r =
    either (h.class == 1) (Redirects text h.detail f) (f ≡ Status h.class h.detail) (IsOwn f) (own_redirection text h.detail f) (own_status f h.class h.detail) r

own_header : (c : LoginConfig) (p : Progress) (h : Header) (f : LoginFault) → TurnsBy c p h (Fails f) → IsOwn f
own_header c p (headers.LoginResponse h) f t =
    either (h.class == 0) (Succeeds c p h (Fails f)) (Refuses p.text h f) (IsOwn f) (own_success c p h f) (own_refusal p.text h f) t
own_header c p h f t = own_by f WrongStage t tt

pub own : (c : LoginConfig) (p : Progress) (r : Pdu) (f : LoginFault) → Turns c p r (Fails f) → IsOwn f
own c p r f t = own_header c (heard p r.payload) r.head f t

failing_at : (c : LoginConfig) (o : Option Progress) (new : LoginState) (p : Progress) (r : Pdu) (f : LoginFault) → o ≡ Some p → Turns c p r (Fails f) → new ≡ state_at c None
    → Answers (state_at c o) r (Err f) new
failing_at c o new p r Over at t is = absurd (own c p r Over t)
failing_at c o new p r Memory at t is = absurd (own c p r Memory t)
failing_at c o new p r (Status k d) at t is = (p, at, t, is)
failing_at c o new p r WrongStage at t is = (p, at, t, is)
failing_at c o new p r (Key key) at t is = (p, at, t, is)
failing_at c o new p r Auth at t is = (p, at, t, is)
failing_at c o new p r (Moved portal) at t is = (p, at, t, is)
failing_at c o new p r TooManyTurns at t is = (p, at, t, is)

-- the machine answers the fault that a response has
pub failing : (old new : LoginState) (c : LoginConfig) (o : Option Progress) (p : Progress) (r : Pdu) (f : LoginFault) → state_at c o ≡ old → o ≡ Some p → Turns c p r (Fails f)
    → new ≡ state_at c None → Answers old r (Err f) new
failing old new c o p r f view at t is = subst (λ (s : LoginState). Answers s r (Err f) new) view (failing_at c o new p r f at t is)
