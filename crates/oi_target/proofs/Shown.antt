-- A login at a target that asks for CHAP.
use Rattle.std.proofs.Common.{ℕ, Bool, true, false, not, ◌&&◌, ◌||◌, ◌≡◌, ◌∙◌, ◌==◌, Option, Some, None, is_some, List, [], ◌∷◌, ◌++◌, ◌⊎◌, inl, inr, refl, ap, sym, subst, if◌then◌else◌}
use Rattle.std.specs.Prelude.{codes}
use Rattle.oi_base.specs.declared.login.Params.{Params}
use Rattle.oi_chap.specs.Chap.{challenge_bytes, identifier}
use Rattle.oi_negotiate.specs.Negotiated.{answer_to as value_of, negotiated, refused_key}
use Rattle.oi_pdu.specs.declared.header.Header.{Header}
use Rattle.oi_pdu.specs.declared.header.Header.TheVariants as head
use Rattle.oi_pdu.specs.declared.header.LoginRequest.{LoginRequest}
use Rattle.oi_text.specs.Pairs.{text_of}
use Rattle.oi_text.specs.declared.pairs.Pair.{Pair}
use Rattle.oi_target.specs.Shown.{Heard, HasProved, OnlyLoggedInAreServed, OnlyProvedLogIn, answer_to, login_after}
use Rattle.oi_target.specs.Steps.{logged_in_by, with_words}
use Rattle.oi_target.specs.Targets.{session_of}
use Rattle.oi_target.specs.declared.link.Serving.{Serving}
use Rattle.oi_target.specs.declared.link.Standing.TheVariants as standing
use Rattle.oi_target_login.specs.Answers.{address_keys, group_keys, keyed, target_offer}
use Rattle.oi_target_login.specs.Chap.{by_algorithm, by_method, challenge_keys, challenged, has_md5, is_passed, is_proved, secured, shown, stands, unsecured}
use Rattle.oi_target_login.specs.Logins.{answered, answered_with, asked_on, authed, began, begun, call_of, ends_login, goes_on, heard, is_due, is_last, is_long, known_as, opened, refused, requested, response_text, sent_away, told, told_by, turned, turned_by, undrawn}
use Rattle.oi_target_login.specs.Names.{authentication_failure, initiator_error, is_sent_away, naming, out_of_resources, status}
use Rattle.oi_target_login.specs.Texts.{lists, text_pairs}
use Rattle.oi_target_login.specs.declared.answer.Answer.{Answer}
use Rattle.oi_target_login.specs.declared.answer.NewSession.{NewSession}
use Rattle.oi_target_login.specs.declared.answer.Verdict.{Verdict}
use Rattle.oi_target_login.specs.declared.answer.Verdict.TheVariants as verdict
use Rattle.oi_target_login.specs.declared.call.Call.{Call}
use Rattle.oi_target_login.specs.declared.chap.Step.{Step}
use Rattle.oi_target_login.specs.declared.chap.Step.TheVariants.{Stands, Fails}
use Rattle.oi_target_login.specs.declared.config.ChapConfig.{ChapConfig}
use Rattle.oi_target_login.specs.declared.config.LoginRules.{LoginRules}
use Rattle.oi_target_login.specs.declared.config.Moved.{Moved}
use Rattle.oi_target_login.specs.declared.names.Naming.{Naming}
use Rattle.oi_target_login.specs.declared.names.Naming.TheVariants.{Known, Unknown}
use Rattle.oi_target_login.specs.declared.progress.Auth.{Auth}
use Rattle.oi_target_login.specs.declared.progress.Auth.TheVariants.{Unasked, Chosen, Challenged, Passed}
use Rattle.oi_target_login.specs.declared.progress.Progress.{Progress}
use Rattle.oi_target_login.specs.declared.progress.Who.{Who}
use Rattle.oi_target_login.specs.declared.status.Status.{Status}
use Rattle.rand_chacha.specs.ChaCha.{ChaCha}

fails_not : {C : Type 0} (s : Status) (text : List ℕ) → Fails s ≡ Stands Passed text → C
fails_not s text e = absurd (let n : ⊥ = cc in n)

unasked_not : {C : Type 0} (keys text : List ℕ) → Stands Unasked keys ≡ Stands Passed text → C
unasked_not keys text e = absurd (let n : ⊥ = cc in n)

chosen_not : {C : Type 0} (keys text : List ℕ) → Stands Chosen keys ≡ Stands Passed text → C
chosen_not keys text e = absurd (let n : ⊥ = cc in n)

challenged_not : {C : Type 0} (id : ℕ) (challenge keys text : List ℕ) → Stands (Challenged id challenge) keys ≡ Stands Passed text → C
challenged_not id challenge keys text e = absurd (let n : ⊥ = cc in n)

unpassed : {C : Type 0} → Unasked ≡ Passed → C
unpassed e = absurd (let n : ⊥ = cc in n)

unchallenged : {C : Type 0} (id : ℕ) (challenge : List ℕ) → Unasked ≡ Challenged id challenge → C
unchallenged id challenge e = absurd (let n : ⊥ = cc in n)

-- the initiator was challenged, and gives the right answer
pub record Passes (chap : ChapConfig) (auth : Auth) (pairs : List Pair) : Type 0 where
  pub id : ℕ
  pub challenge : List ℕ
  pub asked : auth ≡ Challenged id challenge
  pub right : is_proved chap id challenge pairs ≡ true

method_not : {C : Type 0} (transit : Bool) (methods : Option (List ℕ)) (text : List ℕ) → by_method true transit methods ≡ Stands Passed text → C
method_not true None text e = fails_not authentication_failure text e
method_not false None text e = unasked_not (text_of []) text e
method_not {C = C} transit (Some methods) text e = go (lists (codes "CHAP") methods) e where
  go : (b : Bool) → (if b then stands Chosen (keyed (codes "AuthMethod") (codes "CHAP") ∷ []) else Fails authentication_failure) ≡ Stands Passed text → C
  go true e = chosen_not (text_of (keyed (codes "AuthMethod") (codes "CHAP") ∷ [])) text e
  go false e = fails_not authentication_failure text e

algorithm_not : {C : Type 0} (words : ChaCha) (algorithms : Option (List ℕ)) (text : List ℕ) → by_algorithm words algorithms ≡ Stands Passed text → C
algorithm_not words None text e = chosen_not (text_of []) text e
algorithm_not {C = C} words (Some algorithms) text e = go (has_md5 algorithms) e where
  go : (b : Bool) → (if b then stands (challenged words) (challenge_keys (identifier words) (challenge_bytes words)) else Fails authentication_failure) ≡ Stands Passed text → C
  go true e = challenged_not (identifier words) (challenge_bytes words) (text_of (challenge_keys (identifier words) (challenge_bytes words))) text e
  go false e = fails_not authentication_failure text e

secured_passes : (chap : ChapConfig) (auth : Auth) (transit : Bool) (words : ChaCha) (pairs : List Pair) (text : List ℕ)
    → secured (Some chap) auth transit words pairs ≡ Stands Passed text → (auth ≡ Passed) ⊎ Passes chap auth pairs
secured_passes chap Unasked transit words pairs text e = method_not transit (value_of (codes "AuthMethod") pairs) text e
secured_passes chap Chosen transit words pairs text e = algorithm_not words (value_of (codes "CHAP_A") pairs) text e
secured_passes chap (Challenged id challenge) transit words pairs text e = go (is_proved chap id challenge pairs) refl e where
  go : (b : Bool) → is_proved chap id challenge pairs ≡ b → (if b then stands Passed (shown chap.mutual pairs) else Fails authentication_failure) ≡ Stands Passed text
      → (Challenged id challenge ≡ Passed) ⊎ Passes chap (Challenged id challenge) pairs
  go true is e = inr (record { id = id; challenge = challenge; asked = refl; right = is })
  go false is e = fails_not authentication_failure text e
secured_passes chap Passed transit words pairs text e = inl refl

unsecured_passes : (auth : Auth) (text : List ℕ) → unsecured true auth ≡ Stands Passed text → auth ≡ Passed
unsecured_passes Unasked text e = fails_not authentication_failure text e
unsecured_passes Chosen text e = fails_not authentication_failure text e
unsecured_passes (Challenged id challenge) text e = fails_not authentication_failure text e
unsecured_passes Passed text e = refl

-- a request by which the initiator has passed, in a login to a normal session
authed_passes : (r : LoginRules) (chap : ChapConfig) (h : LoginRequest) (auth : Auth) (words : ChaCha) (pairs : List Pair) (text : List ℕ)
    → r.chap ≡ Some chap → authed r h auth false words pairs ≡ Stands Passed text → (auth ≡ Passed) ⊎ Passes chap auth pairs
authed_passes r chap h auth words pairs text is e =
    go (h.csg == 0) (subst (λ (o : Option ChapConfig). (if h.csg == 0 then secured o auth h.transit words pairs else unsecured (is_some o) auth) ≡ Stands Passed text) is e) where
      go : (b : Bool) → (if b then secured (Some chap) auth h.transit words pairs else unsecured true auth) ≡ Stands Passed text → (auth ≡ Passed) ⊎ Passes chap auth pairs
      go true e = secured_passes chap auth h.transit words pairs text e
      go false e = inl (unsecured_passes auth text e)

-- where a login stands, with what was proved in it
abbrev pub IsSound : (Who → Type 0) → Option Who → Auth → Type 0
IsSound P None auth = auth ≡ Unasked
IsSound P (Some who) auth = auth ≡ Passed → who.discovers ≡ false → P who

abbrev pub IsRight : (Who → Type 0) → Verdict → Type 0
IsRight P (verdict.Done s) = s.who.discovers ≡ false → P s.who
IsRight P verdict.Going = Unit {0}
IsRight P verdict.Closed = Unit {0}

abbrev pub AreSound : (Who → Type 0) → Answer → Type 0
AreSound P a = IsSound P a.progress.who a.progress.auth × IsRight P a.verdict

passed_of : (transit last : Bool) (auth : Auth) → (transit && is_passed auth && last) ≡ true → auth ≡ Passed
passed_of true last Passed e = refl
passed_of false last Passed e = refl
passed_of true last Unasked e = absurd (let n : ⊥ = cc in n)
passed_of false last Unasked e = absurd (let n : ⊥ = cc in n)
passed_of true last Chosen e = absurd (let n : ⊥ = cc in n)
passed_of false last Chosen e = absurd (let n : ⊥ = cc in n)
passed_of true last (Challenged id challenge) e = absurd (let n : ⊥ = cc in n)
passed_of false last (Challenged id challenge) e = absurd (let n : ⊥ = cc in n)

with_sound : (P : Who → Type 0) (c : Call) (who : Who) (params : Params) (all : List Pair) (auth : Auth) (text : List ℕ)
    → (auth ≡ Passed → who.discovers ≡ false → P who) → AreSound P (answered_with c who params all auth text)
with_sound P c who params all auth text give = go (is_long text) (ends_login c.head auth) (passed_of c.head.transit (c.head.nsg == 3) auth) where
  go : (b d : Bool) → (d ≡ true → auth ≡ Passed)
      → AreSound P (if b then refused c out_of_resources [] else (if d then opened c who params text else goes_on c who auth all text))
  go true d is = (refl, tt)
  go false true is = (refl, give (is refl))
  go false false is = (give, tt)

answered_sound : (P : Who → Type 0) (c : Call) (who : Who) (front : List ℕ) (pairs all : List Pair) (key : Option (List ℕ)) (s : Step)
    → ((text : List ℕ) → s ≡ Stands Passed text → who.discovers ≡ false → P who) → AreSound P (answered c who front pairs all key s)
answered_sound P c who front pairs all key (Fails s) give = (refl, tt)
answered_sound P c who front pairs all (Some key) (Stands auth text) give = (refl, tt)
answered_sound P c who front pairs all None (Stands auth text) give =
    with_sound P c who (negotiated target_offer all) all auth (response_text c.head (negotiated target_offer all) front auth text pairs)
    (λ is. give text (ap (λ (a : Auth). Stands a text) is))

-- of the initiator who logs in with these pairs
abbrev pub Gives : (Who → Type 0) → LoginRules → LoginRequest → Who → Auth → List Pair → Type 0
Gives P r h who auth pairs =
    (words : ChaCha) (text : List ℕ) → authed r h auth who.discovers words pairs ≡ Stands Passed text → who.discovers ≡ false → P who

known_sound : (P : Who → Type 0) (r : LoginRules) (c : Call) (who : Who) (auth : Auth) (words : ChaCha) (front : List ℕ) (earlier pairs : List Pair)
    → Gives P r c.head who auth pairs → AreSound P (known_as r c who auth words front earlier pairs).answer
known_sound P r c who auth words front earlier pairs give =
    answered_sound P c who front pairs (earlier ++ pairs) (refused_key (earlier ++ pairs)) (authed r c.head auth who.discovers words pairs) (give words)

away_sound : (P : Who → Type 0) (c : Call) (moved : Option Moved) → AreSound P (sent_away c moved)
away_sound P c None = (refl, tt)
away_sound P c (Some moved) = go (is_long (text_of (address_keys moved.portal))) where
  go : (b : Bool) → AreSound P (if b then refused c out_of_resources [] else refused c (status 1 moved.detail) (text_of (address_keys moved.portal)))
  go true = (refl, tt)
  go false = (refl, tt)

began_sound : (P : Who → Type 0) (r : LoginRules) (c : Call) (auth : Auth) (words : ChaCha) (earlier pairs : List Pair)
    → ((who : Who) → Gives P r c.head who auth pairs) → AreSound P (began r c auth words earlier pairs).answer
began_sound P r c auth words earlier pairs give = go (is_sent_away r pairs) (naming r c.head pairs) where
  named : (n : Naming) → AreSound P (begun r c auth words earlier pairs n).answer
  named (Unknown s) = (refl, tt)
  named (Known who) = known_sound P r c who auth words (text_of (group_keys r.tag who.discovers)) earlier pairs (give who)

  go : (b : Bool) (n : Naming) → AreSound P (if b then undrawn words (sent_away c r.moved) else begun r c auth words earlier pairs n).answer
  go true n = away_sound P c r.moved
  go false n = named n

told_sound : (P : Who → Type 0) (r : LoginRules) (c : Call) (auth : Auth) (words : ChaCha) (earlier pairs : List Pair) (o : Option Who)
    → (o ≡ None → (who : Who) → Gives P r c.head who auth pairs) → ((who : Who) → o ≡ Some who → Gives P r c.head who auth pairs)
    → AreSound P (told_by r c auth words earlier pairs o).answer
told_sound P r c auth words earlier pairs None first later = began_sound P r c auth words earlier pairs (first refl)
told_sound P r c auth words earlier pairs (Some who) first later = known_sound P r c who auth words [] earlier pairs (later who refl)

requested_sound : (P : Who → Type 0) (r : LoginRules) (c : Call) (p : Progress) (words : ChaCha) → IsSound P p.who p.auth
    → ((pairs : List Pair) → text_pairs p.text ≡ Some pairs → p.who ≡ None → (who : Who) → Gives P r c.head who p.auth pairs)
    → ((pairs : List Pair) → text_pairs p.text ≡ Some pairs → (who : Who) → p.who ≡ Some who → Gives P r c.head who p.auth pairs)
    → AreSound P (requested r c p words).answer
requested_sound P r c p words kept first later = go (not (is_due p c.head) || is_long p.text || is_last p) c.head.more where
  texts : (o : Option (List Pair)) → text_pairs p.text ≡ o → AreSound P (told r c p words o).answer
  texts None is = (refl, tt)
  texts (Some pairs) is = told_sound P r c p.auth words p.pairs pairs p.who (first pairs is) (later pairs is)

  go : (b m : Bool) → AreSound P (if b then undrawn words (refused c initiator_error []) else (if m then undrawn words (asked_on c p) else told r c p words (text_pairs p.text))).answer
  go true m = (refl, tt)
  go false true = (kept, tt)
  go false false = texts (text_pairs p.text) refl

turned_sound : (P : Who → Type 0) (r : LoginRules) (handle : ℕ) (p : Progress) (h : Header) (payload : List ℕ) (words : ChaCha) → IsSound P p.who p.auth
    → ((l : LoginRequest) (pairs : List Pair) → text_pairs (p.text ++ payload) ≡ Some pairs → p.who ≡ None → (who : Who) → Gives P r l who p.auth pairs)
    → ((l : LoginRequest) (pairs : List Pair) → text_pairs (p.text ++ payload) ≡ Some pairs → (who : Who) → p.who ≡ Some who → Gives P r l who p.auth pairs)
    → AreSound P (turned_by r handle p h payload words).answer
turned_sound P r handle p (head.LoginRequest l) payload words kept first later =
    requested_sound P r (call_of handle p l) (heard p payload) words kept (first l) (later l)
turned_sound P r handle p h payload words kept first later = (refl, tt)

-- the state of a login is sound after one PDU more
next_sound : (r : LoginRules) (chap : ChapConfig) (h : Heard) (hs : List Heard) → r.chap ≡ Some chap
    → IsSound (λ (w : Who). HasProved r chap w hs) (login_after r hs).who (login_after r hs).auth
    → AreSound (λ (w : Who). HasProved r chap w (h ∷ hs)) (answer_to r (login_after r hs) h)
next_sound r chap h hs is sound =
    turned_sound after r h.handle p h.pdu.head h.pdu.payload h.words (keeps p.who refl sound) first later where
      p : Progress
      p = login_after r hs

      before : Who → Type 0
      before w = HasProved r chap w hs

      after : Who → Type 0
      after w = HasProved r chap w (h ∷ hs)

      keeps : (o : Option Who) → p.who ≡ o → IsSound before o p.auth → IsSound after o p.auth
      keeps None known was = was
      keeps (Some who) known was = λ passed normal. inr (known, passed, was passed normal)

      passes : (l : LoginRequest) (who : Who) (words : ChaCha) (pairs : List Pair) (text : List ℕ)
          → authed r l p.auth who.discovers words pairs ≡ Stands Passed text → who.discovers ≡ false → (p.auth ≡ Passed) ⊎ Passes chap p.auth pairs
      passes l who words pairs text e normal =
          authed_passes r chap l p.auth words pairs text is (subst (λ (d : Bool). authed r l p.auth d words pairs ≡ Stands Passed text) normal e)

      first : (l : LoginRequest) (pairs : List Pair) → text_pairs (p.text ++ h.pdu.payload) ≡ Some pairs → p.who ≡ None → (who : Who) → Gives after r l who p.auth pairs
      first l pairs told none who words text e normal = go (passes l who words pairs text e normal) (subst (λ (o : Option Who). IsSound before o p.auth) none sound) where
        go : (p.auth ≡ Passed) ⊎ Passes chap p.auth pairs → p.auth ≡ Unasked → after who
        go (inl passed) unasked = unpassed (sym unasked ∙ passed)
        go (inr proves) unasked = unchallenged proves.id proves.challenge (sym unasked ∙ proves.asked)

      later : (l : LoginRequest) (pairs : List Pair) → text_pairs (p.text ++ h.pdu.payload) ≡ Some pairs → (who : Who) → p.who ≡ Some who → Gives after r l who p.auth pairs
      later l pairs told who known words text e normal = go (passes l who words pairs text e normal) (subst (λ (o : Option Who). IsSound before o p.auth) known sound) where
        go : (p.auth ≡ Passed) ⊎ Passes chap p.auth pairs → (p.auth ≡ Passed → who.discovers ≡ false → before who) → after who
        go (inl passed) was = inr (known, passed, was passed normal)
        go (inr proves) was =
            inl (record { id = proves.id; challenge = proves.challenge; pairs = pairs; known = known; asked = proves.asked; told = told; right = proves.right })

sound_after : (r : LoginRules) (chap : ChapConfig) (hs : List Heard) → r.chap ≡ Some chap
    → IsSound (λ (w : Who). HasProved r chap w hs) (login_after r hs).who (login_after r hs).auth
sound_after r chap [] is = refl
sound_after r chap (h ∷ hs) is = (next_sound r chap h hs is (sound_after r chap hs is)).0

pub only_proved_log_in : OnlyProvedLogIn
only_proved_log_in r chap h hs s is done normal =
    subst (λ (v : Verdict). IsRight (λ (w : Who). HasProved r chap w (h ∷ hs)) v) done (next_sound r chap h hs is (sound_after r chap hs is)).1 normal

one_serving : (a b : Serving) → standing.Serving a ≡ standing.Serving b → a ≡ b
one_serving a b e = cc

pub only_logged_in_are_served : OnlyLoggedInAreServed
only_logged_in_are_served t p pdu v e = go a.verdict refl e where
  a : Answer
  a = (turned t.rules t.handle p pdu t.words).answer

  go : (w : Verdict) → a.verdict ≡ w → (logged_in_by (with_words t (turned t.rules t.handle p pdu t.words).words) a w).standing ≡ standing.Serving v
      → (s : NewSession) × (a.verdict ≡ verdict.Done s) × (v.session ≡ session_of s)
  go verdict.Going is e = absurd (let n : ⊥ = cc in n)
  go verdict.Closed is e = absurd (let n : ⊥ = cc in n)
  go (verdict.Done s) is e = (s, is, sym (ap (λ (z : Serving). z.session) (one_serving (record { session = session_of s; held = []; owed = [] }) v e)))
