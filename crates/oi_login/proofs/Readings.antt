-- A text is one list of pairs at most, a key has one binary value at most, its answer is the value of the first pair with it, and what follows where a thing is not found.
use Rattle.std.proofs.Common.{◌≡◌, ◌∙◌, ◌<◌, ◌==◌, ◌||◌, ◌↔◌, ◌⊎◌, inl, inr, ℕ, Bool, true, false, List, [], ◌∷◌, ◌++◌, Option, Some, None, option_map, Ok, length, cond, ap, sym, subst, refl, arith, MatchBool, IsTrue}
use Rattle.std.specs.Prelude.{codes, if◌then◌else◌}
use Rattle.std.specs.List.{find}
use Rattle.std.proofs.lemmas.Bool.{false≢true}
use Rattle.std.proofs.lemmas.List.{append-nil}
use Rattle.base64.proofs.EngineFacts.{decode_of-encode_of}
use Rattle.base64.specs.Engines.{standard}
use Rattle.base64.specs.GeneralPurpose.{encode_of, decode_of as base64_of}
use Rattle.hex.specs.Hex.{decode_of}
use Rattle.oi_base.specs.declared.login.Mutual.{Mutual}
use Rattle.oi_chap.specs.Chap.{response}
use Rattle.oi_names.proofs.Readings.{word}
use Rattle.oi_names.specs.Names.{IsFault as IsNameFault}
use Rattle.oi_names.specs.Portals.{IsPortal}
use Rattle.oi_names.specs.declared.fault.NameFault.{NameFault}
use Rattle.oi_names.specs.declared.fault.NameFault.TheVariants.{Bad}
use Rattle.oi_names.specs.declared.portal.Portal.{Portal}
use Rattle.oi_negotiate.specs.Keys.{is_text}
use Rattle.oi_negotiate.specs.Negotiated.{answer_to}
use Rattle.oi_text.specs.Binary.{IsHex, IsBase64, IsBinary}
use Rattle.oi_text.specs.declared.pairs.Pair.{Pair}
use Rattle.oi_text.specs.declared.pairs.TextFault.{TextFault}
use Rattle.oi_text.specs.declared.pairs.TextFault.TheVariants.{Malformed}
use Rattle.oi_text.specs.Pairs.{IsText, IsFault, text_of}
use Rattle.oi_text.proofs.Pieces.{same_lists, no_pair-none}
use Rattle.oi_login.specs.Answers.{IsFound, sole}
use Rattle.oi_login.specs.Chap.{HasBinary, HasChallenge, HasProof}
use Rattle.oi_login.specs.Turns.{NamesPortal}
use Rattle.oi_login.specs.declared.chap.Challenge.{Challenge}
use Rattle.oi_login.specs.declared.config.LoginAuth.{LoginAuth}

value_by : (b : Bool) (p : Pair) (rest : Option (List ℕ)) (found : Option Pair) → rest ≡ option_map (λ q. q.value) found
    → (if b then Some p.value else rest) ≡ option_map (λ q. q.value) (cond b (Some p) found)
value_by true p rest found e = refl
value_by false p rest found e = e

-- the answer to a key is the value of the first pair with it
pub first_value : (key : List ℕ) (ps : List Pair) → answer_to key ps ≡ option_map (λ p. p.value) (find (λ p. is_text p.key key) ps)
first_value key [] = refl
first_value key (p ∷ ps) = value_by (is_text p.key key) p (answer_to key ps) (find (λ q. is_text q.key key) ps) (first_value key ps)

pub one_text : (bytes : List ℕ) (ps qs : List Pair) → IsText bytes ps → IsText bytes qs → ps ≡ qs
one_text bytes ps qs a b =
    (same_lists ps qs [] [] a.pairs b.pairs no_pair-none no_pair-none (ap (λ (t : List ℕ). t ++ []) (sym a.whole ∙ b.whole))).0

malformed : (bytes : List ℕ) (place : ℕ) (ps : List Pair) → IsFault bytes (Malformed place) → IsText bytes ps → ⊥
malformed bytes place ps (at, told, m) a =
    let both = same_lists ps m.before [] m.rest a.pairs m.pairs no_pair-none m.none (append-nil (text_of ps) ∙ (sym a.whole ∙ m.whole)) in
    omega (arith, ap length both.1, m.some)

pub no_text : (bytes : List ℕ) (fault : TextFault) (place : ℕ) → fault ≡ Malformed place → IsFault bytes fault → (ps : List Pair) → IsText bytes ps → ⊥
no_text bytes fault place is said ps a = malformed bytes place ps (subst (λ (f : TextFault). IsFault bytes f) is said) a

-- what is found nowhere is not there
pub none_found : {A : Type 0} (P : A → Type 0) (o : Option A) → o ≡ None → IsFound P o → (a : A) → P a → ⊥
none_found {A} P o is found = subst (λ (r : Option A). IsFound P r) is found

-- the value that is found
pub some_found : {A : Type 0} (P : A → Type 0) (o : Option A) (a : A) → o ≡ Some a → IsFound P o → P a
some_found {A} P o a is found = subst (λ (r : Option A). IsFound P r) is found

one_body : (x y : Bool) (body bytes others : List ℕ) → MatchBool x (IsHex body bytes) (MatchBool y (IsBase64 body bytes) ⊥)
    → MatchBool x (IsHex body others) (MatchBool y (IsBase64 body others) ⊥) → bytes ≡ others
one_body true y body bytes others a b =
    let same : decode_of body ≡ Ok bytes = a in
    let again : decode_of body ≡ Ok others = b in
    cc
one_body false true body bytes others a b =
    let same = decode_of-encode_of standard bytes refl a.0 in
    let again = decode_of-encode_of standard others refl b.0 in
    let both : base64_of standard (encode_of standard bytes) ≡ base64_of standard (encode_of standard others) =
    ap (λ (t : List ℕ). base64_of standard t) (sym a.1 ∙ b.1) in
    cc (same, again, both)
one_body false false body bytes others a b = absurd a

one_value : (value bytes others : List ℕ) → IsBinary value bytes → IsBinary value others → bytes ≡ others
one_value [] bytes others a b = absurd a
one_value (first ∷ []) bytes others a b = absurd a
one_value (first ∷ letter ∷ body) bytes others a b = one_body (letter == 120 || letter == 88) (letter == 98 || letter == 66) body bytes others a.1 b.1

some_is : (v w : List ℕ) → Some v ≡ Some w → v ≡ w
some_is v w e = cc

-- a key has one binary value at most
pub one_binary : (key : List ℕ) (ps : List Pair) (bytes others : List ℕ) → HasBinary key ps bytes → HasBinary key ps others → bytes ≡ others
one_binary key ps bytes others (v, stands, is) (w, also, has) =
    one_value w bytes others (subst (λ (t : List ℕ). IsBinary t bytes) (some_is v w (sym stands ∙ also)) is) has

-- no challenge has as few or as many bytes
pub bad_challenge : (ps : List Pair) (bytes : List ℕ) → HasBinary (codes "CHAP_C") ps bytes → (length bytes < 1) ⊎ (1024 < length bytes)
    → (a : Challenge) → HasChallenge ps a → ⊥
bad_challenge ps bytes here (inl few) a has = let same = ap length (one_binary (codes "CHAP_C") ps bytes a.bytes here has.bytes) in omega (arith, same, has.some)
bad_challenge ps bytes here (inr many) a has = let same = ap length (one_binary (codes "CHAP_C") ps bytes a.bytes here has.bytes) in omega (arith, same, has.most)

-- the target's response is right or not
pub judged : (b : Bool) (auth : LoginAuth) (wanted : Mutual) (ps : List Pair) (name given : List ℕ) → sole (codes "CHAP_N") ps ≡ Some name → name ≡ wanted.user
    → HasBinary (codes "CHAP_R") ps given → IsTrue b ↔ (given ≡ response auth.id wanted.secret auth.challenge)
    → MatchBool b (HasProof auth wanted ps) (HasProof auth wanted ps → ⊥)
judged true auth wanted ps name given stands is has iff = record {
  name = stands ∙ ap (λ (t : List ℕ). Some t) is;
  response = subst (λ (t : List ℕ). HasBinary (codes "CHAP_R") ps t) (iff.0 refl) has;
}
judged false auth wanted ps name given stands is has iff =
    λ proof. absurd (false≢true (iff.1 (one_binary (codes "CHAP_R") ps given (response auth.id wanted.secret auth.challenge) has proof.response)))

-- a text without a TargetAddress names no portal
pub no_address : (text : List ℕ) (ps : List Pair) → IsText text ps → answer_to (codes "TargetAddress") ps ≡ None → (a : Portal) → NamesPortal text a → ⊥
no_address text ps is none a (qs, value, tag, also, first, portal) =
    let same = ap (λ (ts : List Pair). answer_to (codes "TargetAddress") ts) (one_text text ps qs is also) in
    let clash : Some value ≡ None = sym first ∙ (sym same ∙ none) in
    absurd cc

-- nor does one whose first TargetAddress is no portal
pub no_portal : (text : List ℕ) (ps : List Pair) (value : List ℕ) → IsText text ps → answer_to (codes "TargetAddress") ps ≡ Some value → (IsPortal value → ⊥)
    → (a : Portal) → NamesPortal text a → ⊥
no_portal text ps value is here bad a (qs, named, tag, also, first, portal) =
    let same = ap (λ (ts : List Pair). answer_to (codes "TargetAddress") ts) (one_text text ps qs is also) in
    let one = some_is value named (sym here ∙ (same ∙ first)) in
    bad (subst IsPortal (sym one) (word named a.address a.port tag portal))

pub bad_portal : (value : List ℕ) (fault : NameFault) (place : ℕ) → fault ≡ Bad place → IsNameFault IsPortal value fault → IsPortal value → ⊥
bad_portal value fault place is said = (subst (λ (f : NameFault). IsNameFault IsPortal value f) is said).0
