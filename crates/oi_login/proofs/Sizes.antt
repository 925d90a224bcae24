-- Every request can be encoded: its text is short.
use Rattle.std.proofs.Common.{◌≡◌, ◌∙◌, inl, inr, ◌<◌, ◌≤◌, ◌+◌, ◌*◌, ◌^◌, ℕ, Bool, true, false, List, [], ◌∷◌, ◌++◌, Option, Some, None, length, ap, arith, length-append, lit≤}
use Rattle.std.specs.Prelude.{codes, if◌then◌else◌}
use Rattle.std.specs.Fmt.{decimal}
use Rattle.std.proofs.lemmas.Fmt.{length-decimal-le}
use Rattle.hex.specs.Hex.{lower_digits}
use Rattle.hex.proofs.HexLemmas.{length-encode_with}
use Rattle.md5.proofs.StandardFacts.{length-md5}
use Rattle.oi_base.specs.declared.login.Mutual.{Mutual}
use Rattle.oi_chap.specs.Chap.{response}
use Rattle.oi_names.specs.Names.{IsName, eui, iqn, naa}
use Rattle.oi_negotiate.specs.declared.offer.Offer.{Offer}
use Rattle.oi_text.specs.Pairs.{pair_text, text_of}
use Rattle.oi_text.specs.declared.pairs.Pair.{Pair}
use Rattle.oi_login.proofs.Texts.{text_of-append}
use Rattle.oi_login.specs.Answers.{is_known, refusals, refusals_to}
use Rattle.oi_login.specs.Configs.{HasNames, IsTargetName, IsUser, OfferFits}
use Rattle.oi_login.specs.Keys.{algorithm_keys, binary_text, challenge_keys, common_keys, first_keys, fixed_keys, flow_keys, keyed, method_of, offer_keys, response_keys, session_keys, session_type, target_keys, time_keys, word_text}
use Rattle.oi_login.specs.declared.chap.Challenge.{Challenge as TargetChallenge}
use Rattle.oi_login.specs.declared.config.LoginAuth.{LoginAuth}
use Rattle.oi_login.specs.declared.config.LoginConfig.{LoginConfig}

-- keys and values that are as short as those of a pair have to be
abbrev pub AreShort : List Pair → Type 0
AreShort [] = Unit {0}
AreShort (p ∷ ps) = (length p.key ≤ 63) × ((length p.value ≤ 8192) × AreShort ps)

pair_length : (p : Pair) → length (pair_text p) ≡ length p.key + length p.value + 2
pair_length p = omega (arith, length-append p.key (61 ∷ (p.value ++ 0 ∷ [])), length-append p.value (0 ∷ []))

pub text_length : (ps : List Pair) → AreShort ps → length (text_of ps) ≤ 8257 * length ps
text_length [] s = omega arith
text_length (p ∷ ps) s =
    let more = text_length ps s.1.1 in
    let front : length p.key ≤ 63 = s.0 in
    let value : length p.value ≤ 8192 = s.1.0 in
    omega (arith, more, front, value, pair_length p, length-append (pair_text p) (text_of ps))

pub short-append : (ps qs : List Pair) → AreShort ps → AreShort qs → AreShort (ps ++ qs)
short-append [] qs s t = t
short-append (p ∷ ps) qs s t = (s.0, (s.1.0, short-append ps qs s.1.1 t))

short_number : (n : ℕ) → n < 2 ^ 32 → length (decimal n) ≤ 8192
short_number n small =
    let most : length (decimal n) ≤ 10 = length-decimal-le 10 n (lit≤ tt) (omega arith) (omega arith) in
    omega arith

short_word : (b : Bool) → length (word_text b) ≤ 8192
short_word true = lit≤ tt
short_word false = lit≤ tt

short_bytes : (bytes : List ℕ) → length bytes ≡ 16 → length (binary_text bytes) ≤ 8192
short_bytes bytes long = omega (arith, length-encode_with lower_digits bytes)

pub flow_short : (o : Offer) → OfferFits o → AreShort (flow_keys o)
flow_short o f =
    (lit≤ tt, (short_word o.initial_r2t, (lit≤ tt, (short_word o.immediate, (lit≤ tt, (short_number o.max_burst f.0, (lit≤ tt, (short_number o.first_burst f.1.0, tt))))))))

time_short : (o : Offer) → OfferFits o → AreShort (time_keys o)
time_short o f =
    (lit≤ tt, (short_number o.time2wait f.1.1.0, (lit≤ tt, (short_number o.time2retain f.1.1.1.0, (lit≤ tt, (short_number o.outstanding f.1.1.1.1.0, tt))))))

fixed_short : AreShort fixed_keys
fixed_short = (lit≤ tt, (lit≤ tt, (lit≤ tt, (lit≤ tt, (lit≤ tt, (lit≤ tt, (lit≤ tt, (lit≤ tt, tt))))))))

common_short : (o : Offer) → OfferFits o → AreShort (common_keys o)
common_short o f = (lit≤ tt, (lit≤ tt, (lit≤ tt, (lit≤ tt, (lit≤ tt, (short_number o.max_recv f.1.1.1.1.1.0, tt))))))

session_short : (target : Option (List ℕ)) (o : Offer) → OfferFits o → AreShort (session_keys target o)
session_short None o f = tt
session_short (Some target) o f =
    short-append (flow_keys o) (time_keys o ++ fixed_keys) (flow_short o f) (short-append (time_keys o) fixed_keys (time_short o f) fixed_short)

session_few : (target : Option (List ℕ)) (o : Offer) → length (session_keys target o ++ common_keys o) ≤ 14
session_few None o = lit≤ tt
session_few (Some target) o = lit≤ tt

-- a text of at most fourteen such pairs
few_short : (ps : List Pair) → AreShort ps → length ps ≤ 14 → length (text_of ps) ≤ 2 ^ 18
few_short ps s few = omega (arith, text_length ps s)

pub offer_short : (c : LoginConfig) → OfferFits c.offer → length (text_of (offer_keys c)) ≤ 2 ^ 18
offer_short c f =
    few_short (offer_keys c) (short-append (session_keys c.target c.offer) (common_keys c.offer) (session_short c.target c.offer f) (common_short c.offer f)) (session_few c.target c.offer)

challenge_short : (auth : LoginAuth) (wanted : Option Mutual) → auth.id < 2 ^ 8 → length auth.challenge ≡ 16 → AreShort (challenge_keys auth wanted)
challenge_short auth None small long = tt
challenge_short auth (Some wanted) small long = (lit≤ tt, (short_number auth.id (omega arith), (lit≤ tt, (short_bytes auth.challenge long, tt))))

challenge_few : (auth : LoginAuth) (wanted : Option Mutual) → length (challenge_keys auth wanted) ≤ 2
challenge_few auth None = lit≤ tt
challenge_few auth (Some wanted) = lit≤ tt

pub response_short : (auth : LoginAuth) (k : TargetChallenge) → IsUser auth.user → auth.id < 2 ^ 8 → length auth.challenge ≡ 16 → length (text_of (response_keys auth k)) ≤ 2 ^ 18
response_short auth k user small long =
    let few = challenge_few auth auth.mutual in
    let right : length (response k.id auth.secret k.bytes) ≡ 16 = length-md5 (k.id ∷ auth.secret ++ k.bytes) in
    few_short (response_keys auth k) (lit≤ tt, (user.0, (lit≤ tt, (short_bytes (response k.id auth.secret k.bytes) right, challenge_short auth auth.mutual small long)))) (omega (arith, few))

pub algorithm_short : length (text_of algorithm_keys) ≤ 2 ^ 18
algorithm_short = lit≤ tt

refused_one : (b : Bool) (p : Pair) → length (text_of (if b then [] else record { key = p.key; value = codes "NotUnderstood" } ∷ [])) ≤ 16 * length (pair_text p)
refused_one true p = omega arith
refused_one false p =
    let answer : Pair = record { key = p.key; value = codes "NotUnderstood" } in
    let long : length (text_of (answer ∷ [])) ≡ length p.key + 15 =
    length-append (pair_text answer) [] ∙ omega (arith, pair_length answer) in
    omega (arith, long, pair_length p)

-- the answers to keys that are not known are at most sixteen times as long as what they answer
pub refused_short : (ps : List Pair) → length (text_of (refusals ps)) ≤ 16 * length (text_of ps)
refused_short [] = omega arith
refused_short (p ∷ ps) =
    let here = refused_one (is_known p.key) p in
    let more = refused_short ps in
    let parts = ap length (text_of-append (refusals_to p.key) (refusals ps)) in
    omega (arith, here, more, parts, length-append (text_of (refusals_to p.key)) (text_of (refusals ps)), length-append (pair_text p) (text_of ps))

led_short : (head rest name : List ℕ) → length head ≤ 4 → length rest ≤ 219 → name ≡ head ++ rest → length name ≤ 8192
led_short head rest name front back e = omega (arith, ap length e, length-append head rest)

name_short : (name : List ℕ) → IsName name → length name ≤ 8192
name_short name (inl (rest, e, run)) = led_short iqn rest name (lit≤ tt) run.1 e
name_short name (inr (inl (rest, e, run))) = led_short eui rest name (lit≤ tt) run.1 e
name_short name (inr (inr (rest, e, run))) = led_short naa rest name (lit≤ tt) run.1 e

target_short : (target : Option (List ℕ)) → IsTargetName target → AreShort (target_keys target)
target_short None name = tt
target_short (Some target) name = (lit≤ tt, (name_short target name, tt))

type_short : (target : Option (List ℕ)) → length (session_type target) ≤ 8192
type_short None = lit≤ tt
type_short (Some target) = lit≤ tt

method_short : (auth : Option LoginAuth) → length (method_of auth) ≤ 8192
method_short None = lit≤ tt
method_short (Some auth) = lit≤ tt

first_few : (c : LoginConfig) (target : Option (List ℕ)) → length (target_keys target) ≤ 1
first_few c None = lit≤ tt
first_few c (Some target) = lit≤ tt

pub first_short : (c : LoginConfig) → HasNames c → length (text_of (first_keys c)) < 2 ^ 24
first_short c names =
    let front : List Pair = keyed (codes "InitiatorName") c.initiator ∷ keyed (codes "SessionType") (session_type c.target) ∷ target_keys c.target in
    let back : List Pair = keyed (codes "AuthMethod") (method_of c.auth) ∷ [] in
    let fronts : AreShort front =
    (lit≤ tt, (name_short c.initiator names.initiator, (lit≤ tt, (type_short c.target, target_short c.target names.target)))) in
    let short = short-append front back fronts (lit≤ tt, (method_short c.auth, tt)) in
    let few : length (front ++ back) ≤ 14 = omega (arith, length-append front back, first_few c c.target) in
    let most = few_short (front ++ back) short few in
    omega (arith, most)
