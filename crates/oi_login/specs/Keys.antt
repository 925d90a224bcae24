-- Keys that the initiator sends, in their order (RFC 7143, sections 12 and 13).
use Rattle.std.specs.Prelude.{ℕ, Bool, true, false, List, [], ◌∷◌, ◌++◌, Option, Some, None, codes}
use Rattle.std.specs.Fmt.{decimal}
use Rattle.hex.specs.Hex.{encode_lower}
use Rattle.oi_base.specs.declared.login.Mutual.{Mutual}
use Rattle.oi_chap.specs.Chap.{response}
use Rattle.oi_negotiate.specs.declared.offer.Offer.{Offer}
use Rattle.oi_text.specs.declared.pairs.Pair.{Pair}
use Rattle.oi_login.specs.declared.chap.Challenge.{Challenge}
use Rattle.oi_login.specs.declared.config.LoginAuth.{LoginAuth}
use Rattle.oi_login.specs.declared.config.LoginConfig.{LoginConfig}

abbrev pub keyed : List ℕ → List ℕ → Pair
keyed key value = record { key = key; value = value }

abbrev pub word_text : Bool → List ℕ
word_text true = codes "Yes"
word_text false = codes "No"

-- `0x` and lower-case digits
abbrev pub binary_text : List ℕ → List ℕ
binary_text bytes = 48 ∷ 120 ∷ encode_lower bytes

-- without a target the session is a discovery
abbrev pub session_type : Option (List ℕ) → List ℕ
session_type None = codes "Discovery"
session_type (Some target) = codes "Normal"

abbrev pub target_keys : Option (List ℕ) → List Pair
target_keys None = []
target_keys (Some target) = keyed (codes "TargetName") target ∷ []

abbrev pub method_of : Option LoginAuth → List ℕ
method_of None = codes "None"
method_of (Some auth) = codes "CHAP"

-- the first request
abbrev pub first_keys : LoginConfig → List Pair
first_keys c =
    keyed (codes "InitiatorName") c.initiator ∷ keyed (codes "SessionType") (session_type c.target) ∷ target_keys c.target
    ++ keyed (codes "AuthMethod") (method_of c.auth) ∷ []

-- CHAP with MD5 is the one algorithm that is offered
abbrev pub algorithm_keys : List Pair
algorithm_keys = keyed (codes "CHAP_A") (codes "5") ∷ []

-- for mutual CHAP the target is challenged in turn
abbrev pub challenge_keys : LoginAuth → Option Mutual → List Pair
challenge_keys auth None = []
challenge_keys auth (Some wanted) =
    keyed (codes "CHAP_I") (decimal auth.id) ∷ keyed (codes "CHAP_C") (binary_text auth.challenge) ∷ []

-- the response to the target's challenge
abbrev pub response_keys : LoginAuth → Challenge → List Pair
response_keys auth challenge =
    keyed (codes "CHAP_N") auth.user ∷ keyed (codes "CHAP_R") (binary_text (response challenge.id auth.secret challenge.bytes))
    ∷ challenge_keys auth auth.mutual

abbrev pub flow_keys : Offer → List Pair
flow_keys o =
    keyed (codes "InitialR2T") (word_text o.initial_r2t) ∷ keyed (codes "ImmediateData") (word_text o.immediate)
    ∷ keyed (codes "MaxBurstLength") (decimal o.max_burst) ∷ keyed (codes "FirstBurstLength") (decimal o.first_burst) ∷ []

abbrev pub time_keys : Offer → List Pair
time_keys o =
    keyed (codes "DefaultTime2Wait") (decimal o.time2wait) ∷ keyed (codes "DefaultTime2Retain") (decimal o.time2retain)
    ∷ keyed (codes "MaxOutstandingR2T") (decimal o.outstanding) ∷ []

-- one connection, error recovery level 0, everything in order
abbrev pub fixed_keys : List Pair
fixed_keys =
    keyed (codes "MaxConnections") (codes "1") ∷ keyed (codes "ErrorRecoveryLevel") (codes "0")
    ∷ keyed (codes "DataPDUInOrder") (codes "Yes") ∷ keyed (codes "DataSequenceInOrder") (codes "Yes") ∷ []

-- keys that a discovery has too: no digests, and the length that this side takes
abbrev pub common_keys : Offer → List Pair
common_keys o =
    keyed (codes "HeaderDigest") (codes "None") ∷ keyed (codes "DataDigest") (codes "None")
    ∷ keyed (codes "MaxRecvDataSegmentLength") (decimal o.max_recv) ∷ []

-- keys that a session with a target has besides
abbrev pub session_keys : Option (List ℕ) → Offer → List Pair
session_keys None o = []
session_keys (Some target) o = flow_keys o ++ (time_keys o ++ fixed_keys)

-- the offer, with which the operational stage begins
abbrev pub offer_keys : LoginConfig → List Pair
offer_keys c = session_keys c.target c.offer ++ common_keys c.offer
