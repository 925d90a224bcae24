-- The keys with which a target answers a login (RFC 7143, sections 6.2, 12 and 13).
use Rattle.std.specs.Prelude.{ℕ, Bool, true, false, ◌||◌, Option, Some, None, List, [], ◌∷◌, ◌++◌, codes, if◌then◌else◌}
use Rattle.std.specs.Fmt.{decimal}
use Rattle.hex.specs.Hex.{encode_lower}
use Rattle.oi_base.specs.declared.login.Params.{Params}
use Rattle.oi_names.specs.Portals.{portal_text}
use Rattle.oi_names.specs.declared.portal.Portal.{Portal}
use Rattle.oi_negotiate.specs.Keys.{is_text, key_of}
use Rattle.oi_negotiate.specs.Values.{is_silent}
use Rattle.oi_negotiate.specs.declared.keys.Key.{Key}
use Rattle.oi_negotiate.specs.declared.keys.Key.TheVariants.{Word, Number, HeaderDigest, DataDigest}
use Rattle.oi_negotiate.specs.declared.keys.NumberKey.{NumberKey}
use Rattle.oi_negotiate.specs.declared.keys.NumberKey.TheVariants.{MaxBurstLength, FirstBurstLength, DefaultTime2Wait, DefaultTime2Retain, MaxOutstandingR2T, MaxConnections, ErrorRecoveryLevel, MaxRecvDataSegmentLength}
use Rattle.oi_negotiate.specs.declared.keys.WordKey.{WordKey}
use Rattle.oi_negotiate.specs.declared.keys.WordKey.TheVariants.{InitialR2T, ImmediateData, DataPDUInOrder, DataSequenceInOrder}
use Rattle.oi_negotiate.specs.declared.offer.Offer.{Offer}
use Rattle.oi_text.specs.declared.pairs.Pair.{Pair}

-- what the target offers: bursts of 262,144 bytes, segments and first bursts of 65,536, else the defaults of RFC 7143
abbrev pub target_offer : Offer
target_offer = record {
  initial_r2t = true;
  immediate = true;
  max_burst = 262144;
  first_burst = 65536;
  time2wait = 2;
  time2retain = 20;
  outstanding = 1;
  max_recv = 65536;
}

abbrev pub keyed : List ℕ → List ℕ → Pair
keyed key value = record { key = key; value = value }

abbrev pub word_text : Bool → List ℕ
word_text true = codes "Yes"
word_text false = codes "No"

-- `0x` and lower-case digits
abbrev pub binary_text : List ℕ → List ℕ
binary_text bytes = 48 ∷ 120 ∷ encode_lower bytes

-- what a key was settled to
abbrev pub settled_word : WordKey → Params → List ℕ
settled_word InitialR2T params = word_text params.initial_r2t
settled_word ImmediateData params = word_text params.immediate
settled_word DataPDUInOrder params = codes "Yes"
settled_word DataSequenceInOrder params = codes "Yes"

abbrev pub settled_number : NumberKey → Params → ℕ
settled_number MaxBurstLength params = params.max_burst
settled_number FirstBurstLength params = params.first_burst
settled_number DefaultTime2Wait params = params.time2wait
settled_number DefaultTime2Retain params = params.time2retain
settled_number MaxOutstandingR2T params = params.outstanding
settled_number MaxConnections params = 1
settled_number ErrorRecoveryLevel params = 0
settled_number MaxRecvDataSegmentLength params = params.max_recv

abbrev pub settled_text : Key → Params → List ℕ
settled_text (Word k) params = settled_word k params
settled_text (Number k) params = decimal (settled_number k params)
settled_text HeaderDigest params = codes "None"
settled_text DataDigest params = codes "None"

-- the length that the initiator declares is no offer
abbrev pub is_declared : Key → Bool
is_declared (Number MaxRecvDataSegmentLength) = true
is_declared k = false

-- keys of a login that are not negotiated
abbrev pub is_login_key : List ℕ → Bool
is_login_key key =
    is_text key (codes "InitiatorName") || is_text key (codes "InitiatorAlias") || is_text key (codes "SessionType") || is_text key (codes "TargetName")
    || is_text key (codes "AuthMethod") || is_text key (codes "CHAP_A") || is_text key (codes "CHAP_I") || is_text key (codes "CHAP_C")
    || is_text key (codes "CHAP_N") || is_text key (codes "CHAP_R")

abbrev pub answers_by : Option Key → Params → Pair → List Pair
answers_by None params p = if is_login_key p.key then [] else keyed p.key (codes "NotUnderstood") ∷ []
answers_by (Some k) params p = if is_declared k then [] else keyed p.key (settled_text k params) ∷ []

-- the answer to one pair: a key that is negotiated has its settled value, one that is not known is not understood
abbrev pub answers_to : Params → Pair → List Pair
answers_to params p = if is_silent p.value then [] else answers_by (key_of p.key) params p

-- in the order of the request
abbrev pub answers : Params → List Pair → List Pair
answers params [] = []
answers params (p ∷ ps) = answers_to params p ++ answers params ps

-- the first response of a normal session (section 13.9)
abbrev pub group_keys : ℕ → Bool → List Pair
group_keys tag true = []
group_keys tag false = keyed (codes "TargetPortalGroupTag") (decimal tag) ∷ []

-- the length that the target takes, which the last response declares
abbrev pub declared_keys : Bool → List Pair
declared_keys false = []
declared_keys true = keyed (codes "MaxRecvDataSegmentLength") (decimal 65536) ∷ []

-- where a target is found that has moved (section 13.8)
abbrev pub address_keys : Portal → List Pair
address_keys portal = keyed (codes "TargetAddress") (portal_text portal.address portal.port) ∷ []
