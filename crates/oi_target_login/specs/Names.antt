-- Who logs in where (RFC 7143, sections 4.3 and 13.21; statuses of section 11.13.5).
use Rattle.std.specs.Prelude.{ℕ, Bool, true, false, not, ◌&&◌, ◌||◌, ◌==◌, Option, Some, None, is_some, List, codes, if◌then◌else◌}
use Rattle.oi_negotiate.specs.Keys.{is_text}
use Rattle.oi_negotiate.specs.Negotiated.{answer_to}
use Rattle.oi_pdu.specs.declared.header.LoginRequest.{LoginRequest}
use Rattle.oi_text.specs.declared.pairs.Pair.{Pair}
use Rattle.oi_target_login.specs.declared.config.LoginRules.{LoginRules}
use Rattle.oi_target_login.specs.declared.names.Naming.{Naming}
use Rattle.oi_target_login.specs.declared.names.Naming.TheVariants.{Known, Unknown}
use Rattle.oi_target_login.specs.declared.status.Status.{Status}

abbrev pub status : ℕ → ℕ → Status
status class detail = record { class = class; detail = detail }

-- the initiator's fault, none of the others
abbrev pub initiator_error : Status
initiator_error = status 2 0x00

abbrev pub authentication_failure : Status
authentication_failure = status 2 0x01

abbrev pub not_found : Status
not_found = status 2 0x03

abbrev pub missing_parameter : Status
missing_parameter = status 2 0x07

abbrev pub no_such_type : Status
no_such_type = status 2 0x09

abbrev pub no_such_session : Status
no_such_session = status 2 0x0a

abbrev pub out_of_resources : Status
out_of_resources = status 3 0x02

abbrev pub is_word : Option (List ℕ) → List ℕ → Bool
is_word None word = false
is_word (Some value) word = is_text value word

abbrev pub session_type : List Pair → Option (List ℕ)
session_type pairs = answer_to (codes "SessionType") pairs

-- a session is a normal one where nothing else is said
abbrev pub is_normal : List Pair → Bool
is_normal pairs = not (is_some (session_type pairs)) || is_word (session_type pairs) (codes "Normal")

abbrev pub is_discovery : List Pair → Bool
is_discovery pairs = is_word (session_type pairs) (codes "Discovery")

-- a target that has moved sends each normal login away
abbrev pub is_sent_away : LoginRules → List Pair → Bool
is_sent_away r pairs = is_some r.moved && is_normal pairs

-- a new session of this initiator
abbrev pub known : LoginRequest → List ℕ → Bool → Naming
known h initiator discovers =
    if h.tsih == 0 then Known (record { initiator = initiator; isid = h.isid; discovers = discovers }) else Unknown no_such_session

abbrev pub normal : LoginRules → LoginRequest → List ℕ → Option (List ℕ) → Naming
normal r h initiator None = Unknown missing_parameter
normal r h initiator (Some target) = if is_text target r.name then known h initiator false else Unknown not_found

abbrev pub named_by : LoginRules → LoginRequest → List Pair → Option (List ℕ) → Naming
named_by r h pairs None = Unknown missing_parameter
named_by r h pairs (Some initiator) =
    if is_discovery pairs then known h initiator true else normal r h initiator (answer_to (codes "TargetName") pairs)

-- who logs in, by the pairs of the first text
abbrev pub naming : LoginRules → LoginRequest → List Pair → Naming
naming r h pairs =
    if is_discovery pairs || is_normal pairs then named_by r h pairs (answer_to (codes "InitiatorName") pairs)
    else Unknown no_such_type
