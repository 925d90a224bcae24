-- What CHAP asks of the target's answers (RFC 7143, section 12.1.3; RFC 1994).
use Rattle.std.specs.Prelude.{◌≡◌, ◌≤◌, ℕ, List, Option, Some, None, codes, length}
use Rattle.oi_base.specs.declared.login.Mutual.{Mutual}
use Rattle.oi_chap.specs.Chap.{response}
use Rattle.oi_negotiate.specs.Values.{number_within}
use Rattle.oi_text.specs.Binary.{IsBinary}
use Rattle.oi_text.specs.declared.pairs.Pair.{Pair}
use Rattle.oi_login.specs.Answers.{sole}
use Rattle.oi_login.specs.declared.chap.Challenge.{Challenge}
use Rattle.oi_login.specs.declared.config.LoginAuth.{LoginAuth}

abbrev pub number_from : ℕ → ℕ → Option (List ℕ) → Option ℕ
number_from low high None = None
number_from low high (Some text) = number_within low high text

-- the number of a key that stands once, where it is from low to high
abbrev pub number_of : List ℕ → ℕ → ℕ → List Pair → Option ℕ
number_of key low high pairs = number_from low high (sole key pairs)

-- a key stands once, and its value stands for these bytes
abbrev pub HasBinary : List ℕ → List Pair → List ℕ → Type 0
HasBinary key pairs bytes = (value : List ℕ) × (sole key pairs ≡ Some value) × IsBinary value bytes

-- the target challenges: it takes algorithm 5, MD5, and gives an identifier of 8 bits and 1 to 1,024 bytes
pub record HasChallenge (pairs : List Pair) (challenge : Challenge) : Type 0 where
  pub algorithm : number_of (codes "CHAP_A") 5 5 pairs ≡ Some 5
  pub id : number_of (codes "CHAP_I") 0 255 pairs ≡ Some challenge.id
  pub bytes : HasBinary (codes "CHAP_C") pairs challenge.bytes
  pub some : 1 ≤ length challenge.bytes
  pub most : length challenge.bytes ≤ 1024

-- the target shows who it is: its name, and the response to our challenge with its secret
pub record HasProof (auth : LoginAuth) (wanted : Mutual) (pairs : List Pair) : Type 0 where
  pub name : sole (codes "CHAP_N") pairs ≡ Some wanted.user
  pub response : HasBinary (codes "CHAP_R") pairs (response auth.id wanted.secret auth.challenge)

abbrev pub IsProvedTo : LoginAuth → Option Mutual → List Pair → Type 0
IsProvedTo auth None pairs = Unit {0}
IsProvedTo auth (Some wanted) pairs = HasProof auth wanted pairs

-- the same where it is asked for
abbrev pub IsProved : Option LoginAuth → List Pair → Type 0
IsProved None pairs = Unit {0}
IsProved (Some auth) pairs = IsProvedTo auth auth.mutual pairs
