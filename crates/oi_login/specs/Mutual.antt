-- What mutual CHAP promises (RFC 7143, section 12.1.3).
use Rattle.std.specs.Prelude.{◌≡◌, ℕ, List, ◌++◌, Some, length, slice_get}
use Rattle.std.specs.List.{flat_map}
use Rattle.oi_base.specs.declared.login.Mutual.{Mutual}
use Rattle.oi_pdu.specs.declared.codec.Pdu.{Pdu}
use Rattle.oi_text.specs.Pairs.{IsText, text_of}
use Rattle.oi_text.specs.declared.pairs.Pair.{Pair}
use Rattle.oi_login.specs.Chap.{HasProof}
use Rattle.oi_login.specs.Keys.{response_keys}
use Rattle.oi_login.specs.declared.chap.Challenge.{Challenge}
use Rattle.oi_login.specs.declared.config.LoginAuth.{LoginAuth}

-- the texts of these responses, joined
abbrev pub joined_text : List Pdu → List ℕ
joined_text responses = flat_map (λ r. r.payload) responses

-- the request begins with our name and our response to some challenge, behind which stand our identifier and our challenge
abbrev pub ChallengesTarget : LoginAuth → Pdu → Type 0
ChallengesTarget auth request =
    (challenge : Challenge) × (more : List ℕ) × (request.payload ≡ text_of (response_keys auth challenge) ++ more)

-- the target has shown who it is: some successive responses, of which the first one answers the request that challenged the
-- target, are together a text with its name and with the right response
pub record ShowsItself (auth : LoginAuth) (wanted : Mutual) (requests responses : List Pdu) : Type 0 where
  pub before : List Pdu
  pub answer : List Pdu
  pub after : List Pdu
  pub request : Pdu
  pub pairs : List Pair
  pub parts : responses ≡ before ++ (answer ++ after)
  pub asked : slice_get requests (length before) ≡ Some request
  pub challenged : ChallengesTarget auth request
  pub text : IsText (joined_text answer) pairs
  pub proof : HasProof auth wanted pairs
