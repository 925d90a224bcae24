-- What the settings of a login have to meet.
use Rattle.std.specs.Prelude.{◌≡◌, ◌<◌, ◌≤◌, ◌^◌, ℕ, true, List, [], ◌∷◌, Option, Some, None, length}
use Rattle.std.specs.List.{list_all}
use Rattle.oi_base.specs.declared.login.Mutual.{Mutual}
use Rattle.oi_names.specs.Names.{IsName}
use Rattle.oi_negotiate.specs.declared.offer.Offer.{Offer}
use Rattle.oi_pdu.specs.Widths.{AreBelow}
use Rattle.oi_text.specs.Pairs.{is_value_byte}
use Rattle.oi_login.specs.declared.config.LoginAuth.{LoginAuth}
use Rattle.oi_login.specs.declared.config.LoginConfig.{LoginConfig}

-- a name that can stand as the value of a key: at most 8,192 bytes, none of them zero
abbrev pub IsUser : List ℕ → Type 0
IsUser user = (length user ≤ 8192) × (list_all is_value_byte user ≡ true)

abbrev pub IsValidMutual : Option Mutual → Type 0
IsValidMutual None = Unit {0}
IsValidMutual (Some wanted) = IsUser wanted.user

abbrev pub IsValidAuth : Option LoginAuth → Type 0
IsValidAuth None = Unit {0}
IsValidAuth (Some auth) = IsUser auth.user × IsValidMutual auth.mutual

pub record IsValidConfig (config : LoginConfig) : Type 0 where
  pub auth : IsValidAuth config.auth

-- what the types of the settings say besides

abbrev pub OfferFits : Offer → Type 0
OfferFits o = AreBelow (2 ^ 32) (o.max_burst ∷ o.first_burst ∷ o.time2wait ∷ o.time2retain ∷ o.outstanding ∷ o.max_recv ∷ [])

abbrev pub AuthFits : Option LoginAuth → Type 0
AuthFits None = Unit {0}
AuthFits (Some auth) = (auth.id < 2 ^ 8) × (length auth.challenge ≡ 16)

-- settings for which every request can be encoded
pub record IsSendable (config : LoginConfig) : Type 0 where
  pub valid : IsValidConfig config
  pub isid : length config.isid ≡ 6
  pub offer : OfferFits config.offer
  pub auth : AuthFits config.auth

abbrev pub IsTargetName : Option (List ℕ) → Type 0
IsTargetName None = Unit {0}
IsTargetName (Some target) = IsName target

pub record HasNames (config : LoginConfig) : Type 0 where
  pub initiator : IsName config.initiator
  pub target : IsTargetName config.target
