-- What stands in the pairs of an answer.
use Rattle.std.specs.Prelude.{ℕ, Bool, ◌||◌, ◌==◌, List, [], ◌∷◌, ◌++◌, Option, Some, None, codes, count_by, is_some, if◌then◌else◌}
use Rattle.oi_negotiate.specs.Keys.{is_text, key_of}
use Rattle.oi_negotiate.specs.Negotiated.{answer_to}
use Rattle.oi_text.specs.declared.pairs.Pair.{Pair}

-- the value of which P holds; None where it holds of none
abbrev pub IsFound : {A : Type 0} → (A → Type 0) → Option A → Type 0
IsFound P (Some a) = P a
IsFound {A} P None = (a : A) → P a → ⊥

-- how many of the pairs have the key
abbrev pub count_of : List ℕ → List Pair → ℕ
count_of key pairs = count_by (λ p. is_text p.key key) pairs

-- the value of a key that stands once
abbrev pub sole : List ℕ → List Pair → Option (List ℕ)
sole key pairs = if count_of key pairs == 1 then answer_to key pairs else None

-- keys of a login beside those that are negotiated
abbrev pub is_login_key : List ℕ → Bool
is_login_key key =
    is_text key (codes "InitiatorName") || is_text key (codes "SessionType") || is_text key (codes "TargetName") || is_text key (codes "AuthMethod")
    || is_text key (codes "CHAP_A") || is_text key (codes "CHAP_I") || is_text key (codes "CHAP_C") || is_text key (codes "CHAP_N") || is_text key (codes "CHAP_R")
    || is_text key (codes "TargetAlias") || is_text key (codes "TargetAddress") || is_text key (codes "TargetPortalGroupTag")

abbrev pub is_known : List ℕ → Bool
is_known key = is_some (key_of key) || is_login_key key

abbrev pub refusals_to : List ℕ → List Pair
refusals_to key = if is_known key then [] else record { key = key; value = codes "NotUnderstood" } ∷ []

-- each key that is not known is answered, once for each pair (RFC 7143, section 6.2)
abbrev pub refusals : List Pair → List Pair
refusals [] = []
refusals (p ∷ ps) = refusals_to p.key ++ refusals ps
