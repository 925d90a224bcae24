-- Which records a filter names, and which living sessions are theirs.
use Rattle.std.specs.Prelude.{ℕ, Bool, true, ◌==◌, ◌&&◌, Option, Some, None, List, [], ◌∷◌, bytes_eq, filter}
use Rattle.std.specs.List.{find}
use Rattle.std.specs.Option.{option_map, option_or}
use Rattle.oi_names.specs.declared.portal.Portal.{Portal}
use Rattle.oi_names.specs.declared.session_key.SessionInfo.{SessionInfo}
use Rattle.oi_settings.specs.Keys.{Key}
use Rattle.oi_settings.specs.Texts.{Node}
use Rattle.oi_nodedb.specs.declared.filter.Filter.{Filter}

-- what is asked for passes the test; nothing asked for passes
abbrev pub meets : {A : Type 0} → Option A → (A → Bool) → Bool
meets None test = true
meets (Some asked) test = test asked

-- the same address, compared as texts, and the same port
abbrev pub is_portal : Portal → Portal → Bool
is_portal a b = bytes_eq a.address b.address && a.port == b.port

-- each part of the key is the one that the filter asks for
abbrev pub matches : Filter → Key → Bool
matches f key =
    meets f.target (λ t. bytes_eq t key.target) && meets f.portal (λ p. is_portal p key.portal)
    && meets f.tag (λ t. t == key.tag) && meets f.iface (λ i. bytes_eq i key.iface)

-- the records that the filter names
abbrev pub matching : Filter → List Node → List Node
matching f nodes = filter (λ n. matches f n.key) nodes

-- the session has the identity of the key: the target, the portal by which it logged in, and the interface
abbrev pub is_session_of : Key → SessionInfo → Bool
is_session_of key s = bytes_eq s.key.target key.target && is_portal s.key.portal key.portal && bytes_eq s.key.iface key.iface

-- the number of the first living session with the identity of the key
abbrev pub session_of : Key → List SessionInfo → Option ℕ
session_of key living = option_map (λ s. s.sid) (find (is_session_of key) living)

-- the same of the first record that has one
abbrev pub in_use : List SessionInfo → List Node → Option ℕ
in_use living [] = None
in_use living (n ∷ ns) = option_or (session_of n.key living) (in_use living ns)
