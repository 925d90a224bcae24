-- What the tool prints.
use Rattle.std.specs.Prelude.{ℕ, Bool, not, ◌==◌, ◌&&◌, ◌||◌, List, [], ◌∷◌, ◌++◌, length, map, codes, bytes_eq, if◌then◌else◌}
use Rattle.std.specs.Fmt.{decimal}
use Rattle.std.specs.List.{flat_map}
use Rattle.oi_names.specs.Portals.{portal_text}
use Rattle.oi_names.specs.declared.portal.Portal.{Portal}
use Rattle.oi_names.specs.declared.session_key.SessionInfo.{SessionInfo}
use Rattle.oi_nodedb.specs.Filters.{is_portal}
use Rattle.oi_settings.specs.Keys.{Key}
use Rattle.oi_settings.specs.Pairs.{Pair}
use Rattle.oi_settings.specs.Texts.{Node, lines_of}

-- `ADDRESS:PORT,TAG TARGET`
abbrev pub place_text : Portal → ℕ → List ℕ → List ℕ
place_text portal tag target = portal_text portal.address portal.port ++ 44 ∷ (decimal tag ++ 32 ∷ target)

-- the line of a record in a list of records, and the list
abbrev pub list_line : Key → List ℕ
list_line key = place_text key.portal key.tag key.target ++ 10 ∷ []

abbrev pub list_text : List Node → List ℕ
list_text nodes = flat_map (λ n. list_line n.key) nodes

-- the names of passwords
abbrev pub is_password : List ℕ → Bool
is_password name = bytes_eq name (codes "node.session.auth.password") || bytes_eq name (codes "node.session.auth.password_in")

-- a password is not shown, but that it is empty
abbrev pub shown_value : List ℕ → List ℕ → List ℕ
shown_value name value = if is_password name && not (length value == 0) then codes "********" else value

abbrev pub shown_pairs : List Pair → List Pair
shown_pairs ps = map (λ p. (p.0, shown_value p.0 p.1)) ps

-- the lines `NAME = VALUE` of the records
abbrev pub show_text : List Node → List ℕ
show_text nodes = flat_map (λ n. lines_of (shown_pairs n.pairs)) nodes

-- ` via ADDRESS:PORT`, where a target sent the login elsewhere
abbrev pub via_text : SessionInfo → List ℕ
via_text s = if is_portal s.key.portal s.current then [] else codes " via " ++ portal_text s.current.address s.current.port

-- `tcp: [SID] ADDRESS:PORT,TAG TARGET`
abbrev pub session_line : SessionInfo → List ℕ
session_line s = codes "tcp: [" ++ (decimal s.sid ++ (codes "] " ++ (place_text s.key.portal s.tag s.key.target ++ (via_text s ++ 10 ∷ []))))

abbrev pub session_text : List SessionInfo → List ℕ
session_text living = flat_map session_line living
