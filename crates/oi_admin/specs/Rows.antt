-- The tests by which options are told apart.
use Rattle.std.specs.Prelude.{◌&&◌, ◌||◌, ℕ, Bool, false, not, List, Option, Some, None, bytes_eq, codes, is_some}
use Rattle.oi_words.specs.declared.options.Options.{Options}

abbrev pub is_none : Option (List ℕ) → Bool
is_none o = not (is_some o)

-- the option has this value
abbrev pub has_value : Option (List ℕ) → List ℕ → Bool
has_value None text = false
has_value (Some value) text = bytes_eq value text

abbrev pub is_flagless : Options → Bool
is_flagless o = not o.login && not o.logout

-- neither `-n` nor `-v`
abbrev pub is_settingless : Options → Bool
is_settingless o = is_none o.name && is_none o.value

-- none of `-o`, `-n`, `-v`
abbrev pub is_operationless : Options → Bool
is_operationless o = is_none o.operation && is_settingless o

abbrev pub is_node : Options → Bool
is_node o = has_value o.mode (codes "node") && is_none o.discovery

abbrev pub is_list : Options → Bool
is_list o = is_operationless o && is_flagless o

abbrev pub is_login : Options → Bool
is_login o = is_operationless o && o.login && not o.logout

abbrev pub is_logout : Options → Bool
is_logout o = is_operationless o && o.logout && not o.login

-- an operation without a setting
abbrev pub is_operation : List ℕ → Options → Bool
is_operation operation o = has_value o.operation operation && is_settingless o && is_flagless o

abbrev pub is_update : Options → Bool
is_update o = has_value o.operation (codes "update") && is_flagless o

abbrev pub is_recordless : Options → Bool
is_recordless o = is_none o.target && is_none o.iface && is_operationless o && is_flagless o

abbrev pub is_discovery : Options → Bool
is_discovery o =
    has_value o.mode (codes "discovery") && (has_value o.discovery (codes "sendtargets") || has_value o.discovery (codes "st")) && is_recordless o

abbrev pub is_session : Options → Bool
is_session o = has_value o.mode (codes "session") && is_none o.discovery && is_none o.portal && is_recordless o
