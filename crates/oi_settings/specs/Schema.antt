-- The settings that each node record has.
use Rattle.std.specs.Prelude.{◌≡◌, ◌≤◌, ◌⊎◌, ℕ, Bool, true, false, not, ◌==◌, ◌&&◌, Option, Some, None, IfSome, List, [], ◌∷◌, map, length, codes, bytes_eq}
use Rattle.std.specs.Fmt.{decimal}
use Rattle.std.specs.List.{find, list_all}
use Rattle.oi_base.specs.Decimal.{IsNumber}
use Rattle.oi_base.specs.Limits.{least_segment, most_commands, most_queue_depth, most_received, most_replacement, most_seconds, most_segment}
use Rattle.oi_names.specs.Names.{IsIface, IsName}
use Rattle.oi_names.specs.Portals.{IsAddress}
use Rattle.oi_settings.specs.Keys.{Key}
use Rattle.oi_settings.specs.Pairs.{Pair}
use Rattle.oi_settings.specs.declared.schema.Part.{Part}
use Rattle.oi_settings.specs.declared.schema.Part.TheVariants.{Target, Tag, Address, Port, Interface}
use Rattle.oi_settings.specs.declared.schema.Range.{Range}
use Rattle.oi_settings.specs.declared.schema.Range.TheVariants.{OfKey, Number, NumberOrNever, YesNo, Startup, Method, Credential}
use Rattle.oi_settings.specs.declared.schema.Setting.{Setting}

-- one row: a name, its value in a fresh record, and the values that it may have. What comes from the key has no text here.
pub record Row : Type 0 where
  pub name : List ℕ
  pub initial : List ℕ
  pub range : Range

abbrev pub row_of : Setting → Row
row_of s = record { name = s.name.now; initial = s.initial.now; range = s.range }

-- the newest setting, which the records of the first schema lack
abbrev pub newest : Row
newest = record { name = codes "node.session.oi.count_disrupted"; initial = codes "Yes"; range = YesNo }

-- the settings in the order of a fresh record: the parts of the key first, the newest one last. Those whose names have `.iscsi.`
-- are keys of the login (RFC 7143, section 13). Times are in seconds.
abbrev pub table : List Row
table =
    record { name = codes "node.name"; initial = []; range = OfKey Target }
    ∷ record { name = codes "node.tpgt"; initial = []; range = OfKey Tag }
    ∷ record { name = codes "node.conn[0].address"; initial = []; range = OfKey Address }
    ∷ record { name = codes "node.conn[0].port"; initial = []; range = OfKey Port }
    ∷ record { name = codes "iface.iscsi_ifacename"; initial = []; range = OfKey Interface }
    ∷ record { name = codes "node.startup"; initial = codes "manual"; range = Startup }
    ∷ record { name = codes "node.session.auth.authmethod"; initial = codes "None"; range = Method }
    ∷ record { name = codes "node.session.auth.username"; initial = []; range = Credential }
    ∷ record { name = codes "node.session.auth.password"; initial = []; range = Credential }
    ∷ record { name = codes "node.session.auth.username_in"; initial = []; range = Credential }
    ∷ record { name = codes "node.session.auth.password_in"; initial = []; range = Credential }
    ∷ record { name = codes "node.session.timeo.replacement_timeout"; initial = codes "120"; range = NumberOrNever most_replacement }
    ∷ record { name = codes "node.conn[0].timeo.login_timeout"; initial = codes "15"; range = Number 1 most_seconds }
    ∷ record { name = codes "node.conn[0].timeo.logout_timeout"; initial = codes "15"; range = Number 1 most_seconds }
    ∷ record { name = codes "node.conn[0].timeo.noop_out_interval"; initial = codes "5"; range = Number 0 most_seconds }
    ∷ record { name = codes "node.conn[0].timeo.noop_out_timeout"; initial = codes "5"; range = Number 1 most_seconds }
    ∷ record { name = codes "node.session.err_timeo.abort_timeout"; initial = codes "15"; range = Number 1 most_seconds }
    ∷ record { name = codes "node.session.err_timeo.lu_reset_timeout"; initial = codes "30"; range = Number 1 most_seconds }
    ∷ record { name = codes "node.session.err_timeo.tgt_reset_timeout"; initial = codes "30"; range = Number 1 most_seconds }
    ∷ record { name = codes "node.session.cmds_max"; initial = codes "128"; range = Number 1 most_commands }
    ∷ record { name = codes "node.session.queue_depth"; initial = codes "32"; range = Number 1 most_queue_depth }
    ∷ record { name = codes "node.session.iscsi.InitialR2T"; initial = codes "No"; range = YesNo }
    ∷ record { name = codes "node.session.iscsi.ImmediateData"; initial = codes "Yes"; range = YesNo }
    ∷ record { name = codes "node.session.iscsi.FirstBurstLength"; initial = codes "262144"; range = Number least_segment most_segment }
    ∷ record { name = codes "node.session.iscsi.MaxBurstLength"; initial = codes "16776192"; range = Number least_segment most_segment }
    ∷ record { name = codes "node.session.iscsi.DefaultTime2Wait"; initial = codes "2"; range = Number 0 3600 }
    ∷ record { name = codes "node.session.iscsi.DefaultTime2Retain"; initial = codes "0"; range = Number 0 3600 }
    ∷ record { name = codes "node.session.iscsi.MaxOutstandingR2T"; initial = codes "1"; range = Number 1 65535 }
    ∷ record { name = codes "node.conn[0].iscsi.MaxRecvDataSegmentLength"; initial = codes "262144"; range = Number least_segment most_received }
    ∷ newest
    ∷ []

-- the part of the key as text; numbers are decimal
abbrev pub part_text : Part → Key → List ℕ
part_text Target key = key.target
part_text Tag key = decimal key.tag
part_text Address key = key.portal.address
part_text Port key = decimal key.portal.port
part_text Interface key = key.iface

-- the texts that name such a part
abbrev pub IsPart : Part → List ℕ → Type 0
IsPart Target value = IsName value
IsPart Tag value = IsNumber 0 65535 value
IsPart Address value = IsAddress value
IsPart Port value = IsNumber 1 65535 value
IsPart Interface value = IsIface value

-- one of two words
abbrev pub IsWord : List ℕ → List ℕ → List ℕ → Type 0
IsWord first second value = (value ≡ first) ⊎ (value ≡ second)

-- every byte but zero and the line feed
abbrev pub is_credential_byte : ℕ → Bool
is_credential_byte c = not (c == 0) && not (c == 10)

-- the values of a range
abbrev pub IsIn : Range → List ℕ → Type 0
IsIn (OfKey part) value = IsPart part value
IsIn (Number low high) value = IsNumber low high value
IsIn (NumberOrNever high) value = (value ≡ codes "-1") ⊎ IsNumber 0 high value
IsIn YesNo value = IsWord (codes "Yes") (codes "No") value
IsIn Startup value = IsWord (codes "manual") (codes "automatic") value
IsIn Method value = IsWord (codes "None") (codes "CHAP") value
IsIn Credential value = (length value ≤ 255) × (list_all is_credential_byte value ≡ true)

-- the row with this name
abbrev pub row_named : List ℕ → List Row → Option Row
row_named name rows = find (λ r. bytes_eq r.name name) rows

-- a name of the table takes the values of its range, and another name every value
abbrev pub Takes : List Row → List ℕ → List ℕ → Type 0
Takes rows name value = IfSome (row_named name rows) (λ r. IsIn r.range value)

-- whether a range is a part of the key
abbrev pub is_of_key : Range → Bool
is_of_key (OfKey _) = true
is_of_key _ = false

-- whether a row can be updated: its value does not come from the key
abbrev pub is_open_row : Option Row → Bool
is_open_row None = false
is_open_row (Some r) = not (is_of_key r.range)

-- whether the name is one of the table that can be updated
abbrev pub is_open : List ℕ → Bool
is_open name = is_open_row (row_named name table)

-- the value of a setting in the fresh record of a key
abbrev pub initial_by : Range → List ℕ → Key → List ℕ
initial_by (OfKey part) text key = part_text part key
initial_by range text key = text

-- the pairs of the fresh record of a key
abbrev pub fresh_pairs : Key → List Pair
fresh_pairs key = map (λ r. (r.name, initial_by r.range r.initial key)) table
