-- The keys behind `login`: any of five, in any order, each at most once, as KEY=VALUE. Their values are taken as they
-- stand; what is not named has its default of RFC 7143, section 13.
use Rattle.std.specs.Prelude.{ℕ, ◌≤◌, ◌+◌, Bool, true, false, ◌==◌, List, [], ◌∷◌, Option, Some, None, IfSome, is_none, codes, drop, take, if◌then◌else◌}
use Rattle.std.specs.List.{position}
use Rattle.std.specs.Option.{option_and_then, option_map, unwrap_or}
use Rattle.oi_base.specs.Limits.{least_segment, most_segment}
use Rattle.oi_base.specs.declared.login.Params.{Params}
use Rattle.oi_script.specs.Numbers.{is_text, number_in}
use Rattle.oi_script.specs.declared.keys.Key.{Key}
use Rattle.oi_script.specs.declared.keys.Key.TheVariants.{InitialR2T, ImmediateData, MaxRecvDataSegmentLength, MaxBurstLength, FirstBurstLength}
use Rattle.oi_script.specs.declared.keys.Keys.{Keys}

abbrev pub switch_of : List ℕ → Option Bool
switch_of value = if is_text value (codes "Yes") then Some true else (if is_text value (codes "No") then Some false else None)

abbrev pub segment_in : List ℕ → Option ℕ
segment_in value = number_in least_segment most_segment value

unfoldable pub key_named : List ℕ → List ℕ → Option Key
key_named name value =
    if is_text name (codes "InitialR2T") then option_map InitialR2T (switch_of value)
    else (if is_text name (codes "ImmediateData") then option_map ImmediateData (switch_of value)
    else (if is_text name (codes "MaxRecvDataSegmentLength") then option_map MaxRecvDataSegmentLength (segment_in value)
    else (if is_text name (codes "MaxBurstLength") then option_map MaxBurstLength (segment_in value)
    else (if is_text name (codes "FirstBurstLength") then option_map FirstBurstLength (segment_in value)
    else None))))

-- the first = parts the key from its value
abbrev pub key_at : Option ℕ → List ℕ → Option Key
key_at None word = None
key_at (Some at) word = key_named (take at word) (drop (at + 1) word)

abbrev pub key_of : List ℕ → Option Key
key_of word = key_at (position (λ b. b == 61) word) word

abbrev pub no_keys : Keys
no_keys = record { initial_r2t = None; immediate = None; max_send = None; max_burst = None; first_burst = None }

-- with one key more, which is not there yet
abbrev pub with_key : Keys → Key → Option Keys
with_key k (InitialR2T on) = if is_none k.initial_r2t then Some (record k { initial_r2t = Some on }) else None
with_key k (ImmediateData on) = if is_none k.immediate then Some (record k { immediate = Some on }) else None
with_key k (MaxRecvDataSegmentLength n) = if is_none k.max_send then Some (record k { max_send = Some n }) else None
with_key k (MaxBurstLength n) = if is_none k.max_burst then Some (record k { max_burst = Some n }) else None
with_key k (FirstBurstLength n) = if is_none k.first_burst then Some (record k { first_burst = Some n }) else None

abbrev pub keys_of : Keys → List (List ℕ) → Option Keys
keys_of k [] = Some k
keys_of k (word ∷ words) = option_and_then (λ more. keys_of more words) (option_and_then (λ key. with_key k key) (key_of word))

-- what the line does not say has its default; the length that it names is the target's, which bounds what is sent
abbrev pub params_of : Keys → Params
params_of k = record {
  initial_r2t = unwrap_or k.initial_r2t true;
  immediate = unwrap_or k.immediate true;
  max_send = unwrap_or k.max_send 8192;
  max_recv = 8192;
  max_burst = unwrap_or k.max_burst 262144;
  first_burst = unwrap_or k.first_burst 65536;
  outstanding = 1;
  time2wait = 2;
  time2retain = 20;
}

-- a length of the target, where it is named, is no empty one
abbrev pub AreSound : Keys → Type 0
AreSound k = IfSome k.max_send (λ n. 1 ≤ n)

abbrev pub IsSoundKey : Key → Type 0
IsSoundKey (MaxRecvDataSegmentLength n) = 1 ≤ n
IsSoundKey key = Unit {0}
