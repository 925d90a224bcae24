-- What `set` may give to a session: names, each with its range.
use Rattle.std.specs.Prelude.{ℕ, ℤ, pos, negsuc, ◌≤ℤ◌, Bool, true, false, ◌&&◌, List, Option, Some, None, codes, if◌then◌else◌}
use Rattle.std.specs.Option.{option_map}
use Rattle.oi_base.specs.Limits.{least_kept, least_steps, most_commands, most_kept, most_queue_depth, most_replacement, most_seconds, most_steps}
use Rattle.oi_script.specs.Numbers.{is_text, number_in}
use Rattle.oi_script.specs.declared.settings.Setting.{Setting}
use Rattle.oi_script.specs.declared.settings.Setting.TheVariants.{Tries, Replacement, NoopOutInterval, NoopOutTimeout, AbortTimeout, LuResetTimeout, TgtResetTimeout, CmdsMax, Steps, Kept, QueueDepth, CountDisrupted}

abbrev pub setting_of : List ℕ → Option Setting
setting_of name =
    if is_text name (codes "tries") then Some Tries
    else (if is_text name (codes "replacement") then Some Replacement
    else (if is_text name (codes "noop_out_interval") then Some NoopOutInterval
    else (if is_text name (codes "noop_out_timeout") then Some NoopOutTimeout
    else (if is_text name (codes "abort_timeout") then Some AbortTimeout
    else (if is_text name (codes "lu_reset_timeout") then Some LuResetTimeout
    else (if is_text name (codes "tgt_reset_timeout") then Some TgtResetTimeout
    else (if is_text name (codes "cmds_max") then Some CmdsMax
    else (if is_text name (codes "steps") then Some Steps
    else (if is_text name (codes "kept") then Some Kept
    else (if is_text name (codes "queue_depth") then Some QueueDepth
    else (if is_text name (codes "count_disrupted") then Some CountDisrupted
    else None)))))))))))

abbrev pub least : Setting → ℕ
least Tries = 1
least Replacement = 0
least NoopOutInterval = 0
least NoopOutTimeout = 1
least AbortTimeout = 1
least LuResetTimeout = 1
least TgtResetTimeout = 1
least CmdsMax = 1
least Steps = least_steps
least Kept = least_kept
least QueueDepth = 1
least CountDisrupted = 0

abbrev pub most : Setting → ℕ
most Tries = 255
most Replacement = most_replacement
most NoopOutInterval = most_seconds
most NoopOutTimeout = most_seconds
most AbortTimeout = most_seconds
most LuResetTimeout = most_seconds
most TgtResetTimeout = most_seconds
most CmdsMax = most_commands
most Steps = most_steps
most Kept = most_kept
most QueueDepth = most_queue_depth
most CountDisrupted = 1

-- -1, which is a time without end, stands besides
abbrev pub may_be_endless : Setting → Bool
may_be_endless Replacement = true
may_be_endless s = false

abbrev pub value_in : Setting → List ℕ → Option ℤ
value_in s text = if may_be_endless s && is_text text (codes "-1") then Some (negsuc 0) else option_map pos (number_in (least s) (most s) text)

abbrev pub lowest : Setting → ℤ
lowest s = if may_be_endless s then negsuc 0 else pos (least s)

abbrev pub IsValueOf : Setting → ℤ → Type 0
IsValueOf s v = (lowest s ≤ℤ v) × (v ≤ℤ pos (most s))
