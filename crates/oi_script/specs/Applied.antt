-- The settings of a session with one changed by a line.
use Rattle.std.specs.Prelude.{ℤ, ◌==◌, unsigned_abs}
use Rattle.oi_history.specs.declared.config.SessionConfig.{SessionConfig}
use Rattle.oi_script.specs.declared.settings.Setting.{Setting}
use Rattle.oi_script.specs.declared.settings.Setting.TheVariants.{Tries, Replacement, NoopOutInterval, NoopOutTimeout, AbortTimeout, LuResetTimeout, TgtResetTimeout, CmdsMax, Steps, Kept, QueueDepth, CountDisrupted}

abbrev pub applied : Setting → ℤ → SessionConfig → SessionConfig
applied Tries v C = record C { tries = unsigned_abs v }
applied Replacement v C = record C { replacement = v }
applied NoopOutInterval v C = record C { noop_interval = unsigned_abs v }
applied NoopOutTimeout v C = record C { noop_timeout = unsigned_abs v }
applied AbortTimeout v C = record C { abort = unsigned_abs v }
applied LuResetTimeout v C = record C { lun_reset = unsigned_abs v }
applied TgtResetTimeout v C = record C { target_reset = unsigned_abs v }
applied CmdsMax v C = record C { cmds_max = unsigned_abs v }
applied Steps v C = record C { steps = unsigned_abs v }
applied Kept v C = record C { kept = unsigned_abs v }
applied QueueDepth v C = record C { queue_depth = unsigned_abs v }
applied CountDisrupted v C = record C { count_disrupted = unsigned_abs v == 1 }
