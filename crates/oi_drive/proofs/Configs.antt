-- The settings of the replayed session are valid.
use Rattle.std.proofs.Common.{arith, rules}
use Rattle.oi_drive.specs.Endings.{drive_config}
use Rattle.oi_history.specs.Configs.{IsValidConfig}

pub config_is_valid : IsValidConfig drive_config
config_is_valid = record {
  tries = (omega arith, omega arith);
  replacement = (search rules, search rules);
  noop_interval = omega arith;
  noop_timeout = (omega arith, omega arith);
  abort = (omega arith, omega arith);
  lun_reset = (omega arith, omega arith);
  target_reset = (omega arith, omega arith);
  logout = (omega arith, omega arith);
  cmds_max = (omega arith, omega arith);
  steps = (omega arith, omega arith);
  kept = (omega arith, omega arith);
  queue_depth = (omega arith, omega arith);
}
