-- Which settings a session can have.
use Rattle.std.specs.Prelude.{ℕ, pos, negsuc, ◌≤◌, ◌≤ℤ◌}
use Rattle.oi_base.specs.Limits.{least_kept, least_steps, most_commands, most_kept, most_queue_depth, most_replacement, most_seconds, most_steps}
use Rattle.oi_history.specs.declared.config.SessionConfig.{SessionConfig}

-- a number of seconds that is not 0
abbrev pub IsTime : ℕ → Type 0
IsTime seconds = (1 ≤ seconds) × (seconds ≤ most_seconds)

pub record IsValidConfig (C : SessionConfig) : Type 0 where
  pub tries : (1 ≤ C.tries) × (C.tries ≤ 255)
  pub replacement : (negsuc 0 ≤ℤ C.replacement) × (C.replacement ≤ℤ pos most_replacement)
  pub noop_interval : C.noop_interval ≤ most_seconds
  pub noop_timeout : IsTime C.noop_timeout
  pub abort : IsTime C.abort
  pub lun_reset : IsTime C.lun_reset
  pub target_reset : IsTime C.target_reset
  pub logout : IsTime C.logout
  pub cmds_max : (1 ≤ C.cmds_max) × (C.cmds_max ≤ most_commands)
  pub steps : (least_steps ≤ C.steps) × (C.steps ≤ most_steps)
  pub kept : (least_kept ≤ C.kept) × (C.kept ≤ most_kept)
  pub queue_depth : (1 ≤ C.queue_depth) × (C.queue_depth ≤ most_queue_depth)
