-- What befalls submissions that is no reply to them.
use Rattle.std.specs.Prelude.{ℕ}
use Rattle.oi_history.specs.Recovering.{hit_by, lost_by, reset_by}
use Rattle.oi_history.specs.declared.recovering.Blow.{Blow}
use Rattle.oi_history.specs.declared.recovering.Blow.TheVariants.{Struck, Reset, Loss}
use Rattle.oi_history.specs.declared.task.Task.{Task}

-- the submission with the id k behind it
abbrev pub blow_by : ℕ → ℕ → Blow → ℕ → Task → Task
blow_by allowed at (Struck hit) k t = hit_by allowed at hit t
blow_by allowed at (Reset lun) k t = reset_by allowed at lun t
blow_by allowed at (Loss handler at_once counted) k t = lost_by allowed at handler at_once counted k t
