-- The numbers of the host codes, as Linux has them (include/scsi/scsi_status.h).
use Rattle.std.specs.Prelude.{ℕ}
use Rattle.oi_recovery.specs.declared.host_code.HostCode.{HostCode}
use Rattle.oi_recovery.specs.declared.host_code.HostCode.TheVariants.{NoConnect, BadTarget, Abort, Error, Reset, Disrupted, FailFast}

abbrev pub host_number : HostCode → ℕ
host_number NoConnect = 0x01
host_number BadTarget = 0x04
host_number Abort = 0x05
host_number Error = 0x07
host_number Reset = 0x08
host_number Disrupted = 0x0e
host_number FailFast = 0x0f
