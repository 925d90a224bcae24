-- What is sent of a command (RFC 7143, section 11.3).
use Rattle.std.specs.Prelude.{ℕ, false, ◌==◌, Option, Some, None, take, if◌then◌else◌}
use Rattle.oi_base.specs.declared.login.Params.{Params}
use Rattle.oi_base.specs.declared.tag.Tag.{Tag}
use Rattle.oi_buffer.specs.Cuts.{immediate_of, unsolicited_of}
use Rattle.oi_history.specs.declared.command.Command.{Command}
use Rattle.oi_pdu.specs.declared.codec.Pdu.{Pdu}
use Rattle.oi_pdu.specs.declared.header.Header.TheVariants.{ScsiCommand}
use Rattle.oi_scsi.specs.Commands.{lun_of}

-- the bytes of a command that go with it, and those that follow it unasked; none where it writes nothing (RFC 7143, sections 13.10 and 13.11)
abbrev pub immediate_data : Option Params → Command → ℕ
immediate_data None c = 0
immediate_data (Some p) c = if c.writes then immediate_of c.length p else 0

abbrev pub unsolicited_data : Option Params → Command → ℕ
unsolicited_data None c = 0
unsolicited_data (Some p) c = if c.writes then unsolicited_of c.length p else 0

-- a simple task; F where no unsolicited data follow
abbrev pub command_pdu : Option Params → ℕ → Command → Tag → ℕ → Pdu
command_pdu params stat c tag cmdsn = record {
  head = ScsiCommand (record {
    immediate = false;
    last = unsolicited_data params c == 0;
    reads = c.reads;
    writes = c.writes;
    attr = 1;
    lun = lun_of c.lun;
    tag = tag;
    length = c.length;
    cmdsn = record { 0 = cmdsn };
    exp_stat = record { 0 = stat };
    cdb = c.cdb;
  });
  payload = take (immediate_data params c) c.written;
}
