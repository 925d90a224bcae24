-- What a request comes to on the wire (RFC 7143, section 11.3).
use Rattle.oi_history.specs.declared.command.Command.{Command}
use Rattle.oi_scsi.specs.Commands.{cdb_of}
use Rattle.oi_scsi.specs.Requests.{transfer_length, reads, writes, written_data}
use Rattle.oi_scsi.specs.declared.request.Request.{Request}

abbrev pub command_of : Request → Command
command_of r = record {
  lun = r.lun;
  cdb = cdb_of r.kind;
  length = transfer_length r.kind;
  reads = reads r.kind;
  writes = writes r.kind;
  written = written_data r.kind;
}
