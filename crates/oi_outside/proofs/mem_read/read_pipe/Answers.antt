-- The read goes into a front of the buffer.
use Rattle.std.proofs.Common.{arith}
use Rattle.oi_outside.proofs.MemLinks.{ReadsPipe-front}
use Rattle.oi_outside.proofs.mem_read.read_pipe.Goals as goal

pub returns-in-Moved : goal.returns-in-Moved
returns-in-Moved c =
    ReadsPipe-front c.args.piece c.min-size.result c.in-Moved.count c.args.pipe.now c.read.new.self c.args.buf.now c.read.new.buf
    (omega arith) (omega arith) c.read.auto.buf c.in-Moved.ensures.turn
