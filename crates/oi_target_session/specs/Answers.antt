-- The PDUs that a target answers with (RFC 7143, sections 11.4 to 11.8, 11.15 and 11.19).
use Rattle.std.specs.Prelude.{ℕ, ◌+◌, ◌-◌, ◌%◌, ◌^◌, Bool, true, false, not, List, [], ◌++◌, length, min, replicate, take, flat_map, ◌==◌, if◌then◌else◌}
use Rattle.std.specs.Int.{to_be_bytes, w16}
use Rattle.oi_base.specs.Serials.{predecessor, successor}
use Rattle.oi_base.specs.declared.serial.Serial.{Serial}
use Rattle.oi_base.specs.declared.tag.Tag.{Tag}
use Rattle.oi_pdu.specs.Wire.{encoding}
use Rattle.oi_pdu.specs.declared.codec.Pdu.{Pdu}
use Rattle.oi_pdu.specs.declared.header.Header.TheVariants as head
use Rattle.oi_recovery.specs.declared.hit.Residual.{Residual}
use Rattle.oi_recovery.specs.declared.hit.Residual.TheVariants.{Exact, Under, Over}
use Rattle.oi_target_session.specs.declared.limits.Numbers.{Numbers}
use Rattle.oi_target_tasks.specs.declared.task.Task.{Task}
use Rattle.oi_units.specs.declared.reply.UnitReply.{UnitReply}

-- PDUs on the wire, one after another
abbrev pub bytes_of : List Pdu → List ℕ
bytes_of pdus = flat_map encoding pdus

-- MaxCmdSN: the window holds 32 commands
abbrev pub max_number : Numbers → Serial
max_number n = record { 0 = (n.exp.0 + 31) % 2 ^ 32 }

-- a status takes a StatSN
abbrev pub after_status : Numbers → Numbers
after_status n = record { exp = n.exp; stat = record { 0 = successor n.stat.0 } }

-- no logical unit, and no tag
abbrev pub no_lun : List ℕ
no_lun = replicate 8 0

abbrev pub no_tag : ℕ
no_tag = 0xffffffff

abbrev pub is_over : Residual → Bool
is_over (Over count) = true
is_over r = false

abbrev pub is_under : Residual → Bool
is_under (Under count) = true
is_under r = false

abbrev pub residual_count : Residual → ℕ
residual_count Exact = 0
residual_count (Under count) = count
residual_count (Over count) = count

-- sense data behind their length of two bytes
abbrev pub sense_segment : List ℕ → List ℕ
sense_segment sense = if length sense == 0 then [] else to_be_bytes w16 (min (length sense) 65535) ++ take (min (length sense) 65535) sense

-- the status of a command alone. It follows no Data-In: ExpDataSN, the count of those, is 0 (RFC 7143, section 11.4.8)
abbrev pub response_pdu : Numbers → Task → UnitReply → Pdu
response_pdu n t r = record {
  head = head.ScsiResponse (record {
    over = is_over r.residual;
    under = is_under r.residual;
    response = 0;
    status = r.status;
    tag = t.tag;
    stat = n.stat;
    exp = n.exp;
    max = max_number n;
    exp_number = 0;
    residual = residual_count r.residual;
  });
  payload = sense_segment r.sense;
}

-- the target asks for the data of a task up to an end
abbrev pub r2t_pdu : Numbers → Task → Pdu
r2t_pdu n t = record {
  head = head.R2t (record {
    lun = t.command.lun;
    tag = t.tag;
    ttt = t.transfer;
    stat = n.stat;
    exp = n.exp;
    max = max_number n;
    number = predecessor t.asked;
    offset = length t.payload;
    length = t.end - length t.payload;
  });
  payload = [];
}

-- a NOP-Out comes back, with so much of its data as the initiator takes
abbrev pub echo_pdu : Numbers → Tag → List ℕ → Pdu
echo_pdu n tag payload = record {
  head = head.NopIn (record { lun = no_lun; tag = tag; ttt = no_tag; stat = n.stat; exp = n.exp; max = max_number n });
  payload = payload;
}

abbrev pub task_response_pdu : Numbers → Tag → ℕ → Pdu
task_response_pdu n tag response = record {
  head = head.TaskResponse (record { response = response; tag = tag; stat = n.stat; exp = n.exp; max = max_number n });
  payload = [];
}

abbrev pub logout_pdu : Numbers → Tag → Pdu
logout_pdu n tag = record {
  head = head.LogoutResponse (record { response = 0; tag = tag; stat = n.stat; exp = n.exp; max = max_number n; time2wait = 0; time2retain = 0 });
  payload = [];
}

-- a part of a discovery's text; the initiator asks for the next one under transfer tag 1
abbrev pub text_pdu : Numbers → Tag → Bool → Bool → List ℕ → Pdu
text_pdu n tag more unended payload = record {
  head = head.TextResponse (record {
    last = not unended;
    more = more;
    lun = no_lun;
    tag = tag;
    ttt = if unended then 1 else no_tag;
    stat = n.stat;
    exp = n.exp;
    max = max_number n;
  });
  payload = payload;
}
