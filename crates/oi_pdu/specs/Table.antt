-- The table of PDU formats (RFC 7143, section 11): where each field of a header stands, written and read, one row a
-- variant and direction. Byte 1 holds the flags; every other place that no field takes is zero.
use Rattle.std.specs.Prelude.{ℕ, Bool, Option, Some, None, ◌+◌, ◌*◌, ◌/◌, ◌%◌, ◌^◌, ◌==◌, ◌++◌, ◌||◌, ◌&&◌, nat_lt, take, replicate, if◌then◌else◌}
use Rattle.std.specs.Int.{w16, to_be_bytes}
use Rattle.oi_base.specs.TagLayout.{reserved_tag}
use Rattle.oi_pdu.specs.Segments.{flag, is_set, word, half, words}
use Rattle.oi_pdu.specs.declared.basic.BasicHeader.{BasicHeader}
use Rattle.oi_pdu.specs.declared.header.Header.{Header}
use Rattle.oi_pdu.specs.declared.header.Header.TheVariants as headers
use Rattle.oi_pdu.specs.declared.header.NopOut.{NopOut}
use Rattle.oi_pdu.specs.declared.header.ScsiCommand.{ScsiCommand}
use Rattle.oi_pdu.specs.declared.header.TaskManagement.{TaskManagement}
use Rattle.oi_pdu.specs.declared.header.LoginRequest.{LoginRequest}
use Rattle.oi_pdu.specs.declared.header.TextRequest.{TextRequest}
use Rattle.oi_pdu.specs.declared.header.DataOut.{DataOut}
use Rattle.oi_pdu.specs.declared.header.LogoutRequest.{LogoutRequest}
use Rattle.oi_pdu.specs.declared.header.NopIn.{NopIn}
use Rattle.oi_pdu.specs.declared.header.ScsiResponse.{ScsiResponse}
use Rattle.oi_pdu.specs.declared.header.TaskResponse.{TaskResponse}
use Rattle.oi_pdu.specs.declared.header.LoginResponse.{LoginResponse}
use Rattle.oi_pdu.specs.declared.header.TextResponse.{TextResponse}
use Rattle.oi_pdu.specs.declared.header.DataIn.{DataIn}
use Rattle.oi_pdu.specs.declared.header.LogoutResponse.{LogoutResponse}
use Rattle.oi_pdu.specs.declared.header.R2t.{R2t}
use Rattle.oi_pdu.specs.declared.header.Async.{Async}
use Rattle.oi_pdu.specs.declared.header.Reject.{Reject}

-- NOP-Out, opcode 00 (RFC 7143, section 11.18)
abbrev pub nop_out : NopOut → BasicHeader
nop_out h = record {
  first = flag h.immediate 0x40 + 0x00;
  flags = 0x80;
  two = 0;
  three = 0;
  lun = h.lun;
  tag = h.tag.0;
  word20 = h.ttt;
  word24 = h.cmdsn.0;
  word28 = h.exp_stat.0;
  tail = replicate 16 0;
}

abbrev pub nop_out_of : BasicHeader → NopOut
nop_out_of b = record {
  immediate = is_set b.first 0x40;
  lun = b.lun;
  tag = record { 0 = b.tag };
  ttt = b.word20;
  cmdsn = record { 0 = b.word24 };
  exp_stat = record { 0 = b.word28 };
}

-- SCSI Command, opcode 01 (RFC 7143, section 11.3)
abbrev pub scsi_command : ScsiCommand → BasicHeader
scsi_command h = record {
  first = flag h.immediate 0x40 + 0x01;
  flags = flag h.last 0x80 + flag h.reads 0x40 + flag h.writes 0x20 + h.attr % 8;
  two = 0;
  three = 0;
  lun = h.lun;
  tag = h.tag.0;
  word20 = h.length;
  word24 = h.cmdsn.0;
  word28 = h.exp_stat.0;
  tail = h.cdb;
}

abbrev pub scsi_command_of : BasicHeader → ScsiCommand
scsi_command_of b = record {
  immediate = is_set b.first 0x40;
  last = is_set b.flags 0x80;
  reads = is_set b.flags 0x40;
  writes = is_set b.flags 0x20;
  attr = b.flags % 8;
  lun = b.lun;
  tag = record { 0 = b.tag };
  length = b.word20;
  cmdsn = record { 0 = b.word24 };
  exp_stat = record { 0 = b.word28 };
  cdb = b.tail;
}

-- Task Management Function Request, opcode 02 (RFC 7143, section 11.5)
abbrev pub task_management : TaskManagement → BasicHeader
task_management h = record {
  first = flag h.immediate 0x40 + 0x02;
  flags = 0x80 + h.function % 128;
  two = 0;
  three = 0;
  lun = h.lun;
  tag = h.tag.0;
  word20 = h.referenced.0;
  word24 = h.cmdsn.0;
  word28 = h.exp_stat.0;
  tail = words h.ref_cmdsn.0 0 0 0;
}

abbrev pub task_management_of : BasicHeader → TaskManagement
task_management_of b = record {
  immediate = is_set b.first 0x40;
  function = b.flags % 128;
  lun = b.lun;
  tag = record { 0 = b.tag };
  referenced = record { 0 = b.word20 };
  cmdsn = record { 0 = b.word24 };
  exp_stat = record { 0 = b.word28 };
  ref_cmdsn = record { 0 = word b.tail 0 };
}

-- Login Request, opcode 03 (RFC 7143, section 11.12)
abbrev pub login_request : LoginRequest → BasicHeader
login_request h = record {
  first = 0x43;
  flags = flag h.transit 0x80 + flag h.more 0x40 + h.csg % 4 * 4 + h.nsg % 4;
  two = 0;
  three = 0;
  lun = h.isid ++ to_be_bytes w16 h.tsih;
  tag = h.tag.0;
  word20 = h.cid * 2 ^ 16;
  word24 = h.cmdsn.0;
  word28 = h.exp_stat.0;
  tail = replicate 16 0;
}

abbrev pub login_request_of : BasicHeader → LoginRequest
login_request_of b = record {
  transit = is_set b.flags 0x80;
  more = is_set b.flags 0x40;
  csg = b.flags / 4 % 4;
  nsg = b.flags % 4;
  isid = take 6 b.lun;
  tsih = half b.lun 6;
  tag = record { 0 = b.tag };
  cid = b.word20 / 2 ^ 16;
  cmdsn = record { 0 = b.word24 };
  exp_stat = record { 0 = b.word28 };
}

-- Text Request, opcode 04 (RFC 7143, section 11.10)
abbrev pub text_request : TextRequest → BasicHeader
text_request h = record {
  first = flag h.immediate 0x40 + 0x04;
  flags = flag h.last 0x80 + flag h.more 0x40;
  two = 0;
  three = 0;
  lun = h.lun;
  tag = h.tag.0;
  word20 = h.ttt;
  word24 = h.cmdsn.0;
  word28 = h.exp_stat.0;
  tail = replicate 16 0;
}

abbrev pub text_request_of : BasicHeader → TextRequest
text_request_of b = record {
  immediate = is_set b.first 0x40;
  last = is_set b.flags 0x80;
  more = is_set b.flags 0x40;
  lun = b.lun;
  tag = record { 0 = b.tag };
  ttt = b.word20;
  cmdsn = record { 0 = b.word24 };
  exp_stat = record { 0 = b.word28 };
}

-- SCSI Data-Out, opcode 05 (RFC 7143, section 11.7)
abbrev pub data_out : DataOut → BasicHeader
data_out h = record {
  first = 0x05;
  flags = flag h.last 0x80;
  two = 0;
  three = 0;
  lun = h.lun;
  tag = h.tag.0;
  word20 = h.ttt;
  word24 = 0;
  word28 = h.exp_stat.0;
  tail = words 0 h.number h.offset 0;
}

abbrev pub data_out_of : BasicHeader → DataOut
data_out_of b = record {
  last = is_set b.flags 0x80;
  lun = b.lun;
  tag = record { 0 = b.tag };
  ttt = b.word20;
  exp_stat = record { 0 = b.word28 };
  number = word b.tail 4;
  offset = word b.tail 8;
}

-- Logout Request, opcode 06 (RFC 7143, section 11.14)
abbrev pub logout_request : LogoutRequest → BasicHeader
logout_request h = record {
  first = flag h.immediate 0x40 + 0x06;
  flags = 0x80 + h.reason % 128;
  two = 0;
  three = 0;
  lun = replicate 8 0;
  tag = h.tag.0;
  word20 = h.cid * 2 ^ 16;
  word24 = h.cmdsn.0;
  word28 = h.exp_stat.0;
  tail = replicate 16 0;
}

abbrev pub logout_request_of : BasicHeader → LogoutRequest
logout_request_of b = record {
  immediate = is_set b.first 0x40;
  reason = b.flags % 128;
  tag = record { 0 = b.tag };
  cid = b.word20 / 2 ^ 16;
  cmdsn = record { 0 = b.word24 };
  exp_stat = record { 0 = b.word28 };
}

-- NOP-In, opcode 20 (RFC 7143, section 11.19)
abbrev pub nop_in : NopIn → BasicHeader
nop_in h = record {
  first = 0x20;
  flags = 0x80;
  two = 0;
  three = 0;
  lun = h.lun;
  tag = h.tag.0;
  word20 = h.ttt;
  word24 = h.stat.0;
  word28 = h.exp.0;
  tail = words h.max.0 0 0 0;
}

abbrev pub nop_in_of : BasicHeader → NopIn
nop_in_of b = record {
  lun = b.lun;
  tag = record { 0 = b.tag };
  ttt = b.word20;
  stat = record { 0 = b.word24 };
  exp = record { 0 = b.word28 };
  max = record { 0 = word b.tail 0 };
}

-- SCSI Response, opcode 21 (RFC 7143, section 11.4)
abbrev pub scsi_response : ScsiResponse → BasicHeader
scsi_response h = record {
  first = 0x21;
  flags = 0x80 + flag h.over 0x04 + flag h.under 0x02;
  two = h.response;
  three = h.status;
  lun = replicate 8 0;
  tag = h.tag.0;
  word20 = 0;
  word24 = h.stat.0;
  word28 = h.exp.0;
  tail = words h.max.0 h.exp_number 0 h.residual;
}

abbrev pub scsi_response_of : BasicHeader → ScsiResponse
scsi_response_of b = record {
  over = is_set b.flags 0x04;
  under = is_set b.flags 0x02;
  response = b.two;
  status = b.three;
  tag = record { 0 = b.tag };
  stat = record { 0 = b.word24 };
  exp = record { 0 = b.word28 };
  max = record { 0 = word b.tail 0 };
  exp_number = word b.tail 4;
  residual = word b.tail 12;
}

-- Task Management Function Response, opcode 22 (RFC 7143, section 11.6)
abbrev pub task_response : TaskResponse → BasicHeader
task_response h = record {
  first = 0x22;
  flags = 0x80;
  two = h.response;
  three = 0;
  lun = replicate 8 0;
  tag = h.tag.0;
  word20 = 0;
  word24 = h.stat.0;
  word28 = h.exp.0;
  tail = words h.max.0 0 0 0;
}

abbrev pub task_response_of : BasicHeader → TaskResponse
task_response_of b = record {
  response = b.two;
  tag = record { 0 = b.tag };
  stat = record { 0 = b.word24 };
  exp = record { 0 = b.word28 };
  max = record { 0 = word b.tail 0 };
}

-- Login Response, opcode 23 (RFC 7143, section 11.13)
abbrev pub login_response : LoginResponse → BasicHeader
login_response h = record {
  first = 0x23;
  flags = flag h.transit 0x80 + flag h.more 0x40 + h.csg % 4 * 4 + h.nsg % 4;
  two = 0;
  three = 0;
  lun = h.isid ++ to_be_bytes w16 h.tsih;
  tag = h.tag.0;
  word20 = 0;
  word24 = h.stat.0;
  word28 = h.exp.0;
  tail = words h.max.0 (h.class * 2 ^ 24 + h.detail * 2 ^ 16) 0 0;
}

abbrev pub login_response_of : BasicHeader → LoginResponse
login_response_of b = record {
  transit = is_set b.flags 0x80;
  more = is_set b.flags 0x40;
  csg = b.flags / 4 % 4;
  nsg = b.flags % 4;
  isid = take 6 b.lun;
  tsih = half b.lun 6;
  tag = record { 0 = b.tag };
  stat = record { 0 = b.word24 };
  exp = record { 0 = b.word28 };
  max = record { 0 = word b.tail 0 };
  class = word b.tail 4 / 2 ^ 24;
  detail = word b.tail 4 / 2 ^ 16 % 2 ^ 8;
}

-- Text Response, opcode 24 (RFC 7143, section 11.11)
abbrev pub text_response : TextResponse → BasicHeader
text_response h = record {
  first = 0x24;
  flags = flag h.last 0x80 + flag h.more 0x40;
  two = 0;
  three = 0;
  lun = h.lun;
  tag = h.tag.0;
  word20 = h.ttt;
  word24 = h.stat.0;
  word28 = h.exp.0;
  tail = words h.max.0 0 0 0;
}

abbrev pub text_response_of : BasicHeader → TextResponse
text_response_of b = record {
  last = is_set b.flags 0x80;
  more = is_set b.flags 0x40;
  lun = b.lun;
  tag = record { 0 = b.tag };
  ttt = b.word20;
  stat = record { 0 = b.word24 };
  exp = record { 0 = b.word28 };
  max = record { 0 = word b.tail 0 };
}

-- SCSI Data-In, opcode 25 (RFC 7143, section 11.7)
abbrev pub data_in : DataIn → BasicHeader
data_in h = record {
  first = 0x25;
  flags = flag h.last 0x80 + flag h.over 0x04 + flag h.under 0x02 + flag h.ends 0x01;
  two = 0;
  three = h.status;
  lun = h.lun;
  tag = h.tag.0;
  word20 = h.ttt;
  word24 = h.stat.0;
  word28 = h.exp.0;
  tail = words h.max.0 h.number h.offset h.residual;
}

abbrev pub data_in_of : BasicHeader → DataIn
data_in_of b = record {
  last = is_set b.flags 0x80;
  over = is_set b.flags 0x04;
  under = is_set b.flags 0x02;
  ends = is_set b.flags 0x01;
  status = b.three;
  lun = b.lun;
  tag = record { 0 = b.tag };
  ttt = b.word20;
  stat = record { 0 = b.word24 };
  exp = record { 0 = b.word28 };
  max = record { 0 = word b.tail 0 };
  number = word b.tail 4;
  offset = word b.tail 8;
  residual = word b.tail 12;
}

-- Logout Response, opcode 26 (RFC 7143, section 11.15)
abbrev pub logout_response : LogoutResponse → BasicHeader
logout_response h = record {
  first = 0x26;
  flags = 0x80;
  two = h.response;
  three = 0;
  lun = replicate 8 0;
  tag = h.tag.0;
  word20 = 0;
  word24 = h.stat.0;
  word28 = h.exp.0;
  tail = words h.max.0 0 (h.time2wait * 2 ^ 16 + h.time2retain) 0;
}

abbrev pub logout_response_of : BasicHeader → LogoutResponse
logout_response_of b = record {
  response = b.two;
  tag = record { 0 = b.tag };
  stat = record { 0 = b.word24 };
  exp = record { 0 = b.word28 };
  max = record { 0 = word b.tail 0 };
  time2wait = word b.tail 8 / 2 ^ 16;
  time2retain = word b.tail 8 % 2 ^ 16;
}

-- Ready To Transfer, opcode 31 (RFC 7143, section 11.8)
abbrev pub r2t : R2t → BasicHeader
r2t h = record {
  first = 0x31;
  flags = 0x80;
  two = 0;
  three = 0;
  lun = h.lun;
  tag = h.tag.0;
  word20 = h.ttt;
  word24 = h.stat.0;
  word28 = h.exp.0;
  tail = words h.max.0 h.number h.offset h.length;
}

abbrev pub r2t_of : BasicHeader → R2t
r2t_of b = record {
  lun = b.lun;
  tag = record { 0 = b.tag };
  ttt = b.word20;
  stat = record { 0 = b.word24 };
  exp = record { 0 = b.word28 };
  max = record { 0 = word b.tail 0 };
  number = word b.tail 4;
  offset = word b.tail 8;
  length = word b.tail 12;
}

-- Asynchronous Message, opcode 32 (RFC 7143, section 11.9)
abbrev pub async : Async → BasicHeader
async h = record {
  first = 0x32;
  flags = 0x80;
  two = 0;
  three = 0;
  lun = h.lun;
  tag = reserved_tag;
  word20 = 0;
  word24 = h.stat.0;
  word28 = h.exp.0;
  tail = words h.max.0 (h.event * 2 ^ 24 + h.vendor * 2 ^ 16 + h.first) (h.second * 2 ^ 16 + h.third) 0;
}

abbrev pub async_of : BasicHeader → Async
async_of b = record {
  lun = b.lun;
  stat = record { 0 = b.word24 };
  exp = record { 0 = b.word28 };
  max = record { 0 = word b.tail 0 };
  event = word b.tail 4 / 2 ^ 24;
  vendor = word b.tail 4 / 2 ^ 16 % 2 ^ 8;
  first = word b.tail 4 % 2 ^ 16;
  second = word b.tail 8 / 2 ^ 16;
  third = word b.tail 8 % 2 ^ 16;
}

-- Reject, opcode 3f (RFC 7143, section 11.17)
abbrev pub reject : Reject → BasicHeader
reject h = record {
  first = 0x3f;
  flags = 0x80;
  two = h.reason;
  three = 0;
  lun = replicate 8 0;
  tag = reserved_tag;
  word20 = 0;
  word24 = h.stat.0;
  word28 = h.exp.0;
  tail = words h.max.0 0 0 0;
}

abbrev pub reject_of : BasicHeader → Reject
reject_of b = record {
  reason = b.two;
  stat = record { 0 = b.word24 };
  exp = record { 0 = b.word28 };
  max = record { 0 = word b.tail 0 };
}

-- the places of a header
unfoldable pub layout : Header → BasicHeader
layout (headers.NopOut h) = nop_out h
layout (headers.ScsiCommand h) = scsi_command h
layout (headers.TaskManagement h) = task_management h
layout (headers.LoginRequest h) = login_request h
layout (headers.TextRequest h) = text_request h
layout (headers.DataOut h) = data_out h
layout (headers.LogoutRequest h) = logout_request h
layout (headers.NopIn h) = nop_in h
layout (headers.ScsiResponse h) = scsi_response h
layout (headers.TaskResponse h) = task_response h
layout (headers.LoginResponse h) = login_response h
layout (headers.TextResponse h) = text_response h
layout (headers.DataIn h) = data_in h
layout (headers.LogoutResponse h) = logout_response h
layout (headers.R2t h) = r2t h
layout (headers.Async h) = async h
layout (headers.Reject h) = reject h

-- the header with this opcode at these places; of the good opcodes the last line has 3f alone
abbrev pub header_at : ℕ → BasicHeader → Header
header_at op b =
    if op == 0x00 then headers.NopOut (nop_out_of b)
    else (if op == 0x01 then headers.ScsiCommand (scsi_command_of b)
    else (if op == 0x02 then headers.TaskManagement (task_management_of b)
    else (if op == 0x03 then headers.LoginRequest (login_request_of b)
    else (if op == 0x04 then headers.TextRequest (text_request_of b)
    else (if op == 0x05 then headers.DataOut (data_out_of b)
    else (if op == 0x06 then headers.LogoutRequest (logout_request_of b)
    else (if op == 0x20 then headers.NopIn (nop_in_of b)
    else (if op == 0x21 then headers.ScsiResponse (scsi_response_of b)
    else (if op == 0x22 then headers.TaskResponse (task_response_of b)
    else (if op == 0x23 then headers.LoginResponse (login_response_of b)
    else (if op == 0x24 then headers.TextResponse (text_response_of b)
    else (if op == 0x25 then headers.DataIn (data_in_of b)
    else (if op == 0x26 then headers.LogoutResponse (logout_response_of b)
    else (if op == 0x31 then headers.R2t (r2t_of b)
    else (if op == 0x32 then headers.Async (async_of b)
    else headers.Reject (reject_of b))))))))))))))))

-- the header at these places, where it is a good one
unfoldable pub header_of : BasicHeader → Header
header_of b = header_at (b.first % 0x40) b

-- the opcodes of the table
abbrev pub is_opcode : ℕ → Bool
is_opcode op =
    nat_lt op 0x07 || (nat_lt 0x1f op && nat_lt op 0x27) || op == 0x31 || op == 0x32 || op == 0x3f

-- a login PDU names stage 2, which is not defined; the next stage counts only with T set (RFC 7143, section 11.12)
abbrev pub names_stage_two : Bool → ℕ → ℕ → Bool
names_stage_two transit csg nsg = csg == 2 || (transit && nsg == 2)

-- what makes a header bad: 0 for an opcode outside the table, 1 for stage 2 in a login PDU
abbrev pub bad_at : ℕ → BasicHeader → Option ℕ
bad_at op b =
    if op == 0x03 || op == 0x23
    then (if names_stage_two (is_set b.flags 0x80) (b.flags / 4 % 4) (b.flags % 4) then Some 1 else None)
    else (if is_opcode op then None else Some 0)

unfoldable pub bad_header : BasicHeader → Option ℕ
bad_header b = bad_at (b.first % 0x40) b
