-- Each row of the table is read back as it was written.
use Rattle.std.proofs.Common.{◌≡◌, None, false, ◌+◌, ◌*◌, ◌^◌, ◌<◌, refl, ap, ◌∙◌, arith}
use Rattle.oi_pdu.specs.Table.{header_at, bad_at, header_of, bad_header, layout, nop_out, scsi_command, task_management, login_request, text_request, data_out, logout_request, nop_in, scsi_response, task_response, login_response, text_response, data_in, logout_response, r2t, async, reject}
use Rattle.oi_pdu.specs.Widths.{EncodableHeader, NopOutWidths, ScsiCommandWidths, TaskManagementWidths, LoginRequestWidths, TextRequestWidths, DataOutWidths, LogoutRequestWidths, NopInWidths, ScsiResponseWidths, TaskResponseWidths, LoginResponseWidths, TextResponseWidths, DataInWidths, LogoutResponseWidths, R2tWidths, AsyncWidths, RejectWidths}
use Rattle.oi_pdu.specs.declared.basic.BasicHeader.{BasicHeader}
use Rattle.oi_pdu.specs.declared.header.Header.{Header}
use Rattle.oi_pdu.specs.declared.header.Header.TheVariants as headers
use Rattle.oi_pdu.specs.declared.header.NopOut.{NopOut}
use Rattle.oi_pdu.specs.declared.header.ScsiCommand.{ScsiCommand}
use Rattle.oi_pdu.specs.declared.header.TaskManagement.{TaskManagement}
use Rattle.oi_pdu.specs.declared.header.LoginRequest.{LoginRequest}
use Rattle.oi_pdu.specs.declared.header.TextRequest.{TextRequest}
use Rattle.oi_pdu.specs.declared.header.DataOut.{DataOut}
use Rattle.oi_pdu.specs.declared.header.LogoutRequest.{LogoutRequest}
use Rattle.oi_pdu.specs.declared.header.NopIn.{NopIn}
use Rattle.oi_pdu.specs.declared.header.ScsiResponse.{ScsiResponse}
use Rattle.oi_pdu.specs.declared.header.TaskResponse.{TaskResponse}
use Rattle.oi_pdu.specs.declared.header.LoginResponse.{LoginResponse}
use Rattle.oi_pdu.specs.declared.header.TextResponse.{TextResponse}
use Rattle.oi_pdu.specs.declared.header.DataIn.{DataIn}
use Rattle.oi_pdu.specs.declared.header.LogoutResponse.{LogoutResponse}
use Rattle.oi_pdu.specs.declared.header.R2t.{R2t}
use Rattle.oi_pdu.specs.declared.header.Async.{Async}
use Rattle.oi_pdu.specs.declared.header.Reject.{Reject}
use Rattle.oi_pdu.proofs.Bits.{opcode_below, immediate_above, command_flags, stage_flags, last_more, last_alone, residual_flags, data_in_flags, seven_below}
use Rattle.oi_pdu.proofs.Words.{FitsPlaces, word0, word4, word8, word12, words_long, high_half, low_half, high_alone, first_byte, second_byte, event_byte, vendor_byte, parameter_half, isid_front, tsih_behind, session_long}
use Rattle.oi_pdu.specs.Table.{names_stage_two}

-- what was written at these places is read as this header
pub record IsSame (b : BasicHeader) (h : Header) : Type 0 where
  pub good : bad_header b ≡ None
  pub head : header_of b ≡ h
  pub places : FitsPlaces b

nop_out_same : (h : NopOut) → NopOutWidths h → IsSame (nop_out h) (headers.NopOut h)
unfolding header_of bad_header
nop_out_same h e = record {
  good = ap (λ op. bad_at op (nop_out h)) (opcode_below h.immediate 0x00 (omega arith));
  head = ap (λ op. header_at op (nop_out h)) (opcode_below h.immediate 0x00 (omega arith)) ∙ rw (immediate_above h.immediate 0x00 (omega arith)) refl;
  places = record {
    tag = e.0.0;
    word20 = e.0.1.0;
    word24 = e.0.1.1.0;
    word28 = e.0.1.1.1.0;
    lun = e.1;
    tail = refl;
  };
}

scsi_command_same : (h : ScsiCommand) → ScsiCommandWidths h → IsSame (scsi_command h) (headers.ScsiCommand h)
unfolding header_of bad_header
scsi_command_same h e = let x = command_flags h.last h.reads h.writes h.attr e.1 in record {
  good = ap (λ op. bad_at op (scsi_command h)) (opcode_below h.immediate 0x01 (omega arith));
  head = ap (λ op. header_at op (scsi_command h)) (opcode_below h.immediate 0x01 (omega arith)) ∙ rw (immediate_above h.immediate 0x01 (omega arith), x.b80, x.b40, x.b20, x.attr_part) refl;
  places = record {
    tag = e.0.0;
    word20 = e.0.1.0;
    word24 = e.0.1.1.0;
    word28 = e.0.1.1.1.0;
    lun = e.2;
    tail = e.3;
  };
}

task_management_same : (h : TaskManagement) → TaskManagementWidths h → IsSame (task_management h) (headers.TaskManagement h)
unfolding header_of bad_header
task_management_same h e = record {
  good = ap (λ op. bad_at op (task_management h)) (opcode_below h.immediate 0x02 (omega arith));
  head = ap (λ op. header_at op (task_management h)) (opcode_below h.immediate 0x02 (omega arith)) ∙ rw (immediate_above h.immediate 0x02 (omega arith), seven_below h.function e.1, word0 h.ref_cmdsn.0 0 0 0 e.0.1.1.1.1.0) refl;
  places = record {
    tag = e.0.0;
    word20 = e.0.1.0;
    word24 = e.0.1.1.0;
    word28 = e.0.1.1.1.0;
    lun = e.2;
    tail = words_long h.ref_cmdsn.0 0 0 0;
  };
}

login_request_same : (h : LoginRequest) → LoginRequestWidths h → names_stage_two h.transit h.csg h.nsg ≡ false → IsSame (login_request h) (headers.LoginRequest h)
unfolding header_of bad_header
login_request_same h e stage = let x = stage_flags h.transit h.more h.csg h.nsg e.2 e.3 in record {
  good = rw (x.b80, x.csg_part, x.nsg_part, stage) refl;
  head = rw (x.b80, x.b40, x.csg_part, x.nsg_part, isid_front h.isid h.tsih e.4, tsih_behind h.isid h.tsih e.4 e.1.0, high_alone h.cid) refl;
  places = record {
    tag = e.0.0;
    word20 = (let h0 : h.cid < 2 ^ 16 = e.1.1.0 in omega arith);
    word24 = e.0.1.0;
    word28 = e.0.1.1.0;
    lun = session_long h.isid h.tsih e.4;
    tail = refl;
  };
}

text_request_same : (h : TextRequest) → TextRequestWidths h → IsSame (text_request h) (headers.TextRequest h)
unfolding header_of bad_header
text_request_same h e = let x = last_more h.last h.more in record {
  good = ap (λ op. bad_at op (text_request h)) (opcode_below h.immediate 0x04 (omega arith));
  head = ap (λ op. header_at op (text_request h)) (opcode_below h.immediate 0x04 (omega arith)) ∙ rw (immediate_above h.immediate 0x04 (omega arith), x.b80, x.b40) refl;
  places = record {
    tag = e.0.0;
    word20 = e.0.1.0;
    word24 = e.0.1.1.0;
    word28 = e.0.1.1.1.0;
    lun = e.1;
    tail = refl;
  };
}

data_out_same : (h : DataOut) → DataOutWidths h → IsSame (data_out h) (headers.DataOut h)
unfolding header_of bad_header
data_out_same h e = let x = last_alone h.last in record {
  good = refl;
  head = rw (x.b80, word4 0 h.number h.offset 0 e.0.1.1.1.0, word8 0 h.number h.offset 0 e.0.1.1.1.1.0) refl;
  places = record {
    tag = e.0.0;
    word20 = e.0.1.0;
    word24 = omega arith;
    word28 = e.0.1.1.0;
    lun = e.1;
    tail = words_long 0 h.number h.offset 0;
  };
}

logout_request_same : (h : LogoutRequest) → LogoutRequestWidths h → IsSame (logout_request h) (headers.LogoutRequest h)
unfolding header_of bad_header
logout_request_same h e = record {
  good = ap (λ op. bad_at op (logout_request h)) (opcode_below h.immediate 0x06 (omega arith));
  head = ap (λ op. header_at op (logout_request h)) (opcode_below h.immediate 0x06 (omega arith)) ∙ rw (immediate_above h.immediate 0x06 (omega arith), seven_below h.reason e.2, high_alone h.cid) refl;
  places = record {
    tag = e.0.0;
    word20 = (let h0 : h.cid < 2 ^ 16 = e.1.0 in omega arith);
    word24 = e.0.1.0;
    word28 = e.0.1.1.0;
    lun = refl;
    tail = refl;
  };
}

nop_in_same : (h : NopIn) → NopInWidths h → IsSame (nop_in h) (headers.NopIn h)
unfolding header_of bad_header
nop_in_same h e = record {
  good = refl;
  head = rw (word0 h.max.0 0 0 0 e.0.1.1.1.1.0) refl;
  places = record {
    tag = e.0.0;
    word20 = e.0.1.0;
    word24 = e.0.1.1.0;
    word28 = e.0.1.1.1.0;
    lun = e.1;
    tail = words_long h.max.0 0 0 0;
  };
}

scsi_response_same : (h : ScsiResponse) → ScsiResponseWidths h → IsSame (scsi_response h) (headers.ScsiResponse h)
unfolding header_of bad_header
scsi_response_same h e = let x = residual_flags h.over h.under in record {
  good = refl;
  head = rw (x.b04, x.b02, word0 h.max.0 h.exp_number 0 h.residual e.0.1.1.1.0, word4 h.max.0 h.exp_number 0 h.residual e.0.1.1.1.1.0, word12 h.max.0 h.exp_number 0 h.residual e.0.1.1.1.1.1.0) refl;
  places = record {
    tag = e.0.0;
    word20 = omega arith;
    word24 = e.0.1.0;
    word28 = e.0.1.1.0;
    lun = refl;
    tail = words_long h.max.0 h.exp_number 0 h.residual;
  };
}

task_response_same : (h : TaskResponse) → TaskResponseWidths h → IsSame (task_response h) (headers.TaskResponse h)
unfolding header_of bad_header
task_response_same h e = record {
  good = refl;
  head = rw (word0 h.max.0 0 0 0 e.0.1.1.1.0) refl;
  places = record {
    tag = e.0.0;
    word20 = omega arith;
    word24 = e.0.1.0;
    word28 = e.0.1.1.0;
    lun = refl;
    tail = words_long h.max.0 0 0 0;
  };
}

login_response_same : (h : LoginResponse) → LoginResponseWidths h → names_stage_two h.transit h.csg h.nsg ≡ false → IsSame (login_response h) (headers.LoginResponse h)
unfolding header_of bad_header
login_response_same h e stage = let x = stage_flags h.transit h.more h.csg h.nsg e.3 e.4 in record {
  good = rw (x.b80, x.csg_part, x.nsg_part, stage) refl;
  head = rw (x.b80, x.b40, x.csg_part, x.nsg_part, isid_front h.isid h.tsih e.5, tsih_behind h.isid h.tsih e.5 e.1.0, word0 h.max.0 (h.class * 2 ^ 24 + h.detail * 2 ^ 16) 0 0 e.0.1.1.1.0, word4 h.max.0 (h.class * 2 ^ 24 + h.detail * 2 ^ 16) 0 0 (let h0 : h.class < 2 ^ 8 = e.2.0 in let h1 : h.detail < 2 ^ 8 = e.2.1.0 in omega arith), first_byte h.class h.detail e.2.1.0, second_byte h.class h.detail e.2.1.0) refl;
  places = record {
    tag = e.0.0;
    word20 = omega arith;
    word24 = e.0.1.0;
    word28 = e.0.1.1.0;
    lun = session_long h.isid h.tsih e.5;
    tail = words_long h.max.0 (h.class * 2 ^ 24 + h.detail * 2 ^ 16) 0 0;
  };
}

text_response_same : (h : TextResponse) → TextResponseWidths h → IsSame (text_response h) (headers.TextResponse h)
unfolding header_of bad_header
text_response_same h e = let x = last_more h.last h.more in record {
  good = refl;
  head = rw (x.b80, x.b40, word0 h.max.0 0 0 0 e.0.1.1.1.1.0) refl;
  places = record {
    tag = e.0.0;
    word20 = e.0.1.0;
    word24 = e.0.1.1.0;
    word28 = e.0.1.1.1.0;
    lun = e.1;
    tail = words_long h.max.0 0 0 0;
  };
}

data_in_same : (h : DataIn) → DataInWidths h → IsSame (data_in h) (headers.DataIn h)
unfolding header_of bad_header
data_in_same h e = let x = data_in_flags h.last h.over h.under h.ends in record {
  good = refl;
  head = rw (x.b80, x.b04, x.b02, x.b01, word0 h.max.0 h.number h.offset h.residual e.0.1.1.1.1.0, word4 h.max.0 h.number h.offset h.residual e.0.1.1.1.1.1.0, word8 h.max.0 h.number h.offset h.residual e.0.1.1.1.1.1.1.0, word12 h.max.0 h.number h.offset h.residual e.0.1.1.1.1.1.1.1.0) refl;
  places = record {
    tag = e.0.0;
    word20 = e.0.1.0;
    word24 = e.0.1.1.0;
    word28 = e.0.1.1.1.0;
    lun = e.2;
    tail = words_long h.max.0 h.number h.offset h.residual;
  };
}

logout_response_same : (h : LogoutResponse) → LogoutResponseWidths h → IsSame (logout_response h) (headers.LogoutResponse h)
unfolding header_of bad_header
logout_response_same h e = record {
  good = refl;
  head = rw (word0 h.max.0 0 (h.time2wait * 2 ^ 16 + h.time2retain) 0 e.0.1.1.1.0, word8 h.max.0 0 (h.time2wait * 2 ^ 16 + h.time2retain) 0 (let h0 : h.time2wait < 2 ^ 16 = e.1.0 in let h1 : h.time2retain < 2 ^ 16 = e.1.1.0 in omega arith), high_half h.time2wait h.time2retain e.1.1.0, low_half h.time2wait h.time2retain e.1.1.0) refl;
  places = record {
    tag = e.0.0;
    word20 = omega arith;
    word24 = e.0.1.0;
    word28 = e.0.1.1.0;
    lun = refl;
    tail = words_long h.max.0 0 (h.time2wait * 2 ^ 16 + h.time2retain) 0;
  };
}

r2t_same : (h : R2t) → R2tWidths h → IsSame (r2t h) (headers.R2t h)
unfolding header_of bad_header
r2t_same h e = record {
  good = refl;
  head = rw (word0 h.max.0 h.number h.offset h.length e.0.1.1.1.1.0, word4 h.max.0 h.number h.offset h.length e.0.1.1.1.1.1.0, word8 h.max.0 h.number h.offset h.length e.0.1.1.1.1.1.1.0, word12 h.max.0 h.number h.offset h.length e.0.1.1.1.1.1.1.1.0) refl;
  places = record {
    tag = e.0.0;
    word20 = e.0.1.0;
    word24 = e.0.1.1.0;
    word28 = e.0.1.1.1.0;
    lun = e.1;
    tail = words_long h.max.0 h.number h.offset h.length;
  };
}

async_same : (h : Async) → AsyncWidths h → IsSame (async h) (headers.Async h)
unfolding header_of bad_header
async_same h e = record {
  good = refl;
  head = rw (word0 h.max.0 (h.event * 2 ^ 24 + h.vendor * 2 ^ 16 + h.first) (h.second * 2 ^ 16 + h.third) 0 e.0.1.1.0, word4 h.max.0 (h.event * 2 ^ 24 + h.vendor * 2 ^ 16 + h.first) (h.second * 2 ^ 16 + h.third) 0 (let h0 : h.event < 2 ^ 8 = e.2.0 in let h1 : h.vendor < 2 ^ 8 = e.2.1.0 in let h2 : h.first < 2 ^ 16 = e.1.0 in omega arith), event_byte h.event h.vendor h.first e.2.1.0 e.1.0, vendor_byte h.event h.vendor h.first e.2.1.0 e.1.0, parameter_half h.event h.vendor h.first e.1.0, word8 h.max.0 (h.event * 2 ^ 24 + h.vendor * 2 ^ 16 + h.first) (h.second * 2 ^ 16 + h.third) 0 (let h0 : h.second < 2 ^ 16 = e.1.1.0 in let h1 : h.third < 2 ^ 16 = e.1.1.1.0 in omega arith), high_half h.second h.third e.1.1.1.0, low_half h.second h.third e.1.1.1.0) refl;
  places = record {
    tag = omega arith;
    word20 = omega arith;
    word24 = e.0.0;
    word28 = e.0.1.0;
    lun = e.3;
    tail = words_long h.max.0 (h.event * 2 ^ 24 + h.vendor * 2 ^ 16 + h.first) (h.second * 2 ^ 16 + h.third) 0;
  };
}

reject_same : (h : Reject) → RejectWidths h → IsSame (reject h) (headers.Reject h)
unfolding header_of bad_header
reject_same h e = record {
  good = refl;
  head = rw (word0 h.max.0 0 0 0 e.0.1.1.0) refl;
  places = record {
    tag = omega arith;
    word20 = omega arith;
    word24 = e.0.0;
    word28 = e.0.1.0;
    lun = refl;
    tail = words_long h.max.0 0 0 0;
  };
}

pub header_same : (h : Header) → EncodableHeader h → IsSame (layout h) h
unfolding layout
header_same (headers.NopOut h) e = nop_out_same h e
header_same (headers.ScsiCommand h) e = scsi_command_same h e
header_same (headers.TaskManagement h) e = task_management_same h e
header_same (headers.LoginRequest h) e = login_request_same h e.0 e.1
header_same (headers.TextRequest h) e = text_request_same h e
header_same (headers.DataOut h) e = data_out_same h e
header_same (headers.LogoutRequest h) e = logout_request_same h e
header_same (headers.NopIn h) e = nop_in_same h e
header_same (headers.ScsiResponse h) e = scsi_response_same h e
header_same (headers.TaskResponse h) e = task_response_same h e
header_same (headers.LoginResponse h) e = login_response_same h e.0 e.1
header_same (headers.TextResponse h) e = text_response_same h e
header_same (headers.DataIn h) e = data_in_same h e
header_same (headers.LogoutResponse h) e = logout_response_same h e
header_same (headers.R2t h) e = r2t_same h e
header_same (headers.Async h) e = async_same h e
header_same (headers.Reject h) e = reject_same h e
