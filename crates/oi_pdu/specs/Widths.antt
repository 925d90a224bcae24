-- Which headers can be encoded: each field fits its width, and no login PDU names stage 2 (RFC 7143, section 11).
use Rattle.std.specs.Prelude.{ℕ, List, [], ◌∷◌, ◌<◌, ◌^◌, ◌≡◌, false, length}
use Rattle.oi_pdu.specs.Table.{names_stage_two}
use Rattle.oi_pdu.specs.declared.header.Header.{Header}
use Rattle.oi_pdu.specs.declared.header.Header.TheVariants as headers
use Rattle.oi_pdu.specs.declared.header.NopOut.{NopOut}
use Rattle.oi_pdu.specs.declared.header.ScsiCommand.{ScsiCommand}
use Rattle.oi_pdu.specs.declared.header.TaskManagement.{TaskManagement}
use Rattle.oi_pdu.specs.declared.header.LoginRequest.{LoginRequest}
use Rattle.oi_pdu.specs.declared.header.TextRequest.{TextRequest}
use Rattle.oi_pdu.specs.declared.header.DataOut.{DataOut}
use Rattle.oi_pdu.specs.declared.header.LogoutRequest.{LogoutRequest}
use Rattle.oi_pdu.specs.declared.header.NopIn.{NopIn}
use Rattle.oi_pdu.specs.declared.header.ScsiResponse.{ScsiResponse}
use Rattle.oi_pdu.specs.declared.header.TaskResponse.{TaskResponse}
use Rattle.oi_pdu.specs.declared.header.LoginResponse.{LoginResponse}
use Rattle.oi_pdu.specs.declared.header.TextResponse.{TextResponse}
use Rattle.oi_pdu.specs.declared.header.DataIn.{DataIn}
use Rattle.oi_pdu.specs.declared.header.LogoutResponse.{LogoutResponse}
use Rattle.oi_pdu.specs.declared.header.R2t.{R2t}
use Rattle.oi_pdu.specs.declared.header.Async.{Async}
use Rattle.oi_pdu.specs.declared.header.Reject.{Reject}

-- each number is below the limit
abbrev pub AreBelow : ℕ → List ℕ → Type 0
AreBelow limit [] = Unit {0}
AreBelow limit (x ∷ xs) = (x < limit) × AreBelow limit xs

abbrev pub NopOutWidths : NopOut → Type 0
NopOutWidths h =
    AreBelow (2 ^ 32) (h.tag.0 ∷ h.ttt ∷ h.cmdsn.0 ∷ h.exp_stat.0 ∷ [])
    × (length h.lun ≡ 8)

abbrev pub ScsiCommandWidths : ScsiCommand → Type 0
ScsiCommandWidths h =
    AreBelow (2 ^ 32) (h.tag.0 ∷ h.length ∷ h.cmdsn.0 ∷ h.exp_stat.0 ∷ [])
    × (h.attr < 8)
    × (length h.lun ≡ 8)
    × (length h.cdb ≡ 16)

abbrev pub TaskManagementWidths : TaskManagement → Type 0
TaskManagementWidths h =
    AreBelow (2 ^ 32) (h.tag.0 ∷ h.referenced.0 ∷ h.cmdsn.0 ∷ h.exp_stat.0 ∷ h.ref_cmdsn.0 ∷ [])
    × (h.function < 128)
    × (length h.lun ≡ 8)

abbrev pub LoginRequestWidths : LoginRequest → Type 0
LoginRequestWidths h =
    AreBelow (2 ^ 32) (h.tag.0 ∷ h.cmdsn.0 ∷ h.exp_stat.0 ∷ [])
    × AreBelow (2 ^ 16) (h.tsih ∷ h.cid ∷ [])
    × (h.csg < 4)
    × (h.nsg < 4)
    × (length h.isid ≡ 6)

abbrev pub TextRequestWidths : TextRequest → Type 0
TextRequestWidths h =
    AreBelow (2 ^ 32) (h.tag.0 ∷ h.ttt ∷ h.cmdsn.0 ∷ h.exp_stat.0 ∷ [])
    × (length h.lun ≡ 8)

abbrev pub DataOutWidths : DataOut → Type 0
DataOutWidths h =
    AreBelow (2 ^ 32) (h.tag.0 ∷ h.ttt ∷ h.exp_stat.0 ∷ h.number ∷ h.offset ∷ [])
    × (length h.lun ≡ 8)

abbrev pub LogoutRequestWidths : LogoutRequest → Type 0
LogoutRequestWidths h =
    AreBelow (2 ^ 32) (h.tag.0 ∷ h.cmdsn.0 ∷ h.exp_stat.0 ∷ [])
    × AreBelow (2 ^ 16) (h.cid ∷ [])
    × (h.reason < 128)

abbrev pub NopInWidths : NopIn → Type 0
NopInWidths h =
    AreBelow (2 ^ 32) (h.tag.0 ∷ h.ttt ∷ h.stat.0 ∷ h.exp.0 ∷ h.max.0 ∷ [])
    × (length h.lun ≡ 8)

abbrev pub ScsiResponseWidths : ScsiResponse → Type 0
ScsiResponseWidths h =
    AreBelow (2 ^ 32) (h.tag.0 ∷ h.stat.0 ∷ h.exp.0 ∷ h.max.0 ∷ h.exp_number ∷ h.residual ∷ [])
    × AreBelow (2 ^ 8) (h.response ∷ h.status ∷ [])

abbrev pub TaskResponseWidths : TaskResponse → Type 0
TaskResponseWidths h =
    AreBelow (2 ^ 32) (h.tag.0 ∷ h.stat.0 ∷ h.exp.0 ∷ h.max.0 ∷ [])
    × AreBelow (2 ^ 8) (h.response ∷ [])

abbrev pub LoginResponseWidths : LoginResponse → Type 0
LoginResponseWidths h =
    AreBelow (2 ^ 32) (h.tag.0 ∷ h.stat.0 ∷ h.exp.0 ∷ h.max.0 ∷ [])
    × AreBelow (2 ^ 16) (h.tsih ∷ [])
    × AreBelow (2 ^ 8) (h.class ∷ h.detail ∷ [])
    × (h.csg < 4)
    × (h.nsg < 4)
    × (length h.isid ≡ 6)

abbrev pub TextResponseWidths : TextResponse → Type 0
TextResponseWidths h =
    AreBelow (2 ^ 32) (h.tag.0 ∷ h.ttt ∷ h.stat.0 ∷ h.exp.0 ∷ h.max.0 ∷ [])
    × (length h.lun ≡ 8)

abbrev pub DataInWidths : DataIn → Type 0
DataInWidths h =
    AreBelow (2 ^ 32) (h.tag.0 ∷ h.ttt ∷ h.stat.0 ∷ h.exp.0 ∷ h.max.0 ∷ h.number ∷ h.offset ∷ h.residual ∷ [])
    × AreBelow (2 ^ 8) (h.status ∷ [])
    × (length h.lun ≡ 8)

abbrev pub LogoutResponseWidths : LogoutResponse → Type 0
LogoutResponseWidths h =
    AreBelow (2 ^ 32) (h.tag.0 ∷ h.stat.0 ∷ h.exp.0 ∷ h.max.0 ∷ [])
    × AreBelow (2 ^ 16) (h.time2wait ∷ h.time2retain ∷ [])
    × AreBelow (2 ^ 8) (h.response ∷ [])

abbrev pub R2tWidths : R2t → Type 0
R2tWidths h =
    AreBelow (2 ^ 32) (h.tag.0 ∷ h.ttt ∷ h.stat.0 ∷ h.exp.0 ∷ h.max.0 ∷ h.number ∷ h.offset ∷ h.length ∷ [])
    × (length h.lun ≡ 8)

abbrev pub AsyncWidths : Async → Type 0
AsyncWidths h =
    AreBelow (2 ^ 32) (h.stat.0 ∷ h.exp.0 ∷ h.max.0 ∷ [])
    × AreBelow (2 ^ 16) (h.first ∷ h.second ∷ h.third ∷ [])
    × AreBelow (2 ^ 8) (h.event ∷ h.vendor ∷ [])
    × (length h.lun ≡ 8)

abbrev pub RejectWidths : Reject → Type 0
RejectWidths h =
    AreBelow (2 ^ 32) (h.stat.0 ∷ h.exp.0 ∷ h.max.0 ∷ [])
    × AreBelow (2 ^ 8) (h.reason ∷ [])

-- each field fits its width, and no login PDU names stage 2
abbrev pub EncodableHeader : Header → Type 0
EncodableHeader (headers.NopOut h) = NopOutWidths h
EncodableHeader (headers.ScsiCommand h) = ScsiCommandWidths h
EncodableHeader (headers.TaskManagement h) = TaskManagementWidths h
EncodableHeader (headers.LoginRequest h) = LoginRequestWidths h × (names_stage_two h.transit h.csg h.nsg ≡ false)
EncodableHeader (headers.TextRequest h) = TextRequestWidths h
EncodableHeader (headers.DataOut h) = DataOutWidths h
EncodableHeader (headers.LogoutRequest h) = LogoutRequestWidths h
EncodableHeader (headers.NopIn h) = NopInWidths h
EncodableHeader (headers.ScsiResponse h) = ScsiResponseWidths h
EncodableHeader (headers.TaskResponse h) = TaskResponseWidths h
EncodableHeader (headers.LoginResponse h) = LoginResponseWidths h × (names_stage_two h.transit h.csg h.nsg ≡ false)
EncodableHeader (headers.TextResponse h) = TextResponseWidths h
EncodableHeader (headers.DataIn h) = DataInWidths h
EncodableHeader (headers.LogoutResponse h) = LogoutResponseWidths h
EncodableHeader (headers.R2t h) = R2tWidths h
EncodableHeader (headers.Async h) = AsyncWidths h
EncodableHeader (headers.Reject h) = RejectWidths h
