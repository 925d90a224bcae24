-- What an event makes of one submission. k is the number of tries used, with the present one where the submission is
-- live; a is the number of tries allowed.
use Rattle.std.specs.Prelude.{ℕ, Bool, true, false, ◌-◌, ◌==◌, ◌&&◌, ◌||◌, not, nat_lt, if◌then◌else◌}
use Rattle.oi_recovery.specs.declared.host_code.HostCode.TheVariants.{NoConnect, BadTarget, Abort, Error, Reset, Disrupted, FailFast}
use Rattle.oi_recovery.specs.declared.hit.Aim.{Aim}
use Rattle.oi_recovery.specs.declared.hit.Aim.TheVariants.{Free, Abort as ByAbort, Reset as ByReset}
use Rattle.oi_recovery.specs.declared.hit.Residual.{Residual}
use Rattle.oi_recovery.specs.declared.hit.Residual.TheVariants.{Exact, Under, Over}
use Rattle.oi_recovery.specs.declared.hit.Hit.{Hit}
use Rattle.oi_recovery.specs.declared.hit.Hit.TheVariants.{Reply, AbortDone, ResetDone, Lost, ReplacementPast, Aborted, Ended}
use Rattle.oi_recovery.specs.declared.stand.Stand.{Stand}
use Rattle.oi_recovery.specs.declared.stand.Stand.TheVariants.{Waiting, Live}
use Rattle.oi_recovery.specs.declared.stand.Next.{Next}
use Rattle.oi_recovery.specs.declared.stand.Next.TheVariants.{Stay, Wait, Answer, Host}

-- the bytes that a reply says are missing: none without the U bit (RFC 7143, section 11.4.5.1)
abbrev pub missing : Residual → ℕ
missing (Under n) = n
missing Exact = 0
missing (Over n) = 0

-- no step of the error handler covers the submission
abbrev pub is_free : Aim → Bool
is_free Free = true
is_free ByAbort = false
is_free ByReset = false

-- BUSY and TASK SET FULL, after which a command may be tried again (SAM-5, section 5.3.1)
abbrev pub is_busy : ℕ → Bool
is_busy status = status == 0x08 || status == 0x28

-- a reply to a live submission
abbrev pub replied : ℕ → ℕ → Residual → ℕ → ℕ → Bool → Aim → ℕ → ℕ → Next
replied response status residual length placed reads aim k a =
    if not (response == 0) then Host Error
    else (if is_busy status && nat_lt k a && is_free aim then Wait k
    else (if nat_lt length (missing residual) then Host BadTarget
    else (if status == 0 && reads && not (placed == length - missing residual) then Host Error
    else Answer)))

-- the loss of the connection, for a submission that waits after it: with no time for a replacement it fails
abbrev pub waits_on : Bool → Next → Next
waits_on at_once next = if at_once then Host FailFast else next

-- the loss of the connection of a live submission; one that is not counted gives the try back
abbrev pub lost : Aim → Bool → Bool → ℕ → ℕ → Next
lost ByAbort at_once counted k a = Host Abort
lost ByReset at_once counted k a = Host Reset
lost Free at_once false k a = waits_on at_once (Wait (k - 1))
lost Free at_once true k a = if nat_lt k a then waits_on at_once (Wait k) else Host Disrupted

-- the table, one row an event; Stay where the event does not concern a submission that stands so
abbrev pub recovery_table : Stand → Hit → ℕ → Next
recovery_table (Waiting k) (Reply response status residual length placed reads aim) a = Stay
recovery_table (Live k) (Reply response status residual length placed reads aim) a = replied response status residual length placed reads aim k a
recovery_table (Waiting k) AbortDone a = Stay
recovery_table (Live k) AbortDone a = Host Abort
recovery_table (Waiting k) ResetDone a = Stay
recovery_table (Live k) ResetDone a = Host Reset
recovery_table (Waiting k) (Lost aim at_once counted) a = waits_on at_once Stay
recovery_table (Live k) (Lost aim at_once counted) a = lost aim at_once counted k a
recovery_table (Waiting k) ReplacementPast a = Host FailFast
recovery_table (Live k) ReplacementPast a = Stay
recovery_table (Waiting k) Aborted a = Host Abort
recovery_table (Live k) Aborted a = Stay
recovery_table (Waiting k) Ended a = Host NoConnect
recovery_table (Live k) Ended a = Host NoConnect
