-- Which commands a reservation lets through (SPC-4, section 5.13.1).
use Rattle.std.specs.Prelude.{ℕ, Bool, true, false, ◌||◌, Option, Some, None, is_some, List, bytes_eq, ◌==◌, if◌then◌else◌}
use Rattle.oi_disk.specs.declared.command.Command.{Command}
use Rattle.oi_disk.specs.declared.command.Command.TheVariants.{Read, Write, Ready, Inquiry, Capacity, Sync, Unknown}
use Rattle.oi_reserve.specs.Tables.{Table, key_of}
use Rattle.oi_reserve.specs.declared.access.Wish.{Wish}
use Rattle.oi_reserve.specs.declared.access.Wish.TheVariants.{Free, Reads, Writes}
use Rattle.oi_reserve.specs.declared.entry.Holder.{Holder}

-- READ wants to read, WRITE and SYNCHRONIZE CACHE want to write, and the others are free
abbrev pub wish_of : Command → Wish
wish_of (Read lba blocks) = Reads
wish_of (Write lba blocks) = Writes
wish_of Sync = Writes
wish_of Ready = Free
wish_of Inquiry = Free
wish_of Capacity = Free
wish_of Unknown = Free

abbrev pub is_read : Wish → Bool
is_read Free = false
is_read Reads = true
is_read Writes = false

-- what a reservation of this type lets a nexus do that does not hold it: 1 is write exclusive, 3 exclusive access, 5 and
-- 6 are these for registrants only
abbrev pub form_allows : ℕ → Bool → Bool → Bool
form_allows form read registered =
    if form == 1 then read
    else (if form == 5 then read || registered
    else (if form == 6 then registered
    else false))

abbrev pub holder_allows : Table → List ℕ → Wish → Option Holder → Bool
holder_allows t nexus wish None = true
holder_allows t nexus wish (Some h) = bytes_eq h.nexus nexus || form_allows h.form (is_read wish) (is_some (key_of t.registered nexus))

abbrev pub access_allowed : Table → List ℕ → Wish → Bool
access_allowed t nexus Free = true
access_allowed t nexus Reads = holder_allows t nexus Reads t.holder
access_allowed t nexus Writes = holder_allows t nexus Writes t.holder
