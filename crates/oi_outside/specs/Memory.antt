-- Sources and sinks over memory.
use Rattle.std.specs.Prelude.{ℕ, List, ◌++◌, ◌-◌, ◌==◌, length, take, drop, min, if◌then◌else◌}
use Rattle.oi_outside.specs.Calls.{one_more, is_to_fail}

-- a source over memory: what is left, the number of its next call, the numbers of the calls that fail, and how many did
pub record MemReader : Type 0 where
  pub left : List ℕ
  pub calls : ℕ
  pub fails : List ℕ
  pub faults : ℕ

-- a read gives as many bytes as there are and the buffer takes
abbrev pub read_size : MemReader → ℕ → ℕ
read_size s room = min (length s.left) room

abbrev pub after_read : MemReader → ℕ → MemReader
after_read s room =
    if is_to_fail s.fails s.calls
    then record s { calls = one_more s.calls; faults = one_more s.faults }
    else record s { left = drop (read_size s room) s.left; calls = one_more s.calls }

-- a sink over memory: what it holds, how much it can hold, and the same of its calls
pub record MemWriter : Type 0 where
  pub held : List ℕ
  pub room : ℕ
  pub calls : ℕ
  pub fails : List ℕ
  pub faults : ℕ

-- a write takes as many bytes as there is room for
abbrev pub write_size : MemWriter → ℕ → ℕ
write_size s size = min size (s.room - length s.held)

-- a call that failed
abbrev pub after_fault : MemWriter → MemWriter
after_fault s = record s { calls = one_more s.calls; faults = one_more s.faults }

abbrev pub after_write : MemWriter → List ℕ → MemWriter
after_write s piece =
    if is_to_fail s.fails s.calls
    then after_fault s
    else (if s.room - length s.held == 0 then after_fault s
    else record s { held = s.held ++ take (write_size s (length piece)) piece; calls = one_more s.calls })

abbrev pub after_flush : MemWriter → MemWriter
after_flush s = if is_to_fail s.fails s.calls then after_fault s else record s { calls = one_more s.calls }
