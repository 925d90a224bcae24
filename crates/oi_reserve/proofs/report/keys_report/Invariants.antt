use Rattle.std.proofs.Common.{◌≡◌, ◌++◌, ◌*◌, length, take}
use Rattle.std.specs.Prelude.{flat_map}
use Rattle.std.specs.Int.{to_be_bytes, w32, w64}
use Rattle.oi_reserve.proofs.report.keys_report.Given as goal

abbrev pub invariant-loop-r : goal.invariant-loop-r
invariant-loop-r l =
    l.report.items ≡ to_be_bytes w32 l.generation ++ (to_be_bytes w32 (8 * length l.registered) ++ flat_map (λ r. to_be_bytes w64 r.key) (take l.r-index l.registered))
