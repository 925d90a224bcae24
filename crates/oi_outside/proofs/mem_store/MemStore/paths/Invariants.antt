use Rattle.std.proofs.Common.{◌≡◌, ◌++◌, map}
use Rattle.std.specs.Str.{IsUtf8}
use Rattle.std.specs.List.{All}
use Rattle.std.specs.Map.{keys_of}
use Rattle.std.specs.String.{string_bytes}
use Rattle.oi_outside.proofs.mem_store.MemStore.paths.Given as goal

-- the paths found are those in front of the ones that are left, and they are texts
abbrev pub invariant-loop-path : goal.invariant-loop-path
invariant-loop-path l =
    (l.found.items ++ map (λ k. string_bytes k) l.path-iterator ≡ map (λ k. string_bytes k) (keys_of l.self-inside.records.entries))
    × All IsUtf8 l.found.items
