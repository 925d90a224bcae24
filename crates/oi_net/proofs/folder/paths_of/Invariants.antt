use Rattle.std.proofs.Common.{◌≡◌, ◌++◌, map}
use Rattle.std.specs.Str.{IsUtf8}
use Rattle.std.specs.List.{All}
use Rattle.std.specs.String.{string_bytes}
use Rattle.oi_net.proofs.folder.paths_of.Given as goal

-- the paths taken are those in front of the ones that are left, and they are texts
abbrev pub invariant-loop-path : goal.invariant-loop-path
invariant-loop-path l =
    (l.paths.items ++ map (λ k. string_bytes k) l.path-iterator ≡ map (λ k. string_bytes k) l.fn.found.keys)
    × All IsUtf8 l.paths.items
