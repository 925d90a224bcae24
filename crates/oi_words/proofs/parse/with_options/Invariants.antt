use Rattle.std.proofs.Common.{◌≡◌, map, drop}
use Rattle.clap.specs.Simple.{app_of}
use Rattle.oi_words.specs.Tool.{with_options}
use Rattle.oi_words.proofs.parse.with_options.Given as goal

-- with the options that are left it is the whole command
abbrev pub invariant-loop-name : goal.invariant-loop-name
invariant-loop-name l = with_options (app_of l.whole) (drop l.name-index (map (λ s. s.now) l.names)) ≡ with_options (app_of l.fn.command) (map (λ s. s.now) l.names)
