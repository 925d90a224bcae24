use Rattle.std.proofs.Common.{map}
use Rattle.std.specs.String.{string_bytes}
use Rattle.oi_tool.proofs.Fits.{ask_refused, ask_unfit}
use Rattle.oi_tool.proofs.asking.read_command.Goals as goal

pub returns-in-Err : goal.returns-in-Err
returns-in-Err c = ask_refused (map (λ s. string_bytes s) c.args.words.now) c.in-Err.fault c.in-Err.ensures

pub returns-in-Ok-false : goal.returns-in-Ok-false
returns-in-Ok-false c =
    ask_unfit (map (λ s. string_bytes s) c.args.words.now) c.in-Ok.command c.in-Ok-false.field-0 c.in-Ok-false.field-0-test c.in-Ok.ensures c.in-Ok-false.ensures
