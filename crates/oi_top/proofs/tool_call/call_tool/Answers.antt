use Rattle.std.proofs.Common.{◌≡◌, String, Global, List, map, subst}
use Rattle.std.proofs.lemmas.List.{take_rest}
use Rattle.std.specs.String.{string_bytes}
use Rattle.oi_tool.specs.Asking.{AreRefused}
use Rattle.oi_top.proofs.tool_call.call_tool.Goals as goal

pub returns-clause-run : goal.returns-clause-run
returns-clause-run g c = rw take_rest at c.admin_main.ensures.run

pub returns-clause-untouched : goal.returns-clause-untouched
returns-clause-untouched g c =
    subst (λ (ws : List (String Global)). AreRefused (map (λ s. string_bytes s) ws) → c.admin_main.new.store ≡ c.args.store.now) (take_rest c.args.words.now 2)
    c.admin_main.ensures.untouched
