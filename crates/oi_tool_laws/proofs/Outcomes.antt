-- Words and stored records have one outcome.
use Rattle.std.proofs.Common.{◌≡◌, ℕ, List, [], refl}
use Rattle.oi_outside.specs.Records.{Records}
use Rattle.oi_settings.specs.Texts.{Node}
use Rattle.oi_admin.specs.declared.command.AdminCommand.{AdminCommand}
use Rattle.oi_tool.specs.Outcomes.{Outcome, bad_record, outcome}
use Rattle.oi_tool.specs.Runs.{IsRun, bad_text, bad_words, carried_out}
use Rattle.oi_tool_laws.proofs.Commands.{one_command}
use Rattle.oi_tool_laws.proofs.Loads.{load_is_sound, one_first_bad, one_load}

same_bad : (a b : List ℕ) (line other : ℕ) → a ≡ b → line ≡ other → bad_record a line ≡ bad_record b other
same_bad a b line other paths lines = λ i. bad_record (paths i) (lines i)

same_outcome : (a b : AdminCommand) (ns ms : List Node) → a ≡ b → ns ≡ ms → outcome [] ns a ≡ outcome [] ms b
same_outcome a b ns ms commands lists = λ i. outcome [] (lists i) (commands i)

pub one_outcome : (words : List (List ℕ)) (records : Records) (a b : Outcome) → IsRun words records a → IsRun words records b → a ≡ b
one_outcome words records _ _ (bad_words refused) (bad_words also) = refl
one_outcome words records _ _ (bad_words refused) (bad_text d q n asks bad) = absurd (refused d asks)
one_outcome words records _ _ (bad_words refused) (carried_out d ms asks up loaded) = absurd (refused d asks)
one_outcome words records _ _ (bad_text c p m ask bad) (bad_words refused) = absurd (refused c ask)
one_outcome words records _ _ (bad_text c p m ask bad) (bad_text d q n asks also) =
    let same = one_first_bad records p q m n bad also in
    same_bad p q m n same.0 same.1
one_outcome words records _ _ (bad_text c p m ask bad) (carried_out d ms asks up loaded) = absurd (load_is_sound records p m ms bad loaded)
one_outcome words records _ _ (carried_out c ns ask up loaded) (bad_words refused) = absurd (refused c ask)
one_outcome words records _ _ (carried_out c ns ask up loaded) (bad_text d q n asks bad) = absurd (load_is_sound records q n ns bad loaded)
one_outcome words records _ _ (carried_out c ns ask up loaded) (carried_out d ms asks also loads) =
    same_outcome c d ns ms (one_command words c d ask asks) (one_load records ns ms up also loaded loads)
