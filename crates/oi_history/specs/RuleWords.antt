-- The printed words of the rules.
use Rattle.std.specs.Prelude.{ℕ, Bool, ◌==◌, List, codes}
use Rattle.oi_history.specs.declared.rule.Rule.{Rule}
use Rattle.oi_history.specs.declared.rule.Rule.TheVariants.{Header, TooLong, WrongOpcode, UnknownTag, WrongKind, DataNumber, DataOffset, DataRange, R2tRange, Rejected}

abbrev pub rule_word : Rule → List ℕ
rule_word Header = codes "header"
rule_word TooLong = codes "toolong"
rule_word WrongOpcode = codes "wrongopcode"
rule_word UnknownTag = codes "unknowntag"
rule_word WrongKind = codes "wrongkind"
rule_word DataNumber = codes "datanumber"
rule_word DataOffset = codes "dataoffset"
rule_word DataRange = codes "datarange"
rule_word R2tRange = codes "r2trange"
rule_word Rejected = codes "rejected"

-- their order in the table
abbrev pub rule_index : Rule → ℕ
rule_index Header = 0
rule_index TooLong = 1
rule_index WrongOpcode = 2
rule_index UnknownTag = 3
rule_index WrongKind = 4
rule_index DataNumber = 5
rule_index DataOffset = 6
rule_index DataRange = 7
rule_index R2tRange = 8
rule_index Rejected = 9

abbrev pub is_rule : Rule → Rule → Bool
is_rule a b = rule_index a == rule_index b
