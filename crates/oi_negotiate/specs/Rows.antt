-- The table of keys: for each its default, its rule and its range (RFC 7143, section 13).
use Rattle.std.specs.Prelude.{ℕ, Bool, true, ◌||◌, ◌&&◌, min, max}
use Rattle.oi_negotiate.specs.declared.keys.WordKey.{WordKey}
use Rattle.oi_negotiate.specs.declared.keys.WordKey.TheVariants.{InitialR2T, ImmediateData, DataPDUInOrder, DataSequenceInOrder}
use Rattle.oi_negotiate.specs.declared.keys.NumberKey.{NumberKey}
use Rattle.oi_negotiate.specs.declared.keys.NumberKey.TheVariants.{MaxBurstLength, FirstBurstLength, DefaultTime2Wait, DefaultTime2Retain, MaxOutstandingR2T, MaxConnections, ErrorRecoveryLevel, MaxRecvDataSegmentLength}
use Rattle.oi_negotiate.specs.declared.rows.WordRule.{WordRule}
use Rattle.oi_negotiate.specs.declared.rows.WordRule.TheVariants.{Or, And}
use Rattle.oi_negotiate.specs.declared.rows.NumberRule.{NumberRule}
use Rattle.oi_negotiate.specs.declared.rows.NumberRule.TheVariants.{Least, Greatest, Theirs}
use Rattle.oi_negotiate.specs.declared.rows.WordRow.{WordRow}
use Rattle.oi_negotiate.specs.declared.rows.NumberRow.{NumberRow}

abbrev pub word_with : Bool → WordRule → WordRow
word_with default rule = record { default = default; rule = rule }

abbrev pub number_with : ℕ → NumberRule → ℕ → ℕ → NumberRow
number_with default rule low high = record { default = default; rule = rule; low = low; high = high }

-- keys with a word, Yes or No: the default and the rule
abbrev pub word_row : WordKey → WordRow
word_row InitialR2T = word_with true Or
word_row ImmediateData = word_with true And
word_row DataPDUInOrder = word_with true Or
word_row DataSequenceInOrder = word_with true Or

-- keys with a number: the default, the rule, the least and the greatest
abbrev pub number_row : NumberKey → NumberRow
number_row MaxBurstLength = number_with 262144 Least 512 16777215
number_row FirstBurstLength = number_with 65536 Least 512 16777215
number_row DefaultTime2Wait = number_with 2 Greatest 0 3600
number_row DefaultTime2Retain = number_with 20 Least 0 3600
number_row MaxOutstandingR2T = number_with 1 Least 1 65535
number_row MaxConnections = number_with 1 Least 1 65535
number_row ErrorRecoveryLevel = number_with 0 Least 0 2
number_row MaxRecvDataSegmentLength = number_with 8192 Theirs 512 16777215

-- what the two words settle
abbrev pub word_by : WordRule → Bool → Bool → Bool
word_by Or ours theirs = ours || theirs
word_by And ours theirs = ours && theirs

-- what the two numbers settle; a length that each side declares is the other's
abbrev pub number_by : NumberRule → ℕ → ℕ → ℕ
number_by Least ours theirs = min ours theirs
number_by Greatest ours theirs = max ours theirs
number_by Theirs ours theirs = theirs
