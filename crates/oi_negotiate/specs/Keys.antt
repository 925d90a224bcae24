-- The names of the keys that are negotiated (RFC 7143, section 13).
use Rattle.std.specs.Prelude.{ℕ, Bool, List, Option, Some, None, codes, nat_eq, if◌then◌else◌}
use Rattle.std.specs.Cmp.Lexicographic.{pointwise}
use Rattle.oi_negotiate.specs.declared.keys.WordKey.{WordKey}
use Rattle.oi_negotiate.specs.declared.keys.WordKey.TheVariants.{InitialR2T, ImmediateData, DataPDUInOrder, DataSequenceInOrder}
use Rattle.oi_negotiate.specs.declared.keys.NumberKey.{NumberKey}
use Rattle.oi_negotiate.specs.declared.keys.NumberKey.TheVariants.{MaxBurstLength, FirstBurstLength, DefaultTime2Wait, DefaultTime2Retain, MaxOutstandingR2T, MaxConnections, ErrorRecoveryLevel, MaxRecvDataSegmentLength}
use Rattle.oi_negotiate.specs.declared.keys.Key.{Key}
use Rattle.oi_negotiate.specs.declared.keys.Key.TheVariants.{Word, Number, HeaderDigest, DataDigest}

-- the texts are equal, byte by byte
abbrev pub is_text : List ℕ → List ℕ → Bool
is_text a b = pointwise nat_eq a b

abbrev pub word_name : WordKey → List ℕ
word_name InitialR2T = codes "InitialR2T"
word_name ImmediateData = codes "ImmediateData"
word_name DataPDUInOrder = codes "DataPDUInOrder"
word_name DataSequenceInOrder = codes "DataSequenceInOrder"

abbrev pub number_name : NumberKey → List ℕ
number_name MaxBurstLength = codes "MaxBurstLength"
number_name FirstBurstLength = codes "FirstBurstLength"
number_name DefaultTime2Wait = codes "DefaultTime2Wait"
number_name DefaultTime2Retain = codes "DefaultTime2Retain"
number_name MaxOutstandingR2T = codes "MaxOutstandingR2T"
number_name MaxConnections = codes "MaxConnections"
number_name ErrorRecoveryLevel = codes "ErrorRecoveryLevel"
number_name MaxRecvDataSegmentLength = codes "MaxRecvDataSegmentLength"

-- the name of a key
abbrev pub name_of : Key → List ℕ
name_of (Word k) = word_name k
name_of (Number k) = number_name k
name_of HeaderDigest = codes "HeaderDigest"
name_of DataDigest = codes "DataDigest"

-- the key, where the text is its name; else what the rest says
abbrev pub named_or : List ℕ → Key → Option Key → Option Key
named_or text k rest = if is_text text (name_of k) then Some k else rest

unfoldable pub number_key_of : List ℕ → Option Key
number_key_of text =
    named_or text (Number MaxBurstLength) (named_or text (Number FirstBurstLength) (named_or text (Number DefaultTime2Wait)
    (named_or text (Number DefaultTime2Retain) (named_or text (Number MaxOutstandingR2T) (named_or text (Number MaxConnections)
    (named_or text (Number ErrorRecoveryLevel) (named_or text (Number MaxRecvDataSegmentLength) None)))))))

-- the key of a name
unfoldable pub key_of : List ℕ → Option Key
key_of text =
    named_or text (Word InitialR2T) (named_or text (Word ImmediateData) (named_or text (Word DataPDUInOrder)
    (named_or text (Word DataSequenceInOrder) (named_or text HeaderDigest (named_or text DataDigest (number_key_of text))))))
