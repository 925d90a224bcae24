-- The outcome of a negotiation: the first pair that is refused, and what every key settles to (RFC 7143, sections 6.2 and 13).
use Rattle.std.specs.Prelude.{◌≡◌, ℕ, Bool, true, ◌||◌, ◌&&◌, not, min, List, [], ◌∷◌, ◌++◌, Option, Some, None, is_some, IsSome, codes, if◌then◌else◌}
use Rattle.std.specs.List.{list_any}
use Rattle.oi_base.specs.declared.login.Params.{Params}
use Rattle.oi_text.specs.declared.pairs.Pair.{Pair}
use Rattle.oi_negotiate.specs.declared.keys.WordKey.{WordKey}
use Rattle.oi_negotiate.specs.declared.keys.WordKey.TheVariants.{InitialR2T, ImmediateData}
use Rattle.oi_negotiate.specs.declared.keys.NumberKey.{NumberKey}
use Rattle.oi_negotiate.specs.declared.keys.NumberKey.TheVariants.{MaxBurstLength, FirstBurstLength, DefaultTime2Wait, DefaultTime2Retain, MaxOutstandingR2T, MaxRecvDataSegmentLength}
use Rattle.oi_negotiate.specs.declared.keys.Key.{Key}
use Rattle.oi_negotiate.specs.declared.keys.Key.TheVariants.{Word, Number, HeaderDigest, DataDigest}
use Rattle.oi_negotiate.specs.declared.rows.WordRow.{WordRow}
use Rattle.oi_negotiate.specs.declared.rows.NumberRow.{NumberRow}
use Rattle.oi_negotiate.specs.declared.offer.Offer.{Offer}
use Rattle.oi_negotiate.specs.declared.negotiation.KeyFault.{KeyFault}
use Rattle.oi_negotiate.specs.declared.negotiation.KeyFault.TheVariants.{Bad, Memory}
use Rattle.oi_negotiate.specs.Keys.{is_text, word_name, number_name, key_of}
use Rattle.oi_negotiate.specs.Rows.{word_row, number_row, word_by, number_by}
use Rattle.oi_negotiate.specs.Values.{is_silent, word_in, number_within}

-- the value is one that the key may have
abbrev pub is_value : Key → List ℕ → Bool
is_value (Word k) text = is_some (word_in text)
is_value (Number k) text = is_some (number_within (number_row k).low (number_row k).high text)
is_value HeaderDigest text = is_text text (codes "None")
is_value DataDigest text = is_text text (codes "None")

-- the key stands in one of the pairs
abbrev pub stands_in : List Pair → List ℕ → Bool
stands_in pairs key = list_any (λ p. is_text p.key key) pairs

-- after the pairs before it the pair is taken: its key is not negotiated; or it is answered for the first time, and not at all or within its range
abbrev pub is_taken_as : Option Key → List Pair → Pair → Bool
is_taken_as None before p = true
is_taken_as (Some k) before p = (is_silent p.value || is_value k p.value) && not (stands_in before p.key)

abbrev pub is_taken : List Pair → Pair → Bool
is_taken before p = is_taken_as (key_of p.key) before p

-- the key of the first pair that is not taken
abbrev pub first_refused : List Pair → List Pair → Option (List ℕ)
first_refused before [] = None
first_refused before (p ∷ ps) = if is_taken before p then first_refused (before ++ p ∷ []) ps else Some p.key

abbrev pub refused_key : List Pair → Option (List ℕ)
refused_key pairs = first_refused [] pairs

-- the text with which the other side answers a key
abbrev pub answer_to : List ℕ → List Pair → Option (List ℕ)
answer_to name [] = None
answer_to name (p ∷ ps) = if is_text p.key name then Some p.value else answer_to name ps

abbrev pub word_answered : Option (List ℕ) → Option Bool
word_answered None = None
word_answered (Some text) = word_in text

abbrev pub number_answered : NumberRow → Option (List ℕ) → Option ℕ
number_answered row None = None
number_answered row (Some text) = number_within row.low row.high text

-- the word or number that the other side answers; None where it does not answer the key, or calls it Irrelevant or NotUnderstood
abbrev pub word_answer : WordKey → List Pair → Option Bool
word_answer k theirs = word_answered (answer_to (word_name k) theirs)

abbrev pub number_answer : NumberKey → List Pair → Option ℕ
number_answer k theirs = number_answered (number_row k) (answer_to (number_name k) theirs)

-- the rule of the row on both sides' values; the default without an answer
abbrev pub settled_word : WordRow → Bool → Option Bool → Bool
settled_word row ours None = row.default
settled_word row ours (Some theirs) = word_by row.rule ours theirs

abbrev pub settled_number : NumberRow → ℕ → Option ℕ → ℕ
settled_number row ours None = row.default
settled_number row ours (Some theirs) = number_by row.rule ours theirs

-- the negotiated value of a key
abbrev pub negotiated_word : WordKey → Bool → List Pair → Bool
negotiated_word k ours theirs = settled_word (word_row k) ours (word_answer k theirs)

abbrev pub negotiated_number : NumberKey → ℕ → List Pair → ℕ
negotiated_number k ours theirs = settled_number (number_row k) ours (number_answer k theirs)

-- what the whole negotiation settles; a first burst is at most a burst, and each side declares the length that it receives
abbrev pub negotiated : Offer → List Pair → Params
negotiated ours theirs = record {
  initial_r2t = negotiated_word InitialR2T ours.initial_r2t theirs;
  immediate = negotiated_word ImmediateData ours.immediate theirs;
  max_send = negotiated_number MaxRecvDataSegmentLength ours.max_recv theirs;
  max_recv = ours.max_recv;
  max_burst = negotiated_number MaxBurstLength ours.max_burst theirs;
  first_burst = min (negotiated_number FirstBurstLength ours.first_burst theirs) (negotiated_number MaxBurstLength ours.max_burst theirs);
  outstanding = negotiated_number MaxOutstandingR2T ours.outstanding theirs;
  time2wait = negotiated_number DefaultTime2Wait ours.time2wait theirs;
  time2retain = negotiated_number DefaultTime2Retain ours.time2retain theirs;
}

-- what a fault says: the key of the first pair that is refused; memory is wanted for that key alone
abbrev pub IsKeyFault : KeyFault → Option (List ℕ) → Type 0
IsKeyFault (Bad key) refused = refused ≡ Some key
IsKeyFault Memory refused = IsSome refused
