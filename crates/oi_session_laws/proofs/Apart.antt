-- Tags of commands and tags of other requests differ.
use Rattle.std.proofs.Common.{◌≡◌, ◌+◌, ◌*◌, ◌^◌, ◌≤◌, ◌<◌, ℕ, suc, zero, Bool, true, false, List, [], ◌∷◌, map, ap, refl, arith, nat_lt}
use Rattle.std.proofs.lemmas.Bool.Decides.{nat_tests}
use Rattle.std.specs.List.{range_with_len}
use Rattle.oi_base.specs.TagLayout.{age_after, management_tag}
use Rattle.oi_history.specs.Configs.{IsValidConfig}
use Rattle.oi_history.specs.Meanings.{Meanings, allocated_step, meanings}
use Rattle.oi_history.specs.Permitted.{ArePermitted, IsFirstEnded, IsTagged}
use Rattle.oi_history.specs.Phases.{generation_after}
use Rattle.oi_history.specs.Tags.{free_after, fresh_tags}
use Rattle.oi_history.specs.declared.config.SessionConfig.{SessionConfig}
use Rattle.oi_history.specs.declared.event.Event.{Event}
use Rattle.oi_history.specs.declared.event.Event.TheVariants.{Login, Issue, Reap, Lost}
use Rattle.oi_history.specs.declared.event.Numbered.{Numbered}
use Rattle.oi_session_laws.proofs.Management.{are_given, once}
use Rattle.oi_session_laws.proofs.TagCounts.{allocations-append, copies-append, counted_first, decide, other_bit, same_bit, without-other}
use Rattle.oi_session_laws.proofs.Tags.{AreTags, are_tags}
use Rattle.oi_session_laws.specs.Tags.{given_tags, management_tags, allocations, copies}

-- no tag of a command is as great as those of other requests

fresh-above : (base a count n : ℕ) → base + a + count ≤ n → copies n (map (λ i. record { 0 = base + i }) (range_with_len a count)) ≡ 0
fresh-above base a zero n over = refl
fresh-above base a (suc count) n over =
    let mine = other_bit (base + a) n (λ same. omega (arith, over, same)) in
    let rest = fresh-above base (a + 1) count n (omega (arith, over)) in
    omega (arith, mine, rest)

fresh_small : (age count n : ℕ) → count ≤ 2048 → management_tag age 0 ≤ n → copies n (fresh_tags age count) ≡ 0
fresh_small age count n few over = fresh-above (age * 2 ^ 28) 0 count n (omega (arith, few, over))

small_after : (C : SessionConfig) (m : Meanings) (e : Event) → C.cmds_max ≤ 2048 → IsTagged m e → IsFirstEnded m e → AreTags m.phase m.busy m.free m.ended m.tasks
    → ((n : ℕ) → management_tag (age_after m.generation) 0 ≤ n → allocations n m.busy + copies n m.free ≡ 0)
    → (n : ℕ) → management_tag (age_after (generation_after e m.generation)) 0 ≤ n → allocations n (allocated_step e m.busy) + copies n (free_after C.cmds_max e m.free) ≡ 0
small_after C m (Login generation params cmdsn max exp_stat) few tagged first tags small n over = let none = fresh_small (age_after generation) C.cmds_max n few over in omega (arith, none)
small_after C m (Issue id generation tag cmdsn) few tagged first tags small n over =
    let more = allocations-append n m.busy (record { tag = tag; id = id; cmdsn = cmdsn } ∷ []) in
    let taken = counted_first m.free tag n tagged.0 in
    let was = small n over in
    omega (arith, more, taken, was)
small_after C m (Reap tag) few tagged first tags small n over =
    let was = small n over in
    let more = copies-append n m.free (tag ∷ []) in
    let taken = counted_first m.ended tag n first in
    let held = tags.held n in
    decide tag.0 n _
    (λ same. let one = same_bit tag.0 n same in absurd (omega (arith, was, taken, held, one)))
    (λ differs. let kept = without-other tag.0 n m.busy differs in let none = other_bit tag.0 n differs in omega (arith, was, more, kept, none))
small_after C m (Lost generation cause) few tagged first tags small n over = let was = small n over in omega (arith, was)
small_after C m e few tagged first tags small n over = small n over

are_small : (C : SessionConfig) (H : List Numbered) → C.cmds_max ≤ 2048 → ArePermitted C H → (n : ℕ) → management_tag (age_after (meanings C H).generation) 0 ≤ n
    → allocations n (meanings C H).busy + copies n (meanings C H).free ≡ 0
are_small C [] few legal n over = let none = fresh_small 0 C.cmds_max n few over in omega (arith, none)
are_small C (x ∷ H) few legal n over =
    small_after C (meanings C H) x.event few legal.0.tagged legal.0.released (are_tags C H legal.1) (are_small C H few legal.1) n over

-- those of other requests are no smaller

below : (age count n : ℕ) → n < management_tag age 0 → copies n (management_tags age count) ≡ 0
below age zero n less = refl
below age (suc count) n less =
    let split = copies-append n (management_tags age count) (record { 0 = management_tag age count } ∷ []) in
    let mine = other_bit (management_tag age count) n (λ same. omega (arith, same, less)) in
    let rest = below age count n less in
    omega (arith, split, mine, rest)

either_side : (a b : ℕ) (P : Type 0) → (a < b → P) → (b ≤ a → P) → P
either_side a b P under over = step (nat_lt a b) refl
  where
    step : (c : Bool) → nat_lt a b ≡ c → P
    step true is = under (grind (arith, nat_tests, is))
    step false is = over (grind (arith, nat_tests, is))

pub all_distinct : (C : SessionConfig) (H : List Numbered) → ArePermitted C H → IsValidConfig C
    → (tag : ℕ) → allocations tag (meanings C H).busy + copies tag (meanings C H).free + copies tag (given_tags H) ≤ 1
all_distinct C H legal valid tag =
    let given = are_given C H legal in
    let same : copies tag (given_tags H) ≡ copies tag (management_tags (age_after (meanings C H).generation) (meanings C H).managed) = ap (copies tag) given.are in
    either_side tag (management_tag (age_after (meanings C H).generation) 0) _
    (λ under.
    let none = below (age_after (meanings C H).generation) (meanings C H).managed tag under in
    let apart = (are_tags C H legal).apart tag in
    omega (arith, same, none, apart))
    (λ over.
    let none = are_small C H valid.cmds_max.1 legal tag over in
    let few = once (age_after (meanings C H).generation) (meanings C H).managed tag in
    omega (arith, same, none, few))
