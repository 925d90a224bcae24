-- Requests that are no commands get the management tags of their connection, one after another.
use Rattle.std.proofs.Common.{◌≡◌, ◌∙◌, ◌≤◌, ◌<◌, ◌||◌, ◌&&◌, ◌⊎◌, inl, inr, ℕ, suc, zero, Bool, true, false, not, List, [], ◌∷◌, ◌++◌, length, length-append, ap, sym, subst, refl, arith, nat_eq, is_some, Option, Some, None, slice_get, if◌then◌else◌}
use Rattle.oi_base.specs.Counts.{bit}
use Rattle.oi_base.specs.Limits.{most_management_tags}
use Rattle.oi_base.specs.TagLayout.{age_after, management_tag, reserved_tag}
use Rattle.oi_base.specs.declared.tag.Tag.{Tag}
use Rattle.oi_history.specs.Connected.{managed_step, one_given}
use Rattle.oi_history.specs.Handling.{is_idle}
use Rattle.oi_history.specs.Meanings.{Meanings, meanings, step}
use Rattle.oi_history.specs.Owing.{drawn_next, drawn_with, echo_next, issue_next, issue_with, logout_next, managed_next, next_after_data, next_in, next_management, or_else, owed_in, ping_next, queued_next, reaped, sendable}
use Rattle.oi_history.specs.Permitted.{ArePermitted, IsAsked}
use Rattle.oi_history.specs.Phases.{generation_after, has_connection}
use Rattle.oi_history.specs.declared.config.SessionConfig.{SessionConfig}
use Rattle.oi_history.specs.declared.event.Event.{Event}
use Rattle.oi_history.specs.declared.event.Event.TheVariants.{Login, Reap, Manage, Nop, Logout}
use Rattle.oi_history.specs.declared.event.Numbered.{Numbered}
use Rattle.oi_history.specs.declared.owed.Echo.{Echo}
use Rattle.oi_history.specs.declared.owed.Queued.{Queued}
use Rattle.oi_history.specs.declared.phase.Handler.{Handler}
use Rattle.oi_history.specs.declared.phase.Handler.TheVariants.{Aborting, ResettingLun, ResettingTarget}
use Rattle.oi_session_laws.proofs.TagCounts.{copies-append, decide, other_bit, same_bit}
use Rattle.oi_session_laws.specs.Tags.{given_after, given_tags, management_tags, copies}
use Rattle.oi_window.specs.Numbering.{is_open, next_of}

-- a request that is owed has the next management tag, or none

abbrev pub IsNextTag : ℕ → ℕ → Event → Type 0
IsNextTag last next (Manage generation tag function subject) = (generation ≡ last) × (tag.0 ≡ next)
IsNextTag last next (Logout generation tag) = (generation ≡ last) × (tag.0 ≡ next)
IsNextTag last next (Nop generation tag ttt lun) = (generation ≡ last) × ((tag ≡ reserved_tag) ⊎ (tag ≡ next))
IsNextTag last next e = Unit {0}

abbrev pub AreNextTags : ℕ → ℕ → List Event → Type 0
AreNextTags last next [] = Unit {0}
AreNextTags last next (e ∷ es) = IsNextTag last next e × AreNextTags last next es

next-else : (last next : ℕ) (xs ys : List Event) → AreNextTags last next xs → AreNextTags last next ys → AreNextTags last next (or_else xs ys)
next-else last next [] ys p q = q
next-else last next (x ∷ xs) ys p q = p

next-if : (last next : ℕ) (b : Bool) (xs ys : List Event) → AreNextTags last next xs → AreNextTags last next ys → AreNextTags last next (if b then xs else ys)
next-if last next true xs ys p q = p
next-if last next false xs ys p q = q

queued_tags : (last next : ℕ) (queue : List Queued) → AreNextTags last next (queued_next last queue)
queued_tags last next [] = tt
queued_tags last next (q ∷ queue) = (tt, tt)

managed_tags : (last : ℕ) (tag : Tag) (handler : Handler) → AreNextTags last tag.0 (managed_next last tag handler)
managed_tags last tag (Aborting id None since) = ((refl, refl), tt)
managed_tags last tag (ResettingLun lun None since) = ((refl, refl), tt)
managed_tags last tag (ResettingTarget None since) = ((refl, refl), tt)
managed_tags last tag handler = tt

echo_tags : (last next : ℕ) (echoes : List Echo) → AreNextTags last next (echo_next last echoes)
echo_tags last next [] = tt
echo_tags last next (e ∷ echoes) = ((refl, inl refl), tt)

drawn_tags : (last next count : ℕ) (queue : List Queued) → AreNextTags last next (drawn_with last count queue)
drawn_tags last next count [] = tt
drawn_tags last next count (q ∷ queue) = (tt, (tt, tt))

issue_tags : (last next cmdsn : ℕ) (id : Option ℕ) (tag : Option Tag) → AreNextTags last next (issue_with last cmdsn id tag)
issue_tags last next cmdsn (Some id) (Some tag) = (tt, tt)
issue_tags last next cmdsn None tag = tt
issue_tags last next cmdsn (Some id) None = tt

logout_tags : (last : ℕ) (m : Meanings) → AreNextTags last (next_management m).0 (logout_next last m)
logout_tags last m = next-if last (next_management m).0 m.leaving (Logout last (next_management m) ∷ []) [] ((refl, refl), tt) tt

ping_tags : (C : SessionConfig) (last : ℕ) (m : Meanings) → AreNextTags last (next_management m).0 (ping_next C last m)
ping_tags C last m = next-if last (next_management m).0 _ (Nop last (next_management m).0 reserved_tag _ ∷ []) [] ((refl, inr refl), tt) tt

command_tags : (C : SessionConfig) (last : ℕ) (m : Meanings) → AreNextTags last (next_management m).0 (issue_next C last m)
command_tags C last m =
    next-if last (next_management m).0 (is_idle m.handler && not m.leaving && is_open m.window) (issue_with last (next_of m.window) (sendable C.queue_depth m.tasks) (slice_get m.free 0)) []
    (issue_tags last (next_management m).0 (next_of m.window) (sendable C.queue_depth m.tasks) (slice_get m.free 0)) tt

later_tags : (C : SessionConfig) (last : ℕ) (m : Meanings) → AreNextTags last (next_management m).0 (next_after_data C last m)
later_tags C last m =
    next-else last _ (logout_next last m) _ (logout_tags last m)
    (next-else last _ (managed_next last (next_management m) m.handler) _ (managed_tags last (next_management m) m.handler)
    (next-else last _ (echo_next last m.echoes) _ (echo_tags last (next_management m).0 m.echoes)
    (next-else last _ (ping_next C last m) _ (ping_tags C last m)
    (next-else last _ (drawn_next last m) (issue_next C last m) (drawn_tags last (next_management m).0 _ _) (command_tags C last m)))))

owed_tags : (C : SessionConfig) (last : ℕ) (m : Meanings) → AreNextTags last (next_management m).0 (next_in C last m)
owed_tags C last m =
    next-if last _ (m.logout_sent || not (has_connection m.phase)) [] _ tt
    (next-else last _ (queued_next last m.queue) _ (queued_tags last (next_management m).0 m.queue)
    (next-if last _ (is_some m.broken) [] (next_after_data C last m) tt (later_tags C last m)))

-- the release of tags gives none

released_next : (C : SessionConfig) (tags : List Tag) (m : Meanings) → (next_management (reaped C tags m)).0 ≡ (next_management m).0
released_next C [] m = refl
released_next C (tag ∷ tags) m = released_next C tags (step C (Reap tag) 0 m)

pub owed_one : (C : SessionConfig) (m : Meanings) (e : Event) → owed_in C m ≡ e ∷ [] → IsNextTag m.generation (next_management m).0 e
owed_one C m e is =
    let all = owed_tags C m.generation (reaped C m.ended m) in
    let one = subst (λ (es : List Event). AreNextTags m.generation (next_management (reaped C m.ended m)).0 es) is all in
    subst (λ (next : ℕ). IsNextTag m.generation next e) (released_next C m.ended m) one.0

-- counts

pub record AreGiven (age managed : ℕ) (tags : List Tag) : Type 0 where
  pub are : tags ≡ management_tags age managed
  pub few : managed ≤ most_management_tags

given_one : (age managed : ℕ) (tags : List Tag) (tag : Tag) → AreGiven age managed tags → tag.0 ≡ management_tag age managed → (tag.0 ≡ reserved_tag) ⊎ (managed < most_management_tags)
    → AreGiven age (one_given managed) (tags ++ tag ∷ [])
given_one age managed tags tag p is (inl none) = absurd (let few = p.few in omega (arith, is, none, few))
given_one age managed tags tag p is (inr left) =
    let more : one_given managed ≡ suc managed = omega (arith, left) in
    record {
      are = rw (more) (ap (λ (z : List Tag). z ++ tag ∷ []) p.are ∙ ap (λ (n : ℕ). management_tags age managed ++ record { 0 = n } ∷ []) is);
      few = omega (arith, more, left);
    }

given_nop : (age managed : ℕ) (tags : List Tag) (tag : ℕ) (b : Bool) → nat_eq tag reserved_tag ≡ b → AreGiven age managed tags → (tag ≡ reserved_tag) ⊎ (tag ≡ management_tag age managed)
    → (tag ≡ reserved_tag) ⊎ (managed < most_management_tags) → AreGiven age (if b then managed else one_given managed) (if b then tags else tags ++ record { 0 = tag } ∷ [])
given_nop age managed tags tag true is p next few = p
given_nop age managed tags tag false is p (inl none) few = absurd (let on = same_bit tag reserved_tag none in let off : bit (nat_eq tag reserved_tag) ≡ 0 = ap bit is in omega (arith, on, off))
given_nop age managed tags tag false is p (inr next) few = given_one age managed tags (record { 0 = tag }) p next few

given_step : (C : SessionConfig) (H : List Numbered) (e : Event) (tags : List Tag) → IsAsked C (meanings C H) e → AreGiven (age_after (meanings C H).generation) (meanings C H).managed tags
    → AreGiven (age_after (generation_after e (meanings C H).generation)) (managed_step e (meanings C H).managed) (given_after e tags)
given_step C H (Login generation params cmdsn max exp_stat) tags asked p = record { are = refl; few = omega arith }
given_step C H (Manage generation tag function subject) tags asked p = given_one _ _ tags tag p (owed_one C (meanings C H) (Manage generation tag function subject) asked.0).1 asked.1
given_step C H (Logout generation tag) tags asked p = given_one _ _ tags tag p (owed_one C (meanings C H) (Logout generation tag) asked.0).1 asked.1
given_step C H (Nop generation tag ttt lun) tags asked p = given_nop _ _ tags tag (nat_eq tag reserved_tag) refl p (owed_one C (meanings C H) (Nop generation tag ttt lun) asked.0).1 asked.1
given_step C H e tags asked p = p

pub are_given : (C : SessionConfig) (H : List Numbered) → ArePermitted C H → AreGiven (age_after (meanings C H).generation) (meanings C H).managed (given_tags H)
are_given C [] legal = record { are = refl; few = omega arith }
are_given C (n ∷ H) legal = given_step C H n.event (given_tags H) legal.0.owed (are_given C H legal.1)

so_many : (age n : ℕ) → length (management_tags age n) ≡ n
so_many age zero = refl
so_many age (suc n) =
    let more = length-append (management_tags age n) (record { 0 = management_tag age n } ∷ []) in
    let rest = so_many age n in
    omega (arith, more, rest)

pub given_in_order : (C : SessionConfig) (H : List Numbered) → ArePermitted C H
    → (given_tags H ≡ management_tags (age_after (meanings C H).generation) (length (given_tags H))) × (length (given_tags H) ≤ most_management_tags)
given_in_order C H legal =
    let p = are_given C H legal in
    let many : length (given_tags H) ≡ (meanings C H).managed = ap (λ (tags : List Tag). length tags) p.are ∙ so_many (age_after (meanings C H).generation) (meanings C H).managed in
    let few = p.few in
    (p.are ∙ ap (management_tags (age_after (meanings C H).generation)) (sym many), omega (arith, many, few))

-- each of them once

above : (age n tag : ℕ) → management_tag age n ≤ tag → copies tag (management_tags age n) ≡ 0
above age zero tag over = refl
above age (suc n) tag over =
    let split = copies-append tag (management_tags age n) (record { 0 = management_tag age n } ∷ []) in
    let mine = other_bit (management_tag age n) tag (λ same. omega (arith, same, over)) in
    let rest = above age n tag (omega (arith, over)) in
    omega (arith, split, mine, rest)

pub once : (age n tag : ℕ) → copies tag (management_tags age n) ≤ 1
once age zero tag = omega arith
once age (suc n) tag =
    let split = copies-append tag (management_tags age n) (record { 0 = management_tag age n } ∷ []) in
    let rest = once age n tag in
    decide (management_tag age n) tag _
    (λ same. let none = above age n tag (omega (arith, same)) in let one = same_bit (management_tag age n) tag same in omega (arith, split, none, one))
    (λ differs. let mine = other_bit (management_tag age n) tag differs in omega (arith, split, mine, rest))

pub given_distinct : (C : SessionConfig) (H : List Numbered) → ArePermitted C H → (tag : ℕ) → copies tag (given_tags H) ≤ 1
given_distinct C H legal tag =
    let p = are_given C H legal in
    subst (λ (tags : List Tag). copies tag tags ≤ 1) (sym p.are) (once (age_after (meanings C H).generation) (meanings C H).managed tag)
