-- The table of last commands.
use Rattle.std.proofs.Common.{◌≡◌, ◌∙◌, ◌<◌, ◌||◌, ℕ, suc, zero, Bool, true, false, List, [], ◌∷◌, ◌++◌, length, length-append, set, ap, sym, subst, refl, arith, nat_eq, nat_lt, Option, Some, None, slice_get, if◌then◌else◌}
use Rattle.std.proofs.lemmas.Bool.Decides.{nat_tests}
use Rattle.std.proofs.lemmas.List.{length-set}
use Rattle.std.proofs.lemmas.Option.{slice_get_within}
use Rattle.oi_history.specs.Meanings.{Meanings, issue_in, last_issue, meanings}
use Rattle.oi_history.specs.Permitted.{ArePermitted, Comes, IsNextCommand}
use Rattle.oi_history.specs.declared.allocated.Allocated.{Allocated}
use Rattle.oi_history.specs.declared.config.SessionConfig.{SessionConfig}
use Rattle.oi_history.specs.declared.event.Event.{Event}
use Rattle.oi_history.specs.declared.event.Event.TheVariants.{Submit, Issue}
use Rattle.oi_history.specs.declared.event.Numbered.{Numbered}
use Rattle.oi_session_laws.proofs.Counted.{ids_in_order}
use Rattle.oi_session_laws.proofs.Moved.{sendable_there}
use Rattle.oi_session_laws.proofs.TagCounts.{equal_from}
use Rattle.oi_session_laws.specs.Answers.{is_submit, was_submitted}
use Rattle.oi_solo.specs.Issues.{issue_at, issues_of, issues_step}

-- the table has an entry for each submission

same_length : (a b : ℕ) → ((id : ℕ) → nat_lt id a ≡ nat_lt id b) → a ≡ b
same_length a b same =
    let first : nat_lt a a ≡ nat_lt a b = same a in
    let second : nat_lt b a ≡ nat_lt b b = same b in
    grind (arith, nat_tests, first, second)

abbrev pub IsNext : Event → ℕ → Type 0
IsNext (Submit id request) n = id ≡ n
IsNext e n = Unit {0}

next_from : (m : Meanings) (e : Event) (n : ℕ) → Comes m e → length m.tasks ≡ n → IsNext e n
next_from m (Submit id request) n comes is = comes.0 ∙ is
next_from m e n comes is = tt

next_id : (k id n more : ℕ) → k ≡ n → more ≡ suc n → (nat_eq k id || nat_lt id n) ≡ nat_lt id more
next_id k id n more same is = grind (arith, nat_tests, same, is)

sized_after : (e : Event) (issues : List (Option Allocated)) (id : ℕ) (b : Bool) → IsNext e (length issues) → b ≡ nat_lt id (length issues)
    → (is_submit id e || b) ≡ nat_lt id (length (issues_step e issues))
sized_after (Submit k request) issues id b next is =
    let more : length (issues ++ None ∷ []) ≡ suc (length issues) = let split = length-append issues (None ∷ []) in omega (arith, split) in
    ap (λ (c : Bool). nat_eq k id || c) is ∙ next_id k id (length issues) (length (issues ++ None ∷ [])) next more
sized_after (Issue k generation tag cmdsn) issues id b next is =
    is ∙ ap (nat_lt id) (sym (length-set issues k (Some (record { tag = tag; id = k; cmdsn = cmdsn }))))
sized_after e issues id b next is = is

sizes : (C : SessionConfig) (H : List Numbered) → ArePermitted C H → (id : ℕ) → was_submitted id H ≡ nat_lt id (length (issues_of H))
sizes C [] legal id = grind (arith, nat_tests)
sizes C (n ∷ H) legal id =
    let same : length (meanings C H).tasks ≡ length (issues_of H) = same_length (length (meanings C H).tasks) (length (issues_of H)) (λ k. sym (ids_in_order C H legal.1 k) ∙ sizes C H legal.1 k) in
    sized_after n.event (issues_of H) id (was_submitted id H) (next_from (meanings C H) n.event (length (issues_of H)) legal.0.comes same) (sizes C H legal.1 id)

pub issues_count : (C : SessionConfig) (H : List Numbered) → ArePermitted C H → length (issues_of H) ≡ length (meanings C H).tasks
issues_count C H legal = same_length (length (issues_of H)) (length (meanings C H).tasks) (λ k. sym (sizes C H legal k) ∙ ids_in_order C H legal k)

-- lists

at-more : (issues : List (Option Allocated)) (id : ℕ) → issue_at (slice_get (issues ++ None ∷ []) id) ≡ issue_at (slice_get issues id)
at-more [] zero = refl
at-more [] (suc id) = refl
at-more (o ∷ issues) zero = refl
at-more (o ∷ issues) (suc id) = at-more issues id

at-same : (issues : List (Option Allocated)) (id : ℕ) (a : Allocated) → id < length issues → issue_at (slice_get (set issues id (Some a)) id) ≡ Some a
at-same [] id a less = absurd (omega (arith, less))
at-same (o ∷ issues) zero a less = refl
at-same (o ∷ issues) (suc id) a less = at-same issues id a (omega (arith, less))

at-other : (issues : List (Option Allocated)) (k id : ℕ) (a : Allocated) → nat_eq k id ≡ false → issue_at (slice_get (set issues k (Some a)) id) ≡ issue_at (slice_get issues id)
at-other [] k id a differs = refl
at-other (o ∷ issues) zero zero a differs = absurd cc
at-other (o ∷ issues) zero (suc id) a differs = refl
at-other (o ∷ issues) (suc k) zero a differs = refl
at-other (o ∷ issues) (suc k) (suc id) a differs = at-other issues k id a (grind (arith, nat_tests, differs))

-- the table tells the last command

issued_after : (C : SessionConfig) (m : Meanings) (e : Event) (issues : List (Option Allocated)) (id : ℕ) → IsNextCommand C m e → length issues ≡ length m.tasks
    → issue_at (slice_get (issues_step e issues) id) ≡ issue_in id e (issue_at (slice_get issues id))
issued_after C m (Submit k request) issues id next count = at-more issues id
issued_after C m (Issue k generation tag cmdsn) issues id next count = step (nat_eq k id) refl
  where
    a : Allocated
    a = record { tag = tag; id = id; cmdsn = cmdsn }

    step : (b : Bool) → nat_eq k id ≡ b → issue_at (slice_get (set issues k (Some (record { tag = tag; id = k; cmdsn = cmdsn }))) id) ≡ (if b then Some a else issue_at (slice_get issues id))
    step true is =
        let there = sendable_there C.queue_depth k m.tasks next.0 in
        let within = slice_get_within m.tasks k there.0 there.1 in
        let same : k ≡ id = equal_from k id is in
        subst (λ (j : ℕ). issue_at (slice_get (set issues k (Some (record { tag = tag; id = k; cmdsn = cmdsn }))) j) ≡ Some (record { tag = tag; id = j; cmdsn = cmdsn })) same
        (at-same issues k (record { tag = tag; id = k; cmdsn = cmdsn }) (omega (arith, within, count)))
    step false is = at-other issues k id (record { tag = tag; id = k; cmdsn = cmdsn }) is
issued_after C m e issues id next count = refl

pub last_issue_at : (C : SessionConfig) (H : List Numbered) → ArePermitted C H → (id : ℕ) → issue_at (slice_get (issues_of H) id) ≡ last_issue id H
last_issue_at C [] legal id = refl
last_issue_at C (n ∷ H) legal id =
    issued_after C (meanings C H) n.event (issues_of H) id legal.0.command (issues_count C H legal.1) ∙ ap (issue_in id n.event) (last_issue_at C H legal.1 id)
