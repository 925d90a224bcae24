-- Each connection by itself: what it sent stays, and the next one has a generation of its own.
use Rattle.oi_session_laws.specs.Numbers.{first_after, first_number, sent_after, sent_numbers, successive}
use Rattle.std.proofs.Common.{◌≡◌, ◌∙◌, ◌≤◌, ◌<◌, ℕ, Bool, true, false, List, [], ◌∷◌, ◌++◌, length, ap, sym, subst, refl, arith, nat_eq, Option, Some, None, if◌then◌else◌}
use Rattle.oi_base.specs.declared.tag.Tag.{Tag}
use Rattle.oi_history.specs.Meanings.{Meanings, meanings}
use Rattle.oi_history.specs.Owing.{is_on, sends_on}
use Rattle.oi_history.specs.Permitted.{ArePermitted, IsAsked, IsNextCommand, IsNextData, IsNextLogin}
use Rattle.oi_history.specs.Phases.{generation_after, is_logged_in}
use Rattle.oi_history.specs.declared.config.SessionConfig.{SessionConfig}
use Rattle.oi_history.specs.declared.event.Event.{Event}
use Rattle.oi_history.specs.declared.event.Event.TheVariants.{Login, Issue, Push, Manage, Nop, Logout}
use Rattle.oi_history.specs.declared.event.Numbered.{Numbered}
use Rattle.oi_history.specs.declared.phase.Phase.{Phase}
use Rattle.oi_history.specs.declared.phase.Phase.TheVariants.{First, LoggedIn, Recovering, FailFast, Ended}
use Rattle.oi_session_laws.proofs.Generations.{IsLast, last_login}
use Rattle.oi_session_laws.proofs.Management.{given_distinct, owed_one}
use Rattle.oi_session_laws.proofs.Numbers.{are_successive}
use Rattle.oi_session_laws.proofs.TagCounts.{decide, equal_from, other_test, same_test}
use Rattle.oi_session_laws.specs.Connections.{first_from, first_on, given_on, numbers_on}
use Rattle.oi_session_laws.specs.Tags.{given_after, given_tags, copies}

-- what is sent, is sent on the connection of the last login

abbrev pub IsOn : ℕ → Option ℕ → Type 0
IsOn generation None = Unit {0}
IsOn generation (Some g) = g ≡ generation

pub logged_in : (p : Phase) (generation last : ℕ) → IsLast last p → is_logged_in p generation ≡ true → generation ≡ last
logged_in (LoggedIn g) generation last is on = sym (equal_from g generation on) ∙ is
logged_in First generation last is on = absurd cc
logged_in (Recovering since) generation last is on = absurd cc
logged_in (FailFast since) generation last is on = absurd cc
logged_in (Ended cause) generation last is on = absurd cc

sent_on_last : (C : SessionConfig) (H : List Numbered) (e : Event) → IsNextCommand C (meanings C H) e → IsNextData (meanings C H) e → IsAsked C (meanings C H) e → IsOn (meanings C H).generation (sends_on e)
sent_on_last C H (Issue id generation tag cmdsn) next pushed asked = logged_in (meanings C H).phase generation (meanings C H).generation (last_login C H) next.1
sent_on_last C H (Push id generation ttt number offset size last) next pushed asked = let same = pushed.2 in cc
sent_on_last C H (Manage generation tag function subject) next pushed asked = (owed_one C (meanings C H) (Manage generation tag function subject) asked.0).0
sent_on_last C H (Nop generation tag ttt lun) next pushed asked = (owed_one C (meanings C H) (Nop generation tag ttt lun) asked.0).0
sent_on_last C H (Logout generation tag) next pushed asked = (owed_one C (meanings C H) (Logout generation tag) asked.0).0
sent_on_last C H e next pushed asked = tt

not_sent_on : (o : Option ℕ) (last g : ℕ) → IsOn last o → (last ≡ g → ⊥) → is_on g o ≡ false
not_sent_on None last g on differs = refl
not_sent_on (Some mine) last g on differs = other_test mine g (λ same. differs (sym on ∙ same))

is_sent_on : (g last : ℕ) → g ≡ last → nat_eq g last ≡ true
is_sent_on g last on = subst (λ (x : ℕ). nat_eq x last ≡ true) (sym on) (same_test last)

-- one entry, with what the connections sent before

later_login : (e : Event) (m : Meanings) → IsNextLogin m e → m.generation ≤ generation_after e m.generation
later_login (Login generation params cmdsn max exp_stat) m login = let is = login.0 in omega (arith, is)
later_login e m login = omega arith

-- those that were not begun
later_on : {X : Type 0} (e : Event) (last g : ℕ) (x y z : X) → IsOn last (sends_on e) → last < g → x ≡ z → (if is_on g (sends_on e) then y else x) ≡ z
later_on e last g x y z on less is = rw (not_sent_on (sends_on e) last g on (λ same. omega (arith, same, less))) is

-- the others
not_now : (e : Event) (last g : ℕ) → IsOn last (sends_on e) → (generation_after e last ≡ g → ⊥) → is_on g (sends_on e) ≡ false
not_now (Login generation params cmdsn max exp_stat) last g on differs = refl
not_now e last g on differs = not_sent_on (sends_on e) last g on differs

other_on : {X : Type 0} (e : Event) (last g : ℕ) (x y : X) → IsOn last (sends_on e) → (generation_after e last ≡ g → ⊥) → (if is_on g (sends_on e) then y else x) ≡ x
other_on e last g x y on differs = rw (not_now e last g on differs) refl

other_first : (e : Event) (last g first : ℕ) → (generation_after e last ≡ g → ⊥) → first_from g e first ≡ first
other_first (Login generation params cmdsn max exp_stat) last g first differs = rw (other_test generation g differs) refl
other_first e last g first differs = refl

-- the last one
chosen : {X : Type 0} (b : Bool) (x y z : X) → b ≡ true → x ≡ z → (if b then x else y) ≡ z
chosen true x y z on is = is
chosen false x y z on is = absurd cc

last_numbers : (e : Event) (m : Meanings) (numbers : ℕ → List ℕ) (sent : List ℕ) → IsOn m.generation (sends_on e) → IsNextLogin m e → ((g : ℕ) → m.generation < g → numbers g ≡ [])
    → numbers m.generation ≡ sent
    → (if is_on (generation_after e m.generation) (sends_on e) then sent_after e (numbers (generation_after e m.generation)) else numbers (generation_after e m.generation)) ≡ sent_after e sent
last_numbers (Login generation params cmdsn max exp_stat) m numbers sent on login later is = later generation (let next = login.0 in omega (arith, next))
last_numbers (Issue id generation tag cmdsn) m numbers sent on login later is =
    chosen (nat_eq generation m.generation) (numbers m.generation ++ cmdsn ∷ []) (numbers m.generation) _ (is_sent_on generation m.generation on) (ap (λ (z : List ℕ). z ++ cmdsn ∷ []) is)
last_numbers (Push id generation ttt number offset size last) m numbers sent on login later is = chosen (nat_eq generation m.generation) _ _ _ (is_sent_on generation m.generation on) is
last_numbers (Manage generation tag function subject) m numbers sent on login later is = chosen (nat_eq generation m.generation) _ _ _ (is_sent_on generation m.generation on) is
last_numbers (Nop generation tag ttt lun) m numbers sent on login later is = chosen (nat_eq generation m.generation) _ _ _ (is_sent_on generation m.generation on) is
last_numbers (Logout generation tag) m numbers sent on login later is = chosen (nat_eq generation m.generation) _ _ _ (is_sent_on generation m.generation on) is
last_numbers e m numbers sent on login later is = is

last_tags : (e : Event) (m : Meanings) (tags : ℕ → List Tag) (given : List Tag) → IsOn m.generation (sends_on e) → IsNextLogin m e → ((g : ℕ) → m.generation < g → tags g ≡ [])
    → tags m.generation ≡ given
    → (if is_on (generation_after e m.generation) (sends_on e) then given_after e (tags (generation_after e m.generation)) else tags (generation_after e m.generation)) ≡ given_after e given
last_tags (Login generation params cmdsn max exp_stat) m tags given on login later is = later generation (let next = login.0 in omega (arith, next))
last_tags (Issue id generation tag cmdsn) m tags given on login later is = chosen (nat_eq generation m.generation) _ _ _ (is_sent_on generation m.generation on) is
last_tags (Push id generation ttt number offset size last) m tags given on login later is = chosen (nat_eq generation m.generation) _ _ _ (is_sent_on generation m.generation on) is
last_tags (Manage generation tag function subject) m tags given on login later is =
    chosen (nat_eq generation m.generation) _ _ _ (is_sent_on generation m.generation on) (ap (given_after (Manage generation tag function subject)) is)
last_tags (Nop generation tag ttt lun) m tags given on login later is =
    chosen (nat_eq generation m.generation) _ _ _ (is_sent_on generation m.generation on) (ap (given_after (Nop generation tag ttt lun)) is)
last_tags (Logout generation tag) m tags given on login later is =
    chosen (nat_eq generation m.generation) _ _ _ (is_sent_on generation m.generation on) (ap (given_after (Logout generation tag)) is)
last_tags e m tags given on login later is = is

last_first : (e : Event) (m : Meanings) (first : ℕ → ℕ) (number : ℕ) → first m.generation ≡ number
    → first_from (generation_after e m.generation) e (first (generation_after e m.generation)) ≡ first_after e number
last_first (Login generation params cmdsn max exp_stat) m first number is = rw (same_test generation) refl
last_first e m first number is = is

pub record AreApart (C : SessionConfig) (H : List Numbered) : Type 0 where
  pub later_numbers : (g : ℕ) → (meanings C H).generation < g → numbers_on g H ≡ []
  pub later_tags : (g : ℕ) → (meanings C H).generation < g → given_on g H ≡ []
  pub numbers : numbers_on (meanings C H).generation H ≡ sent_numbers H
  pub first : first_on (meanings C H).generation H ≡ first_number H
  pub tags : given_on (meanings C H).generation H ≡ given_tags H
  pub successive_on : (g : ℕ) → numbers_on g H ≡ successive (first_on g H) (length (numbers_on g H))
  pub distinct_on : (g tag : ℕ) → copies tag (given_on g H) ≤ 1

-- a connection's numbers, as those of another list
numbers_as : (first number : ℕ) (xs ys : List ℕ) → xs ≡ ys → first ≡ number → ys ≡ successive number (length ys) → xs ≡ successive first (length xs)
numbers_as first number xs ys same begins is = rw (same, begins) is

pub are_apart : (C : SessionConfig) (H : List Numbered) → ArePermitted C H → AreApart C H
are_apart C [] legal = record {
  later_numbers = λ g less. refl;
  later_tags = λ g less. refl;
  numbers = refl;
  first = refl;
  tags = refl;
  successive_on = λ g. refl;
  distinct_on = λ g tag. omega arith;
}
are_apart C (n ∷ H) legal =
    let before = are_apart C H legal.1 in
    let m : Meanings = meanings C H in
    let on = sent_on_last C H n.event legal.0.command legal.0.pushed legal.0.owed in
    let grows = later_login n.event m legal.0.login in
    let numbers_last = last_numbers n.event m (λ g. numbers_on g H) (sent_numbers H) on legal.0.login before.later_numbers before.numbers in
    let tags_last = last_tags n.event m (λ g. given_on g H) (given_tags H) on legal.0.login before.later_tags before.tags in
    let first_last = last_first n.event m (λ g. first_on g H) (first_number H) before.first in
    record {
      later_numbers = λ g less. later_on n.event m.generation g (numbers_on g H) _ [] on (omega (arith, grows, less)) (before.later_numbers g (omega (arith, grows, less)));
      later_tags = λ g less. later_on n.event m.generation g (given_on g H) _ [] on (omega (arith, grows, less)) (before.later_tags g (omega (arith, grows, less)));
      numbers = numbers_last;
      first = first_last;
      tags = tags_last;
      successive_on = λ g. decide (generation_after n.event m.generation) g _
          (λ same. subst (λ (x : ℕ). numbers_on x (n ∷ H) ≡ successive (first_on x (n ∷ H)) (length (numbers_on x (n ∷ H)))) same
          (numbers_as _ _ _ _ numbers_last first_last (are_successive C (n ∷ H) legal)))
          (λ differs. numbers_as _ _ _ (numbers_on g H) (other_on n.event m.generation g (numbers_on g H) _ on differs) (other_first n.event m.generation g (first_on g H) differs) (before.successive_on g));
      distinct_on = λ g tag. decide (generation_after n.event m.generation) g _
          (λ same. subst (λ (x : ℕ). copies tag (given_on x (n ∷ H)) ≤ 1) same (subst (λ (z : List Tag). copies tag z ≤ 1) (sym tags_last) (given_distinct C (n ∷ H) legal tag)))
          (λ differs. subst (λ (z : List Tag). copies tag z ≤ 1) (sym (other_on n.event m.generation g (given_on g H) _ on differs)) (before.distinct_on g tag));
    }

pub successive_on_each : (C : SessionConfig) (H : List Numbered) → ArePermitted C H → (generation : ℕ)
    → numbers_on generation H ≡ successive (first_on generation H) (length (numbers_on generation H))
successive_on_each C H legal generation = (are_apart C H legal).successive_on generation

pub distinct_on_each : (C : SessionConfig) (H : List Numbered) → ArePermitted C H → (generation tag : ℕ) → copies tag (given_on generation H) ≤ 1
distinct_on_each C H legal generation tag = (are_apart C H legal).distinct_on generation tag
