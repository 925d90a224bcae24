-- A connection gives no more management tags than the half that sends has entries, and that is few.
use Rattle.std.proofs.Common.{◌≡◌, ◌≤◌, ◌<◌, ◌+◌, ◌-◌, ◌==◌, ◌&&◌, ◌||◌, ℕ, Bool, true, false, not, List, [], ◌∷◌, refl, arith, nat_eq, nat_lt, None, if◌then◌else◌}
use Rattle.std.proofs.lemmas.Bool.{ltb-false}
use Rattle.oi_base.specs.Limits.{most_management_tags}
use Rattle.oi_base.specs.TagLayout.{reserved_tag}
use Rattle.oi_history.specs.Configs.{IsValidConfig}
use Rattle.oi_history.specs.Connected.{managed_step, one_given}
use Rattle.oi_history.specs.Locks.{is_sending}
use Rattle.oi_history.specs.Meanings.{meanings}
use Rattle.oi_history.specs.declared.config.SessionConfig.{SessionConfig}
use Rattle.oi_history.specs.declared.event.Event.{Event}
use Rattle.oi_history.specs.declared.event.Event.TheVariants.{Login, Manage, Nop, Logout}
use Rattle.oi_history.specs.declared.event.Numbered.{Numbered}
use Rattle.oi_session_laws.proofs.TagCounts.{equal_from}
use Rattle.oi_solo.proofs.Entries.{first_none}
use Rattle.oi_solo.specs.Limits.{first_passed, loaded, sending_load}
use Rattle.oi_solo.specs.Turns.{later}
use Rattle.oi_solo.specs.declared.load.Load.{Load}

no_fewer : (b : Bool) (e : Event) (l : Load) → l.steps ≤ (loaded b e l).steps
no_fewer true e l = omega arith
no_fewer false e l = omega arith

given_if : (b : Bool) (n steps : ℕ) → n ≤ steps → (if b then n else one_given n) ≤ steps + 1
given_if true n steps h = omega (arith, h)
given_if false n steps h = omega (arith, h)

managed_after : (e : Event) (n : ℕ) (l : Load) → n ≤ l.steps → managed_step e n ≤ (loaded (is_sending e) e l).steps
managed_after (Login generation params cmdsn max exp_stat) n l h = omega arith
managed_after (Manage generation tag function subject) n l h = omega (arith, h)
managed_after (Logout generation tag) n l h = omega (arith, h)
managed_after (Nop generation tag ttt lun) n l h = given_if (tag == reserved_tag) n l.steps h
managed_after e n l h = let more = no_fewer (is_sending e) e l in omega (arith, more, h)

managed_few : (C : SessionConfig) (H : List Numbered) → (meanings C H).managed ≤ (sending_load H).steps
managed_few C [] = omega arith
managed_few C (n ∷ H) = managed_after n.event (meanings C H).managed (sending_load H) (managed_few C H)

within : (steps limit n : ℕ) (kept : Bool) → (not (steps + n == steps) && (nat_lt limit (steps + n) || kept)) ≡ false → 1 ≤ n → steps + n ≤ limit
within steps limit n kept none some = step (nat_eq (steps + n) steps) (nat_lt limit (steps + n)) refl refl none
  where
    step : (a b : Bool) → nat_eq (steps + n) steps ≡ a → nat_lt limit (steps + n) ≡ b → (not a && (b || kept)) ≡ false → steps + n ≤ limit
    step true b same over no-more = let is = equal_from (steps + n) steps same in absurd (omega (arith, is, some))
    step false true same over no-more = absurd cc
    step false false same over no-more = ltb-false limit (steps + n) over

pub few_managed : (C : SessionConfig) (H : List Numbered) (n : ℕ) (receiving receiving_after : Load) → IsValidConfig C → 1 ≤ n
    → first_passed C (sending_load H) (later n (sending_load H)) receiving receiving_after ≡ None → (meanings C H).managed < most_management_tags
few_managed C H n receiving receiving_after valid some none =
    let both = first_none C (sending_load H) (later n (sending_load H)) receiving receiving_after none in
    let steps = within (sending_load H).steps (C.steps - 16) n (nat_lt C.kept (sending_load H).kept) both.0 some in
    let few = managed_few C H in
    let most = valid.steps.1 in
    omega (arith, steps, few, most, some)
