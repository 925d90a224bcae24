-- What each connection of a session sent, by its generation: the last one, and those before it.
use Rattle.oi_session_laws.specs.Numbers.{sent_after, successive}
use Rattle.std.specs.Prelude.{◌≡◌, ◌≤◌, ◌==◌, ℕ, List, [], ◌∷◌, length, if◌then◌else◌}
use Rattle.oi_base.specs.declared.tag.Tag.{Tag}
use Rattle.oi_history.specs.Owing.{is_on, sends_on}
use Rattle.oi_history.specs.Permitted.{ArePermitted}
use Rattle.oi_history.specs.declared.config.SessionConfig.{SessionConfig}
use Rattle.oi_history.specs.declared.event.Event.{Event}
use Rattle.oi_history.specs.declared.event.Event.TheVariants.{Login}
use Rattle.oi_history.specs.declared.event.Numbered.{Numbered}
use Rattle.oi_session_laws.specs.Tags.{given_after, copies}

-- CmdSN that the login of the connection names
abbrev pub first_from : ℕ → Event → ℕ → ℕ
first_from generation (Login g params cmdsn max exp_stat) first = if g == generation then cmdsn else first
first_from generation e first = first

abbrev pub first_on : ℕ → List Numbered → ℕ
first_on generation [] = 0
first_on generation (n ∷ H) = first_from generation n.event (first_on generation H)

-- CmdSN of its commands, in order
abbrev pub numbers_on : ℕ → List Numbered → List ℕ
numbers_on generation [] = []
numbers_on generation (n ∷ H) = if is_on generation (sends_on n.event) then sent_after n.event (numbers_on generation H) else numbers_on generation H

-- the tags of its other requests, in order
abbrev pub given_on : ℕ → List Numbered → List Tag
given_on generation [] = []
given_on generation (n ∷ H) = if is_on generation (sends_on n.event) then given_after n.event (given_on generation H) else given_on generation H

-- its commands have the number of its login and its successors, without a gap
abbrev pub SuccessiveOnEach : Type 0
SuccessiveOnEach =
    (C : SessionConfig) (H : List Numbered) → ArePermitted C H → (generation : ℕ)
    → numbers_on generation H ≡ successive (first_on generation H) (length (numbers_on generation H))

-- its other requests have different tags
abbrev pub GivenDistinctOnEach : Type 0
GivenDistinctOnEach = (C : SessionConfig) (H : List Numbered) → ArePermitted C H → (generation tag : ℕ) → copies tag (given_on generation H) ≤ 1
