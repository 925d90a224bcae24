-- Tags in use differ (RFC 7143, section 11.2.1.8).
use Rattle.oi_session_laws.specs.Stays.{fate_at}
use Rattle.std.specs.Prelude.{◌≡◌, ◌≤◌, ◌+◌, ◌==◌, ◌++◌, ℕ, true, List, [], ◌∷◌, Some, length, if◌then◌else◌, suc, zero}
use Rattle.oi_base.specs.Counts.{bit}
use Rattle.oi_base.specs.Limits.{most_management_tags}
use Rattle.oi_base.specs.TagLayout.{age_after, management_tag, reserved_tag}
use Rattle.oi_base.specs.declared.tag.Tag.{Tag}
use Rattle.oi_history.specs.Configs.{IsValidConfig}
use Rattle.oi_history.specs.Meanings.{meanings}
use Rattle.oi_history.specs.Permitted.{ArePermitted}
use Rattle.oi_history.specs.Phases.{is_logged_in}
use Rattle.oi_history.specs.Tags.{holder}
use Rattle.oi_history.specs.declared.allocated.Allocated.{Allocated}
use Rattle.oi_history.specs.declared.config.SessionConfig.{SessionConfig}
use Rattle.oi_history.specs.declared.event.Event.{Event}
use Rattle.oi_history.specs.declared.event.Event.TheVariants.{Login, Manage, Nop, Logout}
use Rattle.oi_history.specs.declared.event.Numbered.{Numbered}
use Rattle.oi_history.specs.declared.fate.Fate.TheVariants.{Live}

-- how often a tag is allocated
abbrev pub allocations : ℕ → List Allocated → ℕ
allocations tag [] = 0
allocations tag (a ∷ busy) = bit (a.tag.0 == tag) + allocations tag busy

-- how often a tag stands in a list
abbrev pub copies : ℕ → List Tag → ℕ
copies tag [] = 0
copies tag (t ∷ tags) = bit (t.0 == tag) + copies tag tags

-- how many tags a submission has in use
abbrev pub holdings : ℕ → List Allocated → ℕ
holdings id [] = 0
holdings id (a ∷ busy) = bit (a.id == id) + holdings id busy

-- no tag is allocated twice, none is free twice, and none is both
abbrev pub TagsDistinct : Type 0
TagsDistinct =
    (C : SessionConfig) (H : List Numbered) → ArePermitted C H → (tag : ℕ) → allocations tag (meanings C H).busy + copies tag (meanings C H).free ≤ 1

-- no submission has two of them, though an ended one may not be released yet
abbrev pub IdsDistinct : Type 0
IdsDistinct = (C : SessionConfig) (H : List Numbered) → ArePermitted C H → (id : ℕ) → holdings id (meanings C H).busy ≤ 1

-- a submission that is live is so on the connection of the present login, and has its tag
abbrev pub LiveHolds : Type 0
LiveHolds =
    (C : SessionConfig) (H : List Numbered) → ArePermitted C H → (id generation : ℕ) (tag : Tag) (tries : ℕ) → fate_at id (meanings C H).tasks ≡ Some (Live generation tag tries)
    → (is_logged_in (meanings C H).phase generation ≡ true) × (holder tag.0 (meanings C H).busy ≡ Some id)

-- the tags of the requests that are no commands, since the last login, in order; an answer to a NOP-In has none
abbrev pub given_after : Event → List Tag → List Tag
given_after (Login generation params cmdsn max exp_stat) tags = []
given_after (Manage generation tag function subject) tags = tags ++ tag ∷ []
given_after (Logout generation tag) tags = tags ++ tag ∷ []
given_after (Nop generation tag ttt lun) tags = if tag == reserved_tag then tags else tags ++ record { 0 = tag } ∷ []
given_after e tags = tags

abbrev pub given_tags : List Numbered → List Tag
given_tags [] = []
given_tags (n ∷ H) = given_after n.event (given_tags H)

-- so many management tags of a connection, in order
abbrev pub management_tags : ℕ → ℕ → List Tag
management_tags age zero = []
management_tags age (suc n) = management_tags age n ++ record { 0 = management_tag age n } ∷ []

-- they are the management tags of the connection in order, and no more than there are
abbrev pub GivenInOrder : Type 0
GivenInOrder =
    (C : SessionConfig) (H : List Numbered) → ArePermitted C H
    → (given_tags H ≡ management_tags (age_after (meanings C H).generation) (length (given_tags H))) × (length (given_tags H) ≤ most_management_tags)

-- so none is given twice
abbrev pub GivenDistinct : Type 0
GivenDistinct = (C : SessionConfig) (H : List Numbered) → ArePermitted C H → (tag : ℕ) → copies tag (given_tags H) ≤ 1

-- nor is it a tag of a command
abbrev pub AllDistinct : Type 0
AllDistinct =
    (C : SessionConfig) (H : List Numbered) → ArePermitted C H → IsValidConfig C
    → (tag : ℕ) → allocations tag (meanings C H).busy + copies tag (meanings C H).free + copies tag (given_tags H) ≤ 1
