-- Data that wait and the tags of commands (RFC 7143, sections 4.2.5.2 and 11.2.1.8).
use Rattle.std.specs.Prelude.{◌≡◌, ◌≢◌, ℕ, All, List, ◌∷◌, Some}
use Rattle.oi_base.specs.declared.tag.Tag.{Tag}
use Rattle.oi_history.specs.Meanings.{meanings}
use Rattle.oi_history.specs.Permitted.{ArePermitted}
use Rattle.oi_history.specs.Tags.{holder}
use Rattle.oi_history.specs.declared.config.SessionConfig.{SessionConfig}
use Rattle.oi_history.specs.declared.event.Event.TheVariants.{Issue}
use Rattle.oi_history.specs.declared.event.Numbered.{Numbered}

-- data that wait have a tag that is in use for their submission
abbrev pub DataHaveTags : Type 0
DataHaveTags = (C : SessionConfig) (H : List Numbered) → ArePermitted C H → All (λ q. holder q.tag.0 (meanings C H).busy ≡ Some q.id) (meanings C H).queue

-- a command goes out under no tag of which data wait
abbrev pub NoReuse : Type 0
NoReuse =
    (C : SessionConfig) (H : List Numbered) (number id generation : ℕ) (tag : Tag) (cmdsn : ℕ) → ArePermitted C (record { number = number; event = Issue id generation tag cmdsn } ∷ H)
    → All (λ q. q.tag.0 ≢ tag.0) (meanings C H).queue
