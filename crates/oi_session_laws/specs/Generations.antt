-- What a PDU of another connection than the present one does (RFC 7143, section 7.14).
use Rattle.std.specs.Prelude.{◌≡◌, ℕ, List, ◌∷◌, if◌then◌else◌}
use Rattle.oi_history.specs.Locks.{is_task_response}
use Rattle.oi_history.specs.Meanings.{Meanings, handed_so_far, meanings, unfinished}
use Rattle.oi_history.specs.declared.config.SessionConfig.{SessionConfig}
use Rattle.oi_history.specs.declared.event.Event.TheVariants.{PduIn}
use Rattle.oi_history.specs.declared.event.Numbered.{Numbered}
use Rattle.oi_pdu.specs.declared.codec.Pdu.{Pdu}
use Rattle.oi_pdu.specs.declared.header.Header.{Header}

-- an entry under both locks tells the half that sends what stands anyway: ExpStatSN, and how many submissions are not done
abbrev pub retold : Header → Meanings → Meanings
retold head m = record m { told = if is_task_response head then record { stat = m.stat; pending = unfinished m.tasks } else m.told }

-- it changes nothing and hands out nothing; a task management response is an entry under both locks
abbrev pub StaleChangesNothing : Type 0
StaleChangesNothing =
    (C : SessionConfig) (H : List Numbered) (number generation : ℕ) (pdu : Pdu) → (generation ≡ (meanings C H).generation → ⊥)
    → (meanings C (record { number = number; event = PduIn generation pdu } ∷ H) ≡ retold pdu.head (meanings C H))
    × (handed_so_far C (record { number = number; event = PduIn generation pdu } ∷ H) ≡ handed_so_far C H)
