-- How the plain program judges an entry.
use Rattle.std.specs.Prelude.{◌+◌, ◌==◌, ◌&&◌, ◌||◌, ℕ, Bool, true, false, not, List, [], ◌∷◌, Option, Some, None, is_none, if◌then◌else◌}
use Rattle.oi_base.specs.declared.tag.Tag.{Tag}
use Rattle.oi_history.specs.Meanings.{Meanings}
use Rattle.oi_history.specs.Owing.{next_management}
use Rattle.oi_history.specs.Permitted.{Breaks, IsPermitted}
use Rattle.oi_history.specs.Phases.{has_connection}
use Rattle.oi_history.specs.declared.config.SessionConfig.{SessionConfig}
use Rattle.oi_history.specs.declared.event.Numbered.{Numbered}
use Rattle.oi_history.specs.declared.owed.Queued.{Queued}

-- permitted, or the least rule that it breaks
abbrev pub IsJudged : Option ℕ → SessionConfig → List Numbered → Numbered → Type 0
IsJudged None C H n = IsPermitted C H n
IsJudged (Some rule) C H n = Breaks rule C H n

-- the first of some rules that does not hold, by its number; they are counted from k
abbrev pub first_broken : ℕ → List Bool → Option ℕ
first_broken k [] = None
first_broken k (holds ∷ rules) = if holds then first_broken (k + 1) rules else Some k

-- the number of the newest entry
abbrev pub last_number : List Numbered → Option ℕ
last_number [] = None
last_number (n ∷ H) = Some n.number

-- the tag has ended
abbrev pub is_over : List Tag → ℕ → Bool
is_over [] tag = false
is_over (t ∷ ended) tag = tag == t.0 || is_over ended tag

-- no data wait but those of tags that ended
abbrev pub are_over : List Tag → List Queued → Bool
are_over ended [] = true
are_over ended (q ∷ queue) = is_over ended q.tag.0 && are_over ended queue

-- the connection can take a further request
abbrev pub may_ask : Meanings → Bool
may_ask m = not (m.logout_sent || not (has_connection m.phase)) && (is_none m.broken && are_over m.ended m.queue)

-- on the present connection, with its next management tag
abbrev pub is_its_next : Meanings → ℕ → ℕ → Bool
is_its_next m generation tag = generation == m.generation && tag == (next_management m).0
