-- A run of the tool: what the words and the stored records come to, and what stands when something failed.
use Rattle.std.specs.Prelude.{◌≡◌, ◌⊎◌, ◌||◌, ◌==◌, ℕ, Bool, true, List, [], ◌∷◌, take, Option, Some}
use Rattle.std.specs.List.{list_any}
use Rattle.oi_base.specs.Counts.{Rose}
use Rattle.oi_outside.specs.Records.{Records}
use Rattle.oi_outside.specs.Streams.{IsFront, behind}
use Rattle.oi_settings.specs.Texts.{Node}
use Rattle.oi_nodedb.specs.Databases.{Ascends}
use Rattle.oi_nodedb.specs.Loads.{IsFirstBad, IsLoaded}
use Rattle.oi_admin.specs.declared.command.AdminCommand.{AdminCommand}
use Rattle.oi_tool.specs.Asking.{AreRefused, Ask}
use Rattle.oi_tool.specs.Outcomes.{Outcome, after, bad_record, fault_text, outcome, refused}

-- the outcome of words over stored records, where no session lives: the words are judged first, then the stored texts are
-- read, then the command is carried out
pub data IsRun (words : List (List ℕ)) (records : Records) : Outcome → Type 0 where
  bad_words : AreRefused words → IsRun words records (refused 7)
  bad_text : (command : AdminCommand) (path : List ℕ) (line : ℕ) → Ask words command → IsFirstBad records path line
      → IsRun words records (bad_record path line)
  carried_out : (command : AdminCommand) (nodes : List Node) → Ask words command → Ascends nodes → IsLoaded records nodes
      → IsRun words records (outcome [] nodes command)

-- the run is that of its outcome, whole
pub record IsWhole (words : List (List ℕ)) (records : Records) (status : ℕ) (is : Option Records) (held0 held : Option (List ℕ)) : Type 0 where
  pub outcome : Outcome
  pub run : IsRun words records outcome
  pub status_is : status ≡ outcome.status
  pub stored : is ≡ Some (after outcome.changes records)
  pub text : held ≡ behind held0 outcome.text

-- a first part of the changes is made; a change whose call failed is the last one of them, or the one behind them
pub record IsPart (o : Outcome) (records : Records) (is : Option Records) : Type 0 where
  pub count : ℕ
  pub stored : is ≡ Some (after (take count o.changes) records)

-- a status that is not fatal gives way to that of a sink that failed
abbrev pub is_mild : ℕ → Bool
is_mild status = status == 0 || (status == 15 || status == 21)

-- the store went along: all is as the outcome says, but for what the output did not take
pub record IsCarriedOut (words : List (List ℕ)) (records : Records) (status : ℕ) (is : Option Records) (held0 held : Option (List ℕ)) : Type 0 where
  pub outcome : Outcome
  pub run : IsRun words records outcome
  pub status_is : (status ≡ outcome.status) ⊎ ((is_mild outcome.status ≡ true) × (status ≡ 31))
  pub stored : is ≡ Some (after outcome.changes records)
  pub front : IsFront outcome.text held0 held

-- nothing is changed, or a first part of the outcome's changes is made
abbrev pub IsBegun : List (List ℕ) → Records → Option Records → Type 0
IsBegun words records is = (is ≡ Some records) ⊎ ((o : Outcome) × IsRun words records o × IsPart o records is)

-- what stands behind a run, whatever failed
pub record IsLeft (words : List (List ℕ)) (records : Records) (status : ℕ) (is : Option Records) (held0 held : Option (List ℕ)) : Type 0 where
  pub begun : IsBegun words records is
  pub carried_out : (status ≡ 3 → ⊥) → (status ≡ 6 → ⊥) → IsCarriedOut words records status is held0 held

-- the statuses, and why they come
abbrev pub is_any : List ℕ → ℕ → Bool
is_any statuses status = list_any (λ s. s == status) statuses

abbrev pub statuses : List ℕ
statuses = 0 ∷ 3 ∷ 6 ∷ 7 ∷ 21 ∷ 31 ∷ 32 ∷ []

pub record HasCause (words : List (List ℕ)) (status store0 store sink0 sink : ℕ) : Type 0 where
  pub known : is_any statuses status ≡ true
  pub words_bad : status ≡ 7 → AreRefused words
  pub bad_words : AreRefused words → (status ≡ 3 → ⊥) → status ≡ 7
  pub store_failed : status ≡ 6 → Rose store0 store
  pub store_well : (status ≡ 6 → ⊥) → (status ≡ 3 → ⊥) → store ≡ store0
  pub sink_failed : status ≡ 31 → Rose sink0 sink
  pub sink_well : is_mild status ≡ true → sink ≡ sink0

-- with these statuses the text is a line of the fault, whatever the store tells
abbrev pub fault_statuses : List ℕ
fault_statuses = 6 ∷ 7 ∷ 21 ∷ []

pub record IsToldFault (status : ℕ) (held0 held : Option (List ℕ)) (sink0 sink : ℕ) : Type 0 where
  pub front : IsFront (fault_text status) held0 held
  pub whole : (Rose sink0 sink → ⊥) → held ≡ behind held0 (fault_text status)
  pub mild : is_mild status ≡ true → held ≡ behind held0 (fault_text status)

-- all that is promised of a run of the tool: where nothing failed it is whole
pub record IsTool (words : List (List ℕ)) (status : ℕ) (was is : Option Records) (held0 held : Option (List ℕ)) (store0 store sink0 sink : ℕ) : Type 0 where
  pub exact : (records : Records) → was ≡ Some records → (Rose store0 store → ⊥) → (Rose sink0 sink → ⊥) → (status ≡ 3 → ⊥)
      → IsWhole words records status is held0 held
  pub left : (records : Records) → was ≡ Some records → IsLeft words records status is held0 held
  pub cause : HasCause words status store0 store sink0 sink
  pub told : is_any fault_statuses status ≡ true → IsToldFault status held0 held sink0 sink
