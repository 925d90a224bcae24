-- The numbers of the commands of a connection (RFC 7143, section 4.2.2.1).
use Rattle.oi_base.specs.Serials.{less, successor}
use Rattle.oi_history.specs.declared.event.Event.TheVariants.{Login, Issue}
use Rattle.oi_history.specs.declared.event.Event.{Event}
use Rattle.std.specs.Prelude.{◌≡◌, List, [], ◌∷◌, length, ◌==◌, ◌||◌, ◌++◌, ℕ, true, suc, zero}
use Rattle.oi_history.specs.Meanings.{meanings}
use Rattle.oi_history.specs.Permitted.{ArePermitted}
use Rattle.oi_history.specs.declared.config.SessionConfig.{SessionConfig}
use Rattle.oi_history.specs.declared.event.Numbered.{Numbered}
use Rattle.oi_window.specs.Numbering.{max_of, next_of}

-- CmdSN that the last login names
abbrev pub first_after : Event → ℕ → ℕ
first_after (Login generation params cmdsn max exp_stat) first = cmdsn
first_after e first = first

abbrev pub first_number : List Numbered → ℕ
first_number [] = 0
first_number (n ∷ H) = first_after n.event (first_number H)

-- CmdSN of the commands since the last login, in order
abbrev pub sent_after : Event → List ℕ → List ℕ
sent_after (Login generation params cmdsn max exp_stat) numbers = []
sent_after (Issue id generation tag cmdsn) numbers = numbers ++ cmdsn ∷ []
sent_after e numbers = numbers

abbrev pub sent_numbers : List Numbered → List ℕ
sent_numbers [] = []
sent_numbers (n ∷ H) = sent_after n.event (sent_numbers H)

-- the n-th number behind the first one
abbrev pub number_at : ℕ → ℕ → ℕ
number_at first zero = first
number_at first (suc n) = successor (number_at first n)

-- so many numbers, each the successor of the one before it
abbrev pub successive : ℕ → ℕ → List ℕ
successive first zero = []
successive first (suc n) = successive first n ++ number_at first n ∷ []

-- a command's number is MaxCmdSN or comes before it
abbrev pub IsInside : ℕ → Event → Type 0
IsInside max (Issue id generation tag cmdsn) = (cmdsn == max || less cmdsn max) ≡ true
IsInside max e = Unit {0}

-- the commands of a connection have the number of its login and its successors, without a gap
abbrev pub Successive : Type 0
Successive = (C : SessionConfig) (H : List Numbered) → ArePermitted C H → sent_numbers H ≡ successive (first_number H) (length (sent_numbers H))

-- CmdSN, which other requests carry too and leave as it is, is that of the login, moved by one for each command
abbrev pub NextFollows : Type 0
NextFollows = (C : SessionConfig) (H : List Numbered) → ArePermitted C H → next_of (meanings C H).window ≡ number_at (first_number H) (length (sent_numbers H))

-- each command's number is MaxCmdSN or comes before it, by the window at its entry
abbrev pub AreInside : SessionConfig → List Numbered → Type 0
AreInside C [] = Unit {0}
AreInside C (n ∷ H) = IsInside (max_of (meanings C H).window) n.event × AreInside C H

abbrev pub InsideWindow : Type 0
InsideWindow = (C : SessionConfig) (H : List Numbered) → ArePermitted C H → AreInside C H
