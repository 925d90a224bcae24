-- What an entry that brings nothing in needs of the room.
use Rattle.std.proofs.Common.{◌≡◌, ℕ, false, refl}
use Rattle.oi_history.specs.Ledgers.{freed_by, heard_by, released_by}
use Rattle.oi_history.specs.Submitted.{brings}
use Rattle.oi_history.specs.declared.event.Event.{Event}
use Rattle.oi_history.specs.declared.event.Event.TheVariants.{PduIn, Login}

pub freed_quiet : (count : ℕ) (e : Event) → brings e ≡ false → freed_by count e ≡ released_by e
freed_quiet count (Login generation params cmdsn max exp_stat) quiet = absurd cc
freed_quiet count e quiet = refl

pub heard_quiet : (e : Event) → brings e ≡ false → heard_by e ≡ 0
heard_quiet (PduIn generation pdu) quiet = absurd cc
heard_quiet e quiet = refl
