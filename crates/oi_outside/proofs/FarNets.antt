-- Nets whose far side follows scripts.
use Rattle.std.proofs.Common.{ℕ, false, ◌≡◌, ◌∙◌, ◌+◌, List, [], ◌∷◌, ◌++◌, length, take, drop, Some, sym, ap, arith}
use Rattle.std.proofs.Math.Seq.{take-add}
use Rattle.std.proofs.lemmas.List.{take_all}
use Rattle.std.proofs.lemmas.Grind.{common_steps}
use Rattle.oi_outside.specs.declared.link_read.ReadTurn.{ReadTurn}
use Rattle.oi_outside.specs.declared.link_read.ReadTurn.TheVariants.{Got}
use Rattle.oi_outside.specs.ReadLinks.{with_got, after_read}
use Rattle.oi_outside.specs.FarNets.{FarReading, after_far_read, far_read_half}
use Rattle.oi_outside.specs.Nets.{NetState, NoneWaits, waiting_at}
use Rattle.oi_outside.proofs.MemLinks.{calls_after, last_after}
use Rattle.oi_outside.proofs.MemNets.{same_Some}

-- what was taken of a script after a read, and what is left
taken_after : (script buffer : List ℕ) (at n : ℕ) → take n buffer ≡ take n (drop at script) → take (at + n) script ≡ take at script ++ take n buffer
taken_after script buffer at n e = take-add at n script ∙ ap (λ bs. take at script ++ bs) (sym e)

left_after : (script : List ℕ) (at n : ℕ) → drop (at + n) script ≡ drop n (drop at script)
left_after script at n = grind (arith, common_steps)

-- a read of a front of the script
pub far_read_after : (dial : ℕ) (script buffer : List ℕ) (at n : ℕ) (answers more : List ReadTurn) (h : FarReading) → record { dial = dial; taken = take at script; left = drop at script; answers = answers } ≡ h → take n buffer ≡ take n (drop at script) → more ≡ answers ++ Got n ∷ [] → record { dial = dial; taken = take (at + n) script; left = drop (at + n) script; answers = more } ≡ after_far_read (Got n) buffer h
far_read_after dial script buffer at n answers more h is e pushed =
    let base : ◌≡◌ {A = FarReading} (record { dial = dial; taken = take (at + n) script; left = drop (at + n) script; answers = more }) (record { dial = dial; taken = take at script ++ take n buffer; left = drop n (drop at script); answers = answers ++ Got n ∷ [] }) = λ i. record { dial = dial; taken = taken_after script buffer at n e i; left = left_after script at n i; answers = pushed i } in
    base ∙ ap (after_far_read (Got n) buffer) is

-- what a half tells after a read
pub far_half_after : (turn : ReadTurn) (buffer : List ℕ) (h : FarReading) → Some (far_read_half (after_far_read turn buffer h)) ≡ Some (after_read turn buffer (far_read_half h))
far_half_after turn buffer h =
    λ i. Some (record { dial = h.dial; accepted = false; taken = with_got turn buffer h.taken; calls = calls_after h.answers turn i; last = last_after h.answers turn i })

-- the whole piece
pub take_whole : (piece : List ℕ) → take (length piece) piece ≡ piece
take_whole piece = take_all (length piece) piece (omega arith)

-- where no connection waits at all, none waits at a portal
pub none_waits : (portal : List ℕ) (s : NetState) → s.waiting ≡ [] → NoneWaits portal (Some s)
none_waits portal s e u f = ap (λ (v : NetState). waiting_at portal v.waiting) (sym (same_Some s u f)) ∙ ap (waiting_at portal) e
