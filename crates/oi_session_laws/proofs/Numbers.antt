-- Command numbers follow one another, inside the window.
use Rattle.std.proofs.Common.{◌≡◌, ◌∙◌, ◌==◌, ◌||◌, ℕ, suc, Bool, true, false, List, [], ◌∷◌, ◌++◌, length, length-append, arith, ap, subst, sym, refl, Option, Some, None, if◌then◌else◌}
use Rattle.oi_base.specs.Serials.{less, predecessor, successor}
use Rattle.oi_history.specs.Acceptance.{numbers_of}
use Rattle.oi_history.specs.Meanings.{Meanings, accepted_in, meanings}
use Rattle.oi_history.specs.Permitted.{ArePermitted, IsNumbered}
use Rattle.oi_history.specs.ConnectionWords.{numbering_after, window_told}
use Rattle.oi_history.specs.declared.config.SessionConfig.{SessionConfig}
use Rattle.oi_history.specs.declared.event.Event.{Event}
use Rattle.oi_history.specs.declared.event.Event.TheVariants.{PduIn, Login, Issue}
use Rattle.oi_history.specs.declared.event.Numbered.{Numbered}
use Rattle.oi_history.specs.declared.numbers.Numbers.{Numbers}
use Rattle.oi_session_laws.specs.Numbers.{AreInside, IsInside, first_after, first_number, number_at, sent_after, sent_numbers, successive}
use Rattle.oi_window.specs.Numbering.{max_of, next_of}
use Rattle.oi_window.specs.declared.window.Window.{Window}

-- the numbers sent so far, and the next one
pub record AreCounted (first : ℕ) (numbers : List ℕ) (w : Window) : Type 0 where
  pub sent : numbers ≡ successive first (length numbers)
  pub next : next_of w ≡ number_at first (length numbers)

same_next : (b : Bool) (v w : Window) → next_of v ≡ next_of w → next_of (if b then w else v) ≡ next_of w
same_next true v w is = refl
same_next false v w is = is

told_next : (o : Option Numbers) (w : Window) → next_of (window_told o w) ≡ next_of w
told_next None w = refl
told_next (Some n) w = same_next (less n.max.0 (predecessor n.exp.0)) _ w refl

heard_next : (b : Bool) (o : Option Numbers) (w : Window) → next_of (if b then window_told o w else w) ≡ next_of w
heard_next true o w = told_next o w
heard_next false o w = refl

one_longer : (numbers : List ℕ) (n : ℕ) → length (numbers ++ n ∷ []) ≡ suc (length numbers)
one_longer numbers n = let more = length-append numbers (n ∷ []) in omega (arith, more)

one_sent : (first : ℕ) (numbers : List ℕ) (n : ℕ) (w : Window) → AreCounted first numbers w → n ≡ next_of w → numbers ++ n ∷ [] ≡ successive first (length (numbers ++ n ∷ []))
one_sent first numbers n w p is =
    rw (one_longer numbers n, is, p.next) (ap (λ (z : List ℕ). z ++ number_at first (length numbers) ∷ []) p.sent)

one_next : (first : ℕ) (numbers : List ℕ) (n : ℕ) (w : Window) → AreCounted first numbers w → successor (next_of w) ≡ number_at first (length (numbers ++ n ∷ []))
one_next first numbers n w p = rw (one_longer numbers n) (ap successor p.next)

counted_after : (accepted : Bool) (m : Meanings) (first : ℕ) (numbers : List ℕ) (e : Event) → IsNumbered m e → AreCounted first numbers m.window
    → AreCounted (first_after e first) (sent_after e numbers) (numbering_after accepted e m.window)
counted_after accepted m first numbers (Login generation params cmdsn max exp_stat) is p = record { sent = refl; next = refl }
counted_after accepted m first numbers (Issue id generation tag cmdsn) is p =
    record { sent = one_sent first numbers cmdsn m.window p is.0; next = one_next first numbers cmdsn m.window p }
counted_after accepted m first numbers (PduIn generation pdu) is p =
    record { sent = p.sent; next = heard_next accepted (numbers_of pdu.head) m.window ∙ p.next }
counted_after accepted m first numbers e is p = p

pub counted : (C : SessionConfig) (H : List Numbered) → ArePermitted C H → AreCounted (first_number H) (sent_numbers H) (meanings C H).window
counted C [] legal = record { sent = refl; next = refl }
counted C (n ∷ H) legal =
    counted_after (accepted_in n.event (meanings C H)) (meanings C H) (first_number H) (sent_numbers H) n.event legal.0.numbered (counted C H legal.1)

pub are_successive : (C : SessionConfig) (H : List Numbered) → ArePermitted C H → sent_numbers H ≡ successive (first_number H) (length (sent_numbers H))
are_successive C H legal = (counted C H legal).sent

pub next_follows : (C : SessionConfig) (H : List Numbered) → ArePermitted C H → next_of (meanings C H).window ≡ number_at (first_number H) (length (sent_numbers H))
next_follows C H legal = (counted C H legal).next

inside_at : (m : Meanings) (e : Event) → IsNumbered m e → IsInside (max_of m.window) e
inside_at m (Issue id generation tag cmdsn) is = subst (λ (n : ℕ). (n == max_of m.window || less n (max_of m.window)) ≡ true) (sym is.0) is.1
inside_at m e is = tt

pub are_inside : (C : SessionConfig) (H : List Numbered) → ArePermitted C H → AreInside C H
are_inside C [] legal = tt
are_inside C (n ∷ H) legal = (inside_at (meanings C H) n.event legal.0.numbered, are_inside C H legal.1)
