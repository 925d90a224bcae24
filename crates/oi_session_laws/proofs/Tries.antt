-- Tries that are used, through each entry.
use Rattle.oi_session_laws.specs.Stays.{fate_at}
use Rattle.std.proofs.Common.{◌≡◌, ◌≤◌, ℕ, suc, zero, List, [], ◌∷◌, subst, Some}
use Rattle.oi_history.specs.Meanings.{accepted_in, meanings}
use Rattle.oi_history.specs.Permitted.{ArePermitted}
use Rattle.oi_history.specs.Standing.{HasTries, HaveTries}
use Rattle.oi_history.specs.declared.config.SessionConfig.{SessionConfig}
use Rattle.oi_history.specs.declared.event.Event.{Event}
use Rattle.oi_history.specs.declared.event.Numbered.{Numbered}
use Rattle.oi_history.specs.declared.fate.Fate.{Fate}
use Rattle.oi_history.specs.declared.task.Task.{Task}
use Rattle.oi_session_laws.proofs.Moved.{AreMoved, AreNew, moved_after}

tries-new : (a : ℕ) (us : List Task) → 1 ≤ a → AreNew a us → HaveTries a us
tries-new a [] one new = tt
tries-new a (u ∷ us) one new = (new.0.tries one, tries-new a us one new.1)

tries-moved : (e : Event) (a : ℕ) (ts us : List Task) → 1 ≤ a → AreMoved e a ts us → HaveTries a ts → HaveTries a us
tries-moved e a [] us one m have = tries-new a us one m
tries-moved e a (t ∷ ts) [] one m have = absurd m
tries-moved e a (t ∷ ts) (u ∷ us) one m have = (m.0.tries one have.0, tries-moved e a ts us one m.1 have.1)

pub have_tries : (C : SessionConfig) (H : List Numbered) → ArePermitted C H → 1 ≤ C.tries → HaveTries C.tries (meanings C H).tasks
have_tries C [] legal one = tt
have_tries C (n ∷ H) legal one =
    tries-moved n.event C.tries _ _ one (moved_after C n.number (meanings C H) (accepted_in n.event (meanings C H)) n.event legal.0.command) (have_tries C H legal.1 one)

tries_at : (a id : ℕ) (ts : List Task) (f : Fate) → HaveTries a ts → fate_at id ts ≡ Some f → HasTries a f
tries_at a id [] f have is = absurd cc
tries_at a zero (t ∷ ts) f have is = let same : t.fate ≡ f = cc in subst (λ (x : Fate). HasTries a x) same have.0
tries_at a (suc id) (t ∷ ts) f have is = tries_at a id ts f have.1 is

pub tries_below_limit : (C : SessionConfig) (H : List Numbered) → ArePermitted C H → 1 ≤ C.tries → (id : ℕ) (fate : Fate) → fate_at id (meanings C H).tasks ≡ Some fate → HasTries C.tries fate
tries_below_limit C H legal one id fate is = tries_at C.tries id (meanings C H).tasks fate (have_tries C H legal one) is
