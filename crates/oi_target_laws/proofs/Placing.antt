-- A PDU that comes has its turn, or is held, and those that were held have theirs, or are held still.
use Rattle.std.proofs.Common.{ℕ, zero, suc, ◌+◌, ◌-◌, ◌<◌, Bool, true, false, cond, ◌≡◌, ◌∙◌, Some, None, List, [], ◌∷◌, ◌++◌, count_by, length, replicate, refl, ap, sym, arith, option_to_list, slice_get, slice_set, if◌then◌else◌}
use Rattle.std.proofs.lemmas.List.Sums.{sum_by-append, sum_by-cons}
use Rattle.oi_pdu.specs.declared.codec.Pdu.{Pdu}
use Rattle.oi_target.specs.Targets.{Target}
use Rattle.oi_target.specs.Turns.{Received, followed, in_turn, received_at, received_turn, told, turn_of}
use Rattle.oi_target_laws.specs.Arrivals.{held_pdus, pdus_of}
use Rattle.oi_target_laws.specs.Turned.{Turned, in_turn_turns, turns_at, turns_if}
use Rattle.oi_target_session.specs.Arrivals.{Held, advanced, is_held, padded}
use Rattle.oi_target_session.specs.Sessions.{Session, Turn, without_resets}
use Rattle.oi_target_session.specs.declared.fed.Fed.{Fed}
use Rattle.oi_target_session.specs.declared.fed.Fed.TheVariants.{Going, Closed}
use Rattle.oi_target_session.specs.declared.place.Place.{Place}
use Rattle.oi_target_session.specs.declared.place.Place.TheVariants.{Now, InTurn, Early, Outside}

pub count_join : (f : Pdu → Bool) (ps qs : List Pdu) → count_by f (ps ++ qs) ≡ count_by f ps + count_by f qs
count_join f ps qs = sum_by-append (λ p. cond (f p) 1 0) ps qs

pub count_first : (f : Pdu → Bool) (p : Pdu) (ps : List Pdu) → count_by f (p ∷ ps) ≡ cond (f p) 1 0 + count_by f ps
count_first f p ps = sum_by-cons (λ q. cond (f q) 1 0) p ps

not_closed : {C : Type 0} → Closed ≡ Going → C
not_closed e = absurd (let n : ⊥ = cc in n)

none_more : (n : ℕ) → n ≡ n + 0
none_more n = omega arith

both_more : (all one some rest more turns : ℕ) → all ≡ one + some → some ≡ turns + rest → more ≡ one + turns → all ≡ more + rest
both_more all one some rest more turns a b c = omega arith

-- those that were held and follow it at once
in_turn_placed : (t : Target) (s : Session) (p : Pdu) (held : Held) → (in_turn t s p held).fed ≡ Going → (f : Pdu → Bool)
    → count_by f (p ∷ held_pdus held) ≡ count_by f (pdus_of (in_turn_turns t s p held)) + count_by f (held_pdus (in_turn t s p held).held)
in_turn_placed t s p [] going f = none_more (count_by f (p ∷ []))
in_turn_placed t s p (None ∷ held) going f = count_join f (p ∷ []) (held_pdus held)
in_turn_placed t s p (Some next ∷ held) going f =
    go turn.fed refl going (λ e. in_turn_placed (told t turn) (without_resets turn.session) next held e f) where
      turn : Turn
      turn = turn_of t (advanced s) p

      end : Received
      end = in_turn (told t turn) (without_resets turn.session) next held

      all : Fed → Received
      all g = followed g (received_turn t held turn) end

      turns : List Turned
      turns = in_turn_turns (told t turn) (without_resets turn.session) next held

      go : (g : Fed) → turn.fed ≡ g → (all g).fed ≡ Going
          → (end.fed ≡ Going → count_by f (next ∷ held_pdus held) ≡ count_by f (pdus_of turns) + count_by f (held_pdus end.held))
          → count_by f (p ∷ next ∷ held_pdus held) ≡ count_by f (p ∷ pdus_of (turns_if g turns)) + count_by f (held_pdus (all g).held)
      go Closed is e more = not_closed (sym is ∙ e)
      go Going is e more =
          both_more (count_by f (p ∷ next ∷ held_pdus held)) (cond (f p) 1 0) (count_by f (next ∷ held_pdus held)) (count_by f (held_pdus end.held))
          (count_by f (p ∷ pdus_of turns)) (count_by f (pdus_of turns)) (count_first f p (next ∷ held_pdus held)) (more e) (count_first f p (pdus_of turns))

-- places that are empty
none_held : (k : ℕ) → held_pdus (replicate k None) ≡ []
none_held zero = refl
none_held (suc k) = none_held k

padded_pdus : (held : Held) (k : ℕ) → held_pdus (held ++ replicate k None) ≡ held_pdus held
padded_pdus [] k = none_held k
padded_pdus (x ∷ held) k = ap (λ (z : List Pdu). option_to_list x ++ z) (padded_pdus held k)

one_held : (f : Pdu → Bool) (p : Pdu) (at k : ℕ) → at < k → count_by f (held_pdus (slice_set (replicate k None) at (Some p))) ≡ count_by f (p ∷ [])
one_held f p at zero within = absurd (omega arith)
one_held f p zero (suc k) within = ap (λ (z : List Pdu). count_by f (p ∷ z)) (none_held k)
one_held f p (suc at) (suc k) within = one_held f p at k (omega arith)

is_taken : {C : Type 0} → true ≡ false → C
is_taken e = absurd (let n : ⊥ = cc in n)

behind_more : (all x some one held rest : ℕ) → all ≡ x + some → some ≡ one + held → rest ≡ x + held → all ≡ one + rest
behind_more all x some one held rest a b c = omega arith

more_held : (f : Pdu → Bool) (p : Pdu) (held : Held) (at k : ℕ) → is_held (slice_get held at) ≡ false → at < length held + k
    → count_by f (held_pdus (slice_set (held ++ replicate k None) at (Some p))) ≡ count_by f (p ∷ []) + count_by f (held_pdus held)
more_held f p [] at k free within = one_held f p at k (omega arith) ∙ none_more (count_by f (p ∷ []))
more_held f p (None ∷ held) zero k free within = ap (λ (z : List Pdu). count_by f (p ∷ z)) (padded_pdus held k) ∙ count_join f (p ∷ []) (held_pdus held)
more_held f p (Some q ∷ held) zero k free within = is_taken free
more_held f p (x ∷ held) (suc at) k free within =
    behind_more (count_by f (held_pdus (slice_set ((x ∷ held) ++ replicate k None) (suc at) (Some p)))) (count_by f (option_to_list x))
    (count_by f (held_pdus (slice_set (held ++ replicate k None) at (Some p)))) (count_by f (p ∷ [])) (count_by f (held_pdus held)) (count_by f (held_pdus (x ∷ held)))
    (count_join f (option_to_list x) (held_pdus (slice_set (held ++ replicate k None) at (Some p)))) (more_held f p held at k free (omega arith))
    (count_join f (option_to_list x) (held_pdus held))

no_turns : (one held all more : ℕ) → all ≡ one + held → more ≡ one + held → all ≡ 0 + more
no_turns one held all more a b = omega arith

-- a PDU that comes
pub received_placed : (place : Place) (t : Target) (s : Session) (held : Held) (p : Pdu) → (received_at place t s held p).fed ≡ Going → (f : Pdu → Bool)
    → count_by f (p ∷ held_pdus held) ≡ count_by f (pdus_of (turns_at place t s held p)) + count_by f (held_pdus (received_at place t s held p).held)
received_placed Now t s held p going f = count_join f (p ∷ []) (held_pdus held)
received_placed InTurn t s held p going f = in_turn_placed t s p held going f
received_placed (Early at) t s held p going f = go (is_held (slice_get held at)) refl going where
  go : (b : Bool) → is_held (slice_get held at) ≡ b → (if b then Closed else Going) ≡ Going
      → count_by f (p ∷ held_pdus held) ≡ 0 + count_by f (held_pdus (if b then held else slice_set (padded at held) at (Some p)))
  go true is e = not_closed e
  go false is e =
      no_turns (count_by f (p ∷ [])) (count_by f (held_pdus held)) (count_by f (p ∷ held_pdus held)) (count_by f (held_pdus (slice_set (padded at held) at (Some p))))
      (count_join f (p ∷ []) (held_pdus held)) (more_held f p held at (suc at - length held) is (omega arith))
received_placed Outside t s held p going f = not_closed going
