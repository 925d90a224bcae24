-- Calls of nets over memory.
use Rattle.std.proofs.Common.{ℕ, suc, Bool, true, false, cond, ◌+◌, ◌<◌, length, get_or, take, drop, arith, ◌≡◌, ◌∙◌, List, [], ◌∷◌, ◌++◌, map, filter, Option, Some, None, refl, sym, ap, subst}
use Rattle.std.specs.Prelude.{MatchOption}
use Rattle.std.specs.List.{All, find, position, remove}
use Rattle.std.proofs.lemmas.List.Elements.{All-append, All-drop, All-map, All-push, All-same, All-take}
use Rattle.std.specs.Option.{unwrap_or}
use Rattle.oi_pipe.specs.Turns.{Reader, Writer}
use Rattle.oi_outside.specs.Nets.{NetState, Waiting, Accepts, AreDialled, NoneWaits, waits_at, waiting_at, without_first}
use Rattle.oi_outside.specs.MemLinks.{ReadingEnd, read_half}
use Rattle.oi_outside.specs.MemWrites.{WritingEnd, write_half}
use Rattle.oi_outside.specs.MemNets.{FarEnd, MemNetwork, FindsNone, IsPlaceAt, TakesEnd, called, is_at, mem_state, waiting_of}
use Rattle.oi_outside.proofs.Places.{find-no_place, stands}

pub IsPlaceAt-position : (portal : List ℕ) (ends : List FarEnd) (o : Option ℕ) → o ≡ position (is_at portal) ends → IsPlaceAt portal ends o
IsPlaceAt-position portal ends None e = find-no_place (is_at portal) ends (sym e)
IsPlaceAt-position portal ends (Some at) e = let s = stands (is_at portal) ends at (sym e) in (s.element, s.found, s.inside, s.get, s.rest)

-- where no end is found at a portal, no number waits there
none_waits : (portal : List ℕ) (ends : List FarEnd) → find (is_at portal) ends ≡ None → waiting_at portal (map waiting_of ends) ≡ []
none_waits portal [] e = refl
none_waits portal (x ∷ xs) e = by (is_at portal x) e (none_waits portal xs)
  where
    by : (b : Bool) → cond b (Some x) (find (is_at portal) xs) ≡ None → (find (is_at portal) xs ≡ None → waiting_at portal (map waiting_of xs) ≡ []) → map (λ w. w.dial) (cond b (waiting_of x ∷ filter (waits_at portal) (map waiting_of xs)) (filter (waits_at portal) (map waiting_of xs))) ≡ []
    by true k rest = cc
    by false k rest = rest k

-- the first end that is found at a portal has the first number that waits there
first_waits : (portal : List ℕ) (ends : List FarEnd) (end : FarEnd) → find (is_at portal) ends ≡ Some end → (behind : List ℕ) × (waiting_at portal (map waiting_of ends) ≡ end.dial ∷ behind)
first_waits portal [] end e = cc
first_waits portal (x ∷ xs) end e = by (is_at portal x) e (first_waits portal xs end)
  where
    by : (b : Bool) → cond b (Some x) (find (is_at portal) xs) ≡ Some end → (find (is_at portal) xs ≡ Some end → (behind : List ℕ) × (waiting_at portal (map waiting_of xs) ≡ end.dial ∷ behind)) → (behind : List ℕ) × (map (λ w. w.dial) (cond b (waiting_of x ∷ filter (waits_at portal) (map waiting_of xs)) (filter (waits_at portal) (map waiting_of xs))) ≡ end.dial ∷ behind)
    by true k rest = let same : x ≡ end = cc in (waiting_at portal (map waiting_of xs), ap (λ (y : FarEnd). y.dial ∷ waiting_at portal (map waiting_of xs)) same)
    by false k rest = rest k

-- taken out, the first end at a portal waits no more
waiting-without_first : (portal : List ℕ) (ends : List FarEnd) → map waiting_of (without_first (is_at portal) ends) ≡ without_first (waits_at portal) (map waiting_of ends)
waiting-without_first portal [] = refl
waiting-without_first portal (x ∷ xs) = by (is_at portal x) (waiting-without_first portal xs)
  where
    by : (b : Bool) → map waiting_of (without_first (is_at portal) xs) ≡ without_first (waits_at portal) (map waiting_of xs) → map waiting_of (cond b xs (x ∷ without_first (is_at portal) xs)) ≡ cond b (map waiting_of xs) (waiting_of x ∷ without_first (waits_at portal) (map waiting_of xs))
    by true rest = refl
    by false rest = ap (λ ws. waiting_of x ∷ ws) rest

pub same_Some : {X : Type 0} (x y : X) → Some x ≡ Some y → x ≡ y
same_Some x y e = ap (λ o. unwrap_or o x) e

-- what a net tells of an accept
told : (portal : List ℕ) (s t : MemNetwork) (o : Option (ReadingEnd × WritingEnd)) → MatchOption o (FindsNone portal (called s) t) (λ link. TakesEnd portal (called s) t link.0 link.1) → MatchOption o (NoneWaits portal (Some (mem_state s)) × (Some (mem_state t) ≡ Some (mem_state s))) (λ link. Accepts (Some (read_half link.0)) (Some (write_half link.1)) portal (Some (mem_state s)) (Some (mem_state t)))
told portal s t None h = (
  λ u e. ap (λ (v : NetState). waiting_at portal v.waiting) (sym (same_Some (mem_state s) u e)) ∙ none_waits portal s.ends h.0,
  ap (λ (n : MemNetwork). Some (mem_state n)) h.1,
)
told portal s t (Some link) h = record {
  dial = h.end.dial;
  first = λ u e. let f = first_waits portal s.ends h.end h.first in (f.0, ap (λ (v : NetState). waiting_at portal v.waiting) (sym (same_Some (mem_state s) u e)) ∙ f.1);
  read_half =
      ap (λ (r : ReadingEnd). Some (read_half r)) h.read_half
      ∙ ap (λ (p : Reader). Some (record { dial = h.end.dial; accepted = true; taken = p.taken; calls = 0; last = None })) h.fresh.0;
  write_half =
      ap (λ (w : WritingEnd). Some (write_half w)) h.write_half
      ∙ ap (λ (p : Writer). Some (record { dial = h.end.dial; accepted = true; given = p.given; calls = 0; last = None })) h.fresh.1;
  net =
      ap (λ (n : MemNetwork). Some (mem_state n)) h.net
      ∙ ap (λ (ws : List Waiting). Some (record (mem_state s) { accepted = s.accepted ++ h.end.dial ∷ []; waiting = ws })) (waiting-without_first portal s.ends);
}

pub accept_told : (portal : List ℕ) (s numbered t : MemNetwork) (o : Option (ReadingEnd × WritingEnd)) → numbered ≡ called s → MatchOption o (FindsNone portal numbered t) (λ link. TakesEnd portal numbered t link.0 link.1) → MatchOption o (NoneWaits portal (Some (mem_state s)) × (Some (mem_state t) ≡ Some (mem_state s))) (λ link. Accepts (Some (read_half link.0)) (Some (write_half link.1)) portal (Some (mem_state s)) (Some (mem_state t)))
accept_told portal s numbered t o e h = told portal s t o (subst (λ (n : MemNetwork). MatchOption o (FindsNone portal n t) (λ link. TakesEnd portal n t link.0 link.1)) e h)

-- the numbers that wait at a net over memory are those of its dials
pub known_told : (s : MemNetwork) → All (λ (e : FarEnd). e.dial < length s.dialled) s.ends → AreDialled (Some (mem_state s))
known_told s h u e =
    subst (λ (v : NetState). All (λ (w : Waiting). w.dial < length v.dialled) v.waiting) (same_Some (mem_state s) u e)
    (All-map (λ (w : Waiting). w.dial < length s.dialled) waiting_of s.ends h)

-- with one dial more, and its end among those that wait
pub known_more : (n m : ℕ) (es fs : List FarEnd) (e : FarEnd) → All (λ (x : FarEnd). x.dial < n) es → e.dial ≡ n → m ≡ n + 1 → fs ≡ es ++ e ∷ [] → All (λ (x : FarEnd). x.dial < m) fs
known_more n m es fs e h is more pushed =
    All-same (λ (x : FarEnd). x.dial < m) _ _ pushed (All-push (λ (x : FarEnd). x.dial < m) es e (λ k d lt. let low : (get_or es k d).dial < n = h k d lt in omega arith) (omega arith))

-- with one end fewer
pub known_rest : (n at : ℕ) (es fs : List FarEnd) → All (λ (x : FarEnd). x.dial < n) es → fs ≡ remove es at → All (λ (x : FarEnd). x.dial < n) fs
known_rest n at es fs h rest =
    All-same (λ (x : FarEnd). x.dial < n) _ _ rest (All-append (λ (x : FarEnd). x.dial < n) (take at es) (drop (suc at) es) (All-take (λ (x : FarEnd). x.dial < n) at es h) (All-drop (λ (x : FarEnd). x.dial < n) (suc at) es h))
