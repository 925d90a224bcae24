-- From the commands that waited, by those that came, to those that wait.
use Rattle.std.proofs.Common.{ℕ, ◌+◌, Bool, true, false, cond, not, ◌≡◌, ◌∙◌, inl, inr, List, [], ◌∷◌, ◌++◌, refl, ap, sym, subst, arith, append-nil, append_assoc, filter}
use Rattle.std.proofs.lemmas.List.Sums.{sum_by-append, sum_by-cons}
use Rattle.std.specs.List.{count_by}
use Rattle.oi_target_laws.specs.Turned.{commands_of}
use Rattle.oi_target_laws.specs.Within.{Within}
use Rattle.oi_target_tasks.specs.declared.task.Task.{Task}
use Rattle.oi_units.specs.declared.command.UnitCommand.{UnitCommand}

pub within_past : (d : UnitCommand) (cs ds : List UnitCommand) → Within cs ds → Within cs (d ∷ ds)
within_past d [] ds w = tt
within_past d (c ∷ cs) ds w = inr w

pub within_all : (cs : List UnitCommand) → Within cs cs
within_all [] = tt
within_all (c ∷ cs) = inl (refl, within_all cs)

pub within_through : (cs ds es : List UnitCommand) → Within cs ds → Within ds es → Within cs es
within_through [] ds es v w = tt
within_through (c ∷ cs) [] es v w = absurd v
within_through (c ∷ cs) (d ∷ ds) [] v w = absurd w
within_through (c ∷ cs) (d ∷ ds) (e ∷ es) v (inr w) = inr (within_through (c ∷ cs) (d ∷ ds) es v w)
within_through (c ∷ cs) (d ∷ ds) (e ∷ es) (inl v) (inl w) = inl (v.0 ∙ w.0, within_through cs ds es v.1 w.1)
within_through (c ∷ cs) (d ∷ ds) (e ∷ es) (inr v) (inl w) = inr (within_through (c ∷ cs) ds es v w.1)

pub within_join : (gs bs cs ds : List UnitCommand) → Within gs bs → Within cs ds → Within (gs ++ cs) (bs ++ ds)
within_join [] [] cs ds v w = w
within_join [] (b ∷ bs) cs ds v w = within_past b cs (bs ++ ds) (within_join [] bs cs ds tt w)
within_join (a ∷ gs) [] cs ds v w = absurd v
within_join (a ∷ gs) (b ∷ bs) cs ds (inl v) w = inl (v.0, within_join gs bs cs ds v.1 w)
within_join (a ∷ gs) (b ∷ bs) cs ds (inr v) w = inr (within_join (a ∷ gs) bs cs ds v w)

pub count_join : (f : UnitCommand → Bool) (cs ds : List UnitCommand) → count_by f (cs ++ ds) ≡ count_by f cs + count_by f ds
count_join f cs ds = sum_by-append (λ c. cond (f c) 1 0) cs ds

count_first : (f : UnitCommand → Bool) (c : UnitCommand) (cs : List UnitCommand) → count_by f (c ∷ cs) ≡ cond (f c) 1 0 + count_by f cs
count_first f c cs = sum_by-cons (λ d. cond (f d) 1 0) c cs

-- what waited and what came is executed, ended or waits, in order
pub record Moves (waited came executed ended waits : List UnitCommand) : Type 0 where
  pub order : Within (executed ++ waits) (waited ++ came)
  pub count : (f : UnitCommand → Bool) → count_by f (waited ++ came) ≡ count_by f executed + (count_by f ended + count_by f waits)

no_more : (n : ℕ) → n ≡ 0 + (n + 0)
no_more n = omega arith

zero_first : (n : ℕ) → n ≡ 0 + n
zero_first n = omega arith

none_first : (n : ℕ) → n ≡ 0 + (0 + n)
none_first n = omega arith

-- nothing happens
pub stays : (ws : List UnitCommand) → Moves ws [] [] [] ws
stays ws = record {
  order = subst (λ (z : List UnitCommand). Within ws z) (sym (append-nil ws)) (within_all ws);
  count = λ f. ap (count_by f) (append-nil ws) ∙ none_first (count_by f ws);
}

-- all end
pub ends : (ws : List UnitCommand) → Moves ws [] [] ws []
ends ws = record {
  order = tt;
  count = λ f. ap (count_by f) (append-nil ws) ∙ no_more (count_by f ws);
}

-- some come
pub joins : (ws cs : List UnitCommand) → Moves ws cs [] [] (ws ++ cs)
joins ws cs = record { order = within_all (ws ++ cs); count = λ f. none_first (count_by f (ws ++ cs)) }

-- the first are executed
pub executes : (es ws : List UnitCommand) → Moves (es ++ ws) [] es [] ws
executes es ws = record {
  order = subst (λ (z : List UnitCommand). Within (es ++ ws) z) (sym (append-nil (es ++ ws))) (within_all (es ++ ws));
  count = λ f. ap (count_by f) (append-nil (es ++ ws)) ∙ count_join f es ws ∙ ap (λ (n : ℕ). count_by f es + n) (zero_first (count_by f ws));
}

summed : (w a b c d e f m k wa mb ab cd ef wab : ℕ) → wa ≡ c + (e + m) → mb ≡ d + (f + k) → wa ≡ w + a → mb ≡ m + b → ab ≡ a + b → cd ≡ c + d → ef ≡ e + f → wab ≡ w + ab
    → wab ≡ cd + (ef + k)
summed w a b c d e f m k wa mb ab cd ef wab one two h1 h2 h3 h4 h5 h6 = omega arith

-- one after another
pub moves_on : (ws gs bs cs ds es fs ms ks : List UnitCommand) → Moves ws gs cs es ms → Moves ms bs ds fs ks → Moves ws (gs ++ bs) (cs ++ ds) (es ++ fs) ks
moves_on ws gs bs cs ds es fs ms ks one two = record {
  order = subst (λ (z : List UnitCommand). Within ((cs ++ ds) ++ ks) z) (append_assoc ws gs bs)
      (subst (λ (z : List UnitCommand). Within z ((ws ++ gs) ++ bs)) (sym (append_assoc cs ds ks))
      (within_through (cs ++ (ds ++ ks)) (cs ++ (ms ++ bs)) ((ws ++ gs) ++ bs)
      (within_join cs cs (ds ++ ks) (ms ++ bs) (within_all cs) two.order)
      (subst (λ (z : List UnitCommand). Within z ((ws ++ gs) ++ bs)) (append_assoc cs ms bs)
      (within_join (cs ++ ms) (ws ++ gs) bs bs one.order (within_all bs)))));
  count = λ f. summed (count_by f ws) (count_by f gs) (count_by f bs) (count_by f cs) (count_by f ds) (count_by f es) (count_by f fs) (count_by f ms) (count_by f ks)
      (count_by f (ws ++ gs)) (count_by f (ms ++ bs)) (count_by f (gs ++ bs)) (count_by f (cs ++ ds)) (count_by f (es ++ fs)) (count_by f (ws ++ (gs ++ bs)))
      (one.count f) (two.count f) (count_join f ws gs) (count_join f ms bs) (count_join f gs bs) (count_join f cs ds) (count_join f es fs) (count_join f ws (gs ++ bs));
}

-- some tasks are taken out
pub within_kept : (p : Task → Bool) (ts : List Task) → Within (commands_of (filter (λ t. not (p t)) ts)) (commands_of ts)
within_kept p [] = tt
within_kept p (t ∷ ts) = go (p t) (within_kept p ts) where
  go : (b : Bool) → Within (commands_of (filter (λ t. not (p t)) ts)) (commands_of ts)
      → Within (commands_of (cond (not b) (t ∷ filter (λ t. not (p t)) ts) (filter (λ t. not (p t)) ts))) (t.command ∷ commands_of ts)
  go true w = within_past t.command (commands_of (filter (λ t. not (p t)) ts)) (commands_of ts) w
  go false w = inl (refl, w)

added : (one all some rest more : ℕ) → more ≡ one + some → all ≡ some + rest → one + all ≡ more + rest
added one all some rest more is was = omega arith

added_last : (one all some rest more : ℕ) → more ≡ one + rest → all ≡ some + rest → one + all ≡ some + more
added_last one all some rest more is was = omega arith

count_kept : (f : UnitCommand → Bool) (p : Task → Bool) (ts : List Task)
    → count_by f (commands_of ts) ≡ count_by f (commands_of (filter p ts)) + count_by f (commands_of (filter (λ t. not (p t)) ts))
count_kept f p [] = refl
count_kept f p (t ∷ ts) = count_first f t.command (commands_of ts) ∙ go (p t) (count_kept f p ts) where
  go : (b : Bool) → count_by f (commands_of ts) ≡ count_by f (commands_of (filter p ts)) + count_by f (commands_of (filter (λ t. not (p t)) ts))
      → cond (f t.command) 1 0 + count_by f (commands_of ts)
      ≡ count_by f (commands_of (cond b (t ∷ filter p ts) (filter p ts))) + count_by f (commands_of (cond (not b) (t ∷ filter (λ t. not (p t)) ts) (filter (λ t. not (p t)) ts)))
  go true w = let first : count_by f (t.command ∷ commands_of (filter p ts)) ≡ cond (f t.command) 1 0 + count_by f (commands_of (filter p ts)) = count_first f t.command (commands_of (filter p ts)) in
      added (cond (f t.command) 1 0) (count_by f (commands_of ts)) (count_by f (commands_of (filter p ts))) (count_by f (commands_of (filter (λ t. not (p t)) ts))) (count_by f (t.command ∷ commands_of (filter p ts))) first w
  go false w = let first : count_by f (t.command ∷ commands_of (filter (λ t. not (p t)) ts)) ≡ cond (f t.command) 1 0 + count_by f (commands_of (filter (λ t. not (p t)) ts)) = count_first f t.command (commands_of (filter (λ t. not (p t)) ts)) in
      added_last (cond (f t.command) 1 0) (count_by f (commands_of ts)) (count_by f (commands_of (filter p ts))) (count_by f (commands_of (filter (λ t. not (p t)) ts))) (count_by f (t.command ∷ commands_of (filter (λ t. not (p t)) ts))) first w

pub takes_out : (p : Task → Bool) (ts : List Task) → Moves (commands_of ts) [] [] (commands_of (filter p ts)) (commands_of (filter (λ t. not (p t)) ts))
takes_out p ts = record {
  order = subst (λ (z : List UnitCommand). Within (commands_of (filter (λ t. not (p t)) ts)) z) (sym (append-nil (commands_of ts))) (within_kept p ts);
  count = λ f. ap (count_by f) (append-nil (commands_of ts)) ∙ count_kept f p ts
      ∙ zero_first (count_by f (commands_of (filter p ts)) + count_by f (commands_of (filter (λ t. not (p t)) ts)));
}
