-- A connection in the place of another one of its number.
use Rattle.std.proofs.Common.{ℕ, Bool, true, false, ◌≡◌, ◌∙◌, Option, Some, None, List, [], ◌∷◌, map, refl, ap, sym, if◌then◌else◌, ◌==◌}
use Rattle.std.proofs.lemmas.Bool.{eq-eqb, eqb-true}
use Rattle.oi_target.specs.Targets.{link_at, link_of, placed}
use Rattle.oi_target.specs.declared.link.Link.{Link}

abbrev pub over : (Link → Link) → Option Link → Option Link
over g None = None
over g (Some l) = Some (g l)

pub same_link : (a b : Link) → Some a ≡ Some b → a ≡ b
same_link a b e = cc

pub none_some : {C : Type 0} (l : Link) → None ≡ Some l → C
none_some l e = absurd (let n : ⊥ = cc in n)

pub some_none : {C : Type 0} (l : Link) → Some l ≡ None → C
some_none l e = absurd (let n : ⊥ = cc in n)

pub itself : (n : ℕ) → (n == n) ≡ true
itself n = eq-eqb n n refl

-- all links changed, with their numbers kept
pub link_map : (g : Link → Link) → ((l : Link) → (g l).number ≡ l.number) → (n : ℕ) (ls : List Link) → link_of n (map g ls) ≡ over g (link_of n ls)
link_map g keeps n [] = refl
link_map g keeps n (l ∷ ls) =
    ap (λ (z : ℕ). if z == n then Some (g l) else link_of n (map g ls)) (keeps l) ∙ go (l.number == n) (link_map g keeps n ls) where
      go : (b : Bool) → link_of n (map g ls) ≡ over g (link_of n ls)
          → (if b then Some (g l) else link_of n (map g ls)) ≡ over g (if b then Some l else link_of n ls)
      go true was = refl
      go false was = was

pub placed_map : (g : Link → Link) → ((l : Link) → (g l).number ≡ l.number) → (k : Link) (ls : List Link) → map g (placed k ls) ≡ placed (g k) (map g ls)
placed_map g keeps k [] = refl
placed_map g keeps k (l ∷ ls) =
    go (l.number == k.number) (placed_map g keeps k ls)
    ∙ ap (λ (z : ℕ). if z == k.number then g k ∷ map g ls else g l ∷ placed (g k) (map g ls)) (sym (keeps l))
    ∙ ap (λ (z : ℕ). if (g l).number == z then g k ∷ map g ls else g l ∷ placed (g k) (map g ls)) (sym (keeps k)) where
      go : (b : Bool) → map g (placed k ls) ≡ placed (g k) (map g ls)
          → map g (if b then k ∷ ls else l ∷ placed k ls) ≡ (if b then g k ∷ map g ls else g l ∷ placed (g k) (map g ls))
      go true was = refl
      go false was = ap (λ (z : List Link). g l ∷ z) was

-- it is found where one of its number was
pub link_placed : (k : Link) (ls : List Link) → link_of k.number (placed k ls) ≡ over (λ l. k) (link_of k.number ls)
link_placed k [] = refl
link_placed k (l ∷ ls) = go (l.number == k.number) refl (link_placed k ls) where
  go : (b : Bool) → (l.number == k.number) ≡ b → link_of k.number (placed k ls) ≡ over (λ l. k) (link_of k.number ls)
      → link_of k.number (if b then k ∷ ls else l ∷ placed k ls) ≡ over (λ l. k) (if b then Some l else link_of k.number ls)
  go true is was = ap (λ (b : Bool). if b then Some k else link_of k.number ls) (itself k.number)
  go false is was = ap (λ (b : Bool). if b then Some l else link_of k.number (placed k ls)) is ∙ was

-- and the others as before
pub others_placed : (n : ℕ) (k : Link) (ls : List Link) → (k.number == n) ≡ false → link_of n (placed k ls) ≡ link_of n ls
others_placed n k [] d = refl
others_placed n k (l ∷ ls) d = go (l.number == k.number) refl (others_placed n k ls d) where
  go : (b : Bool) → (l.number == k.number) ≡ b → link_of n (placed k ls) ≡ link_of n ls
      → link_of n (if b then k ∷ ls else l ∷ placed k ls) ≡ (if l.number == n then Some l else link_of n ls)
  go true is was =
      ap (λ (b : Bool). if b then Some k else link_of n ls) d
      ∙ sym (ap (λ (b : Bool). if b then Some l else link_of n ls) (ap (λ (z : ℕ). z == n) (eqb-true l.number k.number is) ∙ d))
  go false is was = ap (λ (o : Option Link). if l.number == n then Some l else o) was

-- the last one counts
pub placed_twice : (k j : Link) (ls : List Link) → j.number ≡ k.number → placed k (placed j ls) ≡ placed k ls
placed_twice k j [] same = refl
placed_twice k j (l ∷ ls) same =
    ap (λ (z : ℕ). placed k (if l.number == z then j ∷ ls else l ∷ placed j ls)) same ∙ go (l.number == k.number) refl (placed_twice k j ls same) where
      go : (b : Bool) → (l.number == k.number) ≡ b → placed k (placed j ls) ≡ placed k ls
          → placed k (if b then j ∷ ls else l ∷ placed j ls) ≡ (if b then k ∷ ls else l ∷ placed k ls)
      go true is was = ap (λ (b : Bool). if b then k ∷ ls else j ∷ placed k ls) (ap (λ (z : ℕ). z == k.number) same ∙ itself k.number)
      go false is was = ap (λ (b : Bool). if b then k ∷ placed j ls else l ∷ placed k (placed j ls)) is ∙ ap (λ (z : List Link). l ∷ z) was

-- the one that was there
pub placed_same : (n : ℕ) (ls : List Link) (l : Link) → link_of n ls ≡ Some l → placed (link_at n l.splitter l.standing) ls ≡ ls
placed_same n [] l found = none_some l found
placed_same n (x ∷ xs) l found = go (x.number == n) refl found (λ e. placed_same n xs l e) where
  go : (b : Bool) → (x.number == n) ≡ b → (if b then Some x else link_of n xs) ≡ Some l → (link_of n xs ≡ Some l → placed (link_at n l.splitter l.standing) xs ≡ xs)
      → (if b then link_at n l.splitter l.standing ∷ xs else x ∷ placed (link_at n l.splitter l.standing) xs) ≡ x ∷ xs
  go true is e more =
      ap (λ (z : Link). link_at n z.splitter z.standing ∷ xs) (sym (same_link x l e))
      ∙ ap (λ (z : ℕ). link_at z x.splitter x.standing ∷ xs) (sym (eqb-true x.number n is))
  go false is e more = ap (λ (z : List Link). x ∷ z) (more e)

-- where none has its number
pub placed_none : (k : Link) (ls : List Link) → link_of k.number ls ≡ None → placed k ls ≡ ls
placed_none k [] none = refl
placed_none k (l ∷ ls) none = go (l.number == k.number) none (λ e. placed_none k ls e) where
  go : (b : Bool) → (if b then Some l else link_of k.number ls) ≡ None → (link_of k.number ls ≡ None → placed k ls ≡ ls)
      → (if b then k ∷ ls else l ∷ placed k ls) ≡ l ∷ ls
  go true e more = some_none l e
  go false e more = ap (λ (z : List Link). l ∷ z) (more e)
