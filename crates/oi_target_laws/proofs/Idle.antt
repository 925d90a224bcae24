-- Of a connection behind another one of its number nothing came.
use Rattle.std.proofs.Common.{ℕ, Bool, true, false, ◌≡◌, ◌∙◌, ◌⊎◌, inl, inr, Some, List, [], ◌∷◌, ◌++◌, map, refl, ap, sym, subst, if◌then◌else◌, ◌==◌}
use Rattle.std.proofs.lemmas.Bool.{eq-eqb, eqb-true}
use Rattle.oi_target.proofs.Numbered.{true_not}
use Rattle.oi_target.specs.Targets.{link_of, placed, without}
use Rattle.oi_target.specs.declared.link.Link.{Link}
use Rattle.oi_target.specs.declared.link.Standing.{Standing}
use Rattle.oi_target.specs.declared.link.Standing.TheVariants as standing
use Rattle.oi_target_login.specs.Logins.{fresh}
use Rattle.oi_target_laws.specs.Histories.{standing_in, standing_of, tasks_at, tasks_in}

-- it has a session
abbrev pub is_serving : Standing → Bool
is_serving (standing.Serving v) = true
is_serving s = false

-- nothing came of it
abbrev pub IsNew : Standing → Type 0
IsNew s = s ≡ standing.LoggingIn (fresh (record { 0 = 1 }))

-- nothing came of those of this number
abbrev pub AreIdle : ℕ → List Link → Type 0
AreIdle n [] = Unit {0}
AreIdle n (l ∷ ls) = ((l.number == n) ≡ true → IsNew l.standing) × AreIdle n ls

-- nothing came of all but the first one
abbrev pub OneIsBusy : ℕ → List Link → Type 0
OneIsBusy n ls = AreIdle n (without n ls)

pub idle_standing : (n : ℕ) (ls : List Link) → AreIdle n ls → (standing_in n ls ≡ standing.Closed) ⊎ IsNew (standing_in n ls)
idle_standing n [] i = inl refl
idle_standing n (l ∷ ls) i = go (l.number == n) refl (idle_standing n ls i.1) where
  go : (b : Bool) → (l.number == n) ≡ b → (standing_in n ls ≡ standing.Closed) ⊎ IsNew (standing_in n ls)
      → (standing_of (if b then Some l else link_of n ls) ≡ standing.Closed) ⊎ IsNew (standing_of (if b then Some l else link_of n ls))
  go true is was = inr (i.0 is)
  go false is was = was

not_serving : (s : Standing) → (s ≡ standing.Closed) ⊎ IsNew s → is_serving s ≡ false
not_serving s (inl closed) = ap is_serving closed
not_serving s (inr new) = ap is_serving new

no_tasks : (s : Standing) → (s ≡ standing.Closed) ⊎ IsNew s → tasks_at s ≡ []
no_tasks s (inl closed) = ap tasks_at closed
no_tasks s (inr new) = ap tasks_at new

pub idle_serves : (n : ℕ) (ls : List Link) → AreIdle n ls → is_serving (standing_in n ls) ≡ false
idle_serves n ls i = not_serving (standing_in n ls) (idle_standing n ls i)

pub idle_tasks : (n : ℕ) (ls : List Link) → AreIdle n ls → tasks_in n ls ≡ []
idle_tasks n ls i = no_tasks (standing_in n ls) (idle_standing n ls i)

idle_behind : (n : ℕ) (k : Link) (ls : List Link) → IsNew k.standing → AreIdle n ls → AreIdle n (ls ++ k ∷ [])
idle_behind n k [] none i = (λ is. none, tt)
idle_behind n k (l ∷ ls) none i = (i.0, idle_behind n k ls none i.1)

idle_without : (n m : ℕ) (ls : List Link) → AreIdle n ls → AreIdle n (without m ls)
idle_without n m [] i = tt
idle_without n m (l ∷ ls) i = go (l.number == m) (idle_without n m ls i.1) where
  go : (b : Bool) → AreIdle n (without m ls) → AreIdle n (if b then ls else l ∷ without m ls)
  go true was = i.1
  go false was = (i.0, was)

idle_placed : (n : ℕ) (k : Link) (ls : List Link) → (k.number == n) ≡ false → AreIdle n ls → AreIdle n (placed k ls)
idle_placed n k [] other i = tt
idle_placed n k (l ∷ ls) other i = go (l.number == k.number) (idle_placed n k ls other i.1) where
  go : (b : Bool) → AreIdle n (placed k ls) → AreIdle n (if b then k ∷ ls else l ∷ placed k ls)
  go true was = (λ is. true_not (sym is ∙ other), i.1)
  go false was = (i.0, was)

-- the first one, and the others
first_or : (n : ℕ) (l : Link) (ls ms : List Link) → OneIsBusy n (l ∷ ls) → (AreIdle n ls → AreIdle n ms) → (OneIsBusy n ls → OneIsBusy n ms) → OneIsBusy n (l ∷ ms)
first_or n l ls ms i same more = go (l.number == n) refl i where
  go : (b : Bool) → (l.number == n) ≡ b → AreIdle n (if b then ls else l ∷ without n ls) → AreIdle n (without n (l ∷ ms))
  go true is h = subst (λ (b : Bool). AreIdle n (if b then ms else l ∷ without n ms)) (sym is) (same h)
  go false is h = subst (λ (b : Bool). AreIdle n (if b then ms else l ∷ without n ms)) (sym is) (h.0, more h.1)

pub later_busy : (n : ℕ) (l : Link) (ls : List Link) → OneIsBusy n (l ∷ ls) → OneIsBusy n ls
later_busy n l ls i = go (l.number == n) i where
  go : (b : Bool) → AreIdle n (if b then ls else l ∷ without n ls) → OneIsBusy n ls
  go true h = idle_without n n ls h
  go false h = h.1

pub busy_behind : (n : ℕ) (k : Link) (ls : List Link) → IsNew k.standing → OneIsBusy n ls → OneIsBusy n (ls ++ k ∷ [])
busy_behind n k [] none i = idle_without n n (k ∷ []) (λ is. none, tt)
busy_behind n k (l ∷ ls) none i = first_or n l ls (ls ++ k ∷ []) i (λ h. idle_behind n k ls none h) (λ h. busy_behind n k ls none h)

pub busy_without : (n m : ℕ) (ls : List Link) → OneIsBusy n ls → OneIsBusy n (without m ls)
busy_without n m [] i = tt
busy_without n m (l ∷ ls) i = go (l.number == m) (first_or n l ls (without m ls) i (λ h. idle_without n m ls h) (λ h. busy_without n m ls h)) where
  go : (b : Bool) → OneIsBusy n (l ∷ without m ls) → OneIsBusy n (if b then ls else l ∷ without m ls)
  go true was = later_busy n l ls i
  go false was = was

-- another one in the place of the first one
placed_first : (n : ℕ) (k l : Link) (ls : List Link) → l.number ≡ k.number → OneIsBusy n (l ∷ ls) → OneIsBusy n (k ∷ ls)
placed_first n k l ls same i = go (k.number == n) refl (subst (λ (z : ℕ). AreIdle n (if z == n then ls else l ∷ without n ls)) same i) where
  go : (b : Bool) → (k.number == n) ≡ b → AreIdle n (if b then ls else l ∷ without n ls) → OneIsBusy n (k ∷ ls)
  go true is h = subst (λ (b : Bool). AreIdle n (if b then ls else k ∷ without n ls)) (sym is) h
  go false is h = subst (λ (b : Bool). AreIdle n (if b then ls else k ∷ without n ls)) (sym is) (λ e. true_not (sym e ∙ is), h.1)

other_number : (n : ℕ) (k l : Link) → (l.number == k.number) ≡ false → (l.number == n) ≡ true → (k.number == n) ≡ false
other_number n k l apart is = go (k.number == n) refl where
  go : (b : Bool) → (k.number == n) ≡ b → (k.number == n) ≡ false
  go true e = true_not (sym (eq-eqb l.number k.number (eqb-true l.number n is ∙ sym (eqb-true k.number n e))) ∙ apart)
  go false e = e

pub busy_placed : (n : ℕ) (k : Link) (ls : List Link) → OneIsBusy n ls → OneIsBusy n (placed k ls)
busy_placed n k [] i = tt
busy_placed n k (l ∷ ls) i = go (l.number == k.number) refl (λ h. busy_placed n k ls h) where
  apart : (l.number == k.number) ≡ false → (b : Bool) → (l.number == n) ≡ b → AreIdle n (if b then ls else l ∷ without n ls)
      → (OneIsBusy n ls → OneIsBusy n (placed k ls)) → AreIdle n (if b then placed k ls else l ∷ without n (placed k ls))
  apart d true is h more = idle_placed n k ls (other_number n k l d is) h
  apart d false is h more = (h.0, more h.1)

  go : (b : Bool) → (l.number == k.number) ≡ b → (OneIsBusy n ls → OneIsBusy n (placed k ls)) → OneIsBusy n (if b then k ∷ ls else l ∷ placed k ls)
  go true is more = placed_first n k l ls (eqb-true l.number k.number is) i
  go false is more = apart is (l.number == n) refl i more

-- all changed
idle_map : (n : ℕ) (g : Link → Link) → ((l : Link) → (g l).number ≡ l.number) → ((l : Link) → IsNew l.standing → IsNew (g l).standing) → (ls : List Link)
    → AreIdle n ls → AreIdle n (map g ls)
idle_map n g keeps idles [] i = tt
idle_map n g keeps idles (l ∷ ls) i =
    (λ is. idles l (i.0 (ap (λ (z : ℕ). z == n) (sym (keeps l)) ∙ is)), idle_map n g keeps idles ls i.1)

pub busy_map : (n : ℕ) (g : Link → Link) → ((l : Link) → (g l).number ≡ l.number) → ((l : Link) → IsNew l.standing → IsNew (g l).standing) → (ls : List Link)
    → OneIsBusy n ls → OneIsBusy n (map g ls)
busy_map n g keeps idles [] i = tt
busy_map n g keeps idles (l ∷ ls) i =
    subst (λ (z : ℕ). AreIdle n (if z == n then map g ls else g l ∷ without n (map g ls))) (sym (keeps l)) (go (l.number == n) i (λ h. busy_map n g keeps idles ls h)) where
      go : (b : Bool) → AreIdle n (if b then ls else l ∷ without n ls) → (OneIsBusy n ls → OneIsBusy n (map g ls)) → AreIdle n (if b then map g ls else g l ∷ without n (map g ls))
      go true h more = idle_map n g keeps idles ls h
      go false h more = (λ is. idles l (h.0 (ap (λ (z : ℕ). z == n) (sym (keeps l)) ∙ is)), more h.1)
