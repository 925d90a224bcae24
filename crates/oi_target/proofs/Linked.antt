-- The connections of a target keep their numbers and their bytes while PDUs of one of them are served.
use Rattle.std.proofs.Common.{ℕ, Bool, true, false, ◌≡◌, ◌∙◌, Some, None, List, [], ◌∷◌, map, refl, ap, sym, subst, if◌then◌else◌, ◌==◌}
use Rattle.oi_pdu.specs.declared.codec.Pdu.{Pdu}
use Rattle.oi_target.proofs.Told.{AreTold, step_told}
use Rattle.oi_target.specs.Steps.{Step, logged_in_by, one_then, received_by, stepped, steps, with_words}
use Rattle.oi_target.specs.Targets.{Target, ended_by, ended_standing, learned, link_of, nexus_of, reset_each}
use Rattle.oi_target.specs.declared.link.Link.{Link}
use Rattle.oi_target.specs.declared.link.Standing.{Standing}
use Rattle.oi_target.specs.declared.link.Standing.TheVariants as standing
use Rattle.oi_target_login.specs.Logins.{turned}
use Rattle.oi_target_login.specs.declared.answer.Answer.{Answer}
use Rattle.oi_target_login.specs.declared.answer.Verdict.{Verdict}
use Rattle.oi_target_login.specs.declared.answer.Verdict.TheVariants as verdict
use Rattle.oi_target_session.specs.declared.fed.Fed.{Fed}
use Rattle.oi_target_session.specs.declared.fed.Fed.TheVariants.{Going, Closed}
use Rattle.oi_target_session.specs.declared.reset.Reset.{Reset}
use Rattle.oi_units.specs.declared.unit.LogicalUnit.{LogicalUnit}

-- bytes of it are cut into PDUs
abbrev pub is_open : Standing → Bool
is_open (standing.LoggingIn p) = true
is_open (standing.Serving v) = true
is_open s = false

-- the same connection, which is open only where it was
pub record IsKept (old new : Link) : Type 0 where
  pub number : new.number ≡ old.number
  pub splitter : new.splitter ≡ old.splitter
  pub opens : is_open new.standing ≡ true → is_open old.standing ≡ true

abbrev pub AreKept : List Link → List Link → Type 0
AreKept [] [] = Unit {0}
AreKept (l ∷ ls) (k ∷ ks) = IsKept l k × AreKept ls ks
AreKept [] (k ∷ ks) = ⊥
AreKept (l ∷ ls) [] = ⊥

pub kept_all : (ls : List Link) → AreKept ls ls
kept_all [] = tt
kept_all (l ∷ ls) = (record { number = refl; splitter = refl; opens = λ h. h }, kept_all ls)

kept_through : (ls ks js : List Link) → AreKept ls ks → AreKept ks js → AreKept ls js
kept_through [] [] [] a b = tt
kept_through (l ∷ ls) (k ∷ ks) (j ∷ js) a b =
    (record { number = b.0.number ∙ a.0.number; splitter = b.0.splitter ∙ a.0.splitter; opens = λ h. a.0.opens (b.0.opens h) }, kept_through ls ks js a.1 b.1)
kept_through [] [] (j ∷ js) a b = absurd b
kept_through [] (k ∷ ks) js a b = absurd a
kept_through (l ∷ ls) [] js a b = absurd a
kept_through (l ∷ ls) (k ∷ ks) [] a b = absurd b

ended_opens : (nexus : List ℕ) (s : Standing) → is_open (ended_standing nexus s) ≡ true → is_open s ≡ true
ended_opens nexus (standing.LoggingIn p) h = refl
ended_opens nexus (standing.Serving v) h = refl
ended_opens nexus standing.Ended h = h
ended_opens nexus standing.Closed h = h

learned_opens : (reset : Reset) (units : List LogicalUnit) (s : Standing) → is_open (learned reset units s).standing ≡ true → is_open s ≡ true
learned_opens reset units (standing.LoggingIn p) h = refl
learned_opens reset units (standing.Serving v) h = refl
learned_opens reset units standing.Ended h = h
learned_opens reset units standing.Closed h = h

ended_kept : (nexus : List ℕ) (ls : List Link) → AreKept ls (map (ended_by nexus) ls)
ended_kept nexus [] = tt
ended_kept nexus (l ∷ ls) = (record { number = refl; splitter = refl; opens = ended_opens nexus l.standing }, ended_kept nexus ls)

each_kept : (reset : Reset) (units : List LogicalUnit) (ls : List Link) → AreKept ls (reset_each reset units ls).links
each_kept reset units [] = tt
each_kept reset units (l ∷ ls) =
    (record { number = refl; splitter = refl; opens = learned_opens reset units l.standing }, each_kept reset (learned reset units l.standing).units ls)

told_kept : (resets : List Reset) (ls ks : List Link) → AreTold resets ls ks → AreKept ls ks
told_kept [] ls ks told = subst (λ (z : List Link). AreKept ls z) (sym told) (kept_all ls)
told_kept (reset ∷ resets) ls ks told =
    kept_through ls (reset_each reset told.0 ls).links ks (each_kept reset told.0 ls) (told_kept resets (reset_each reset told.0 ls).links ks told.1)

login_kept : (t : Target) (a : Answer) (v : Verdict) → AreKept t.links (logged_in_by t a v).target.links
login_kept t a verdict.Going = kept_all t.links
login_kept t a verdict.Closed = kept_all t.links
login_kept t a (verdict.Done s) = ended_kept (nexus_of s.who) t.links

step_kept : (t : Target) (s : Standing) (p : Pdu) → AreKept t.links (stepped t s p).target.links
step_kept t (standing.LoggingIn login) p =
    login_kept (with_words t (turned t.rules t.handle login p t.words).words) (turned t.rules t.handle login p t.words).answer
    (turned t.rules t.handle login p t.words).answer.verdict
step_kept t (standing.Serving v) p = told_kept (received_by v t p).resets t.links (received_by v t p).target.links (step_told t v p).links
step_kept t standing.Ended p = kept_all t.links
step_kept t standing.Closed p = kept_all t.links

pub steps_kept : (t : Target) (s : Standing) (ps : List Pdu) → AreKept t.links (steps t s ps).target.links
steps_kept t s [] = kept_all t.links
steps_kept t s (p ∷ ps) = go a.fed (step_kept t s p) (steps_kept a.target a.standing ps) where
  a : Step
  a = stepped t s p

  go : (f : Fed) → AreKept t.links a.target.links → AreKept a.target.links (steps a.target a.standing ps).target.links
      → AreKept t.links (one_then f a (steps a.target a.standing ps)).target.links
  go Closed one more = one
  go Going one more = kept_through t.links a.target.links (steps a.target a.standing ps).target.links one more

-- what is found among connections that were kept
pub record FindsKept (n : ℕ) (ls : List Link) (k : Link) : Type 0 where
  pub link : Link
  pub found : link_of n ls ≡ Some link
  pub kept : IsKept link k

some_link : (a b : Link) → Some a ≡ Some b → a ≡ b
some_link a b e = cc

not_link : {C : Type 0} (l : Link) → None ≡ Some l → C
not_link l e = absurd (let n : ⊥ = cc in n)

pub finds_kept : (n : ℕ) (ls ks : List Link) (k : Link) → AreKept ls ks → link_of n ks ≡ Some k → FindsKept n ls k
finds_kept n [] [] k are is = not_link k is
finds_kept n [] (j ∷ js) k are is = absurd are
finds_kept n (l ∷ ls) [] k are is = absurd are
finds_kept n (l ∷ ls) (j ∷ js) k are is = go (j.number == n) (l.number == n) refl (ap (λ (z : ℕ). z == n) (sym are.0.number)) is (λ h. finds_kept n ls js k are.1 h) where
  go : (b d : Bool) → (l.number == n) ≡ d → d ≡ b → (if b then Some j else link_of n js) ≡ Some k → (link_of n js ≡ Some k → FindsKept n ls k) → FindsKept n (l ∷ ls) k
  go true true at same h more = record {
    link = l;
    found = ap (λ (z : Bool). if z then Some l else link_of n ls) at;
    kept = subst (λ (z : Link). IsKept l z) (some_link j k h) are.0;
  }
  go false false at same h more =
      let rest = more h in record { link = rest.link; found = ap (λ (z : Bool). if z then Some l else link_of n ls) at ∙ rest.found; kept = rest.kept }
  go true false at same h more = absurd (let e : ⊥ = cc in e)
  go false true at same h more = absurd (let e : ⊥ = cc in e)
