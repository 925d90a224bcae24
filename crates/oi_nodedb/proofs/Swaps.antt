-- The same facts of equal texts.
use Rattle.std.proofs.Common.{◌≡◌, ℕ, true, List, Option, Result, sym, ap, ◌∙◌, subst}
use Rattle.oi_outside.specs.Records.{Records}
use Rattle.oi_outside.specs.Stores.{Puts, Removes}
use Rattle.oi_outside.specs.declared.store_error.StoreError.{StoreError}
use Rattle.std.specs.Prelude.{Bool}
use Rattle.oi_settings.specs.Keys.{path_text}
use Rattle.oi_settings.specs.Schema.{Takes, is_open, table}
use Rattle.oi_settings.specs.Texts.{Node, text_of}

pub Puts-same : (r : Result (Unit {0}) StoreError) (p q t u : List ℕ) (old new : Option Records) → p ≡ q → t ≡ u → Puts r p t old new → Puts r q u old new
Puts-same r p q t u old new same alike puts =
    subst (λ (x : List ℕ). Puts r x u old new) same (subst (λ (x : List ℕ). Puts r p x old new) alike puts)

pub Removes-same : (r : Result Bool StoreError) (p q : List ℕ) (old new : Option Records) → p ≡ q → Removes r p old new → Removes r q old new
Removes-same r p q old new same removes = subst (λ (x : List ℕ). Removes r x old new) same removes

pub open_same : (m n : List ℕ) → m ≡ n → is_open n ≡ true → is_open m ≡ true
open_same m n same open_is = ap is_open same ∙ open_is

pub Takes-same : (m n v w : List ℕ) → m ≡ n → v ≡ w → Takes table n w → Takes table m v
Takes-same m n v w same alike takes =
    subst (λ (x : List ℕ). Takes table x v) (sym same) (subst (λ (x : List ℕ). Takes table n x) (sym alike) takes)

pub Puts-record : (r : Result (Unit {0}) StoreError) (a b : Node) (old new : Option Records) → a ≡ b → Puts r (path_text a.key) (text_of a.pairs) old new → Puts r (path_text b.key) (text_of b.pairs) old new
Puts-record r a b old new same puts = subst (λ (n : Node). Puts r (path_text n.key) (text_of n.pairs) old new) same puts

pub Puts-from : (r : Result (Unit {0}) StoreError) (p t : List ℕ) (mid old new : Option Records) → mid ≡ old → Puts r p t mid new → Puts r p t old new
Puts-from r p t mid old new same puts = subst (λ (o : Option Records). Puts r p t o new) same puts

pub Removes-from : (r : Result Bool StoreError) (p : List ℕ) (mid old new : Option Records) → mid ≡ old → Removes r p mid new → Removes r p old new
Removes-from r p mid old new same removes = subst (λ (o : Option Records). Removes r p o new) same removes
