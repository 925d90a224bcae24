-- Names and values that an update may have.
use Rattle.std.proofs.Common.{◌≡◌, ◌⊎◌, inl, inr, ℕ, Bool, true, false, true≢false, List, Err, refl, sym, ◌∙◌, subst}
use Rattle.std.specs.Prelude.{IsTrue, ◌↔◌}
use Rattle.oi_settings.specs.Schema.{Takes, is_open, table}
use Rattle.oi_nodedb.specs.declared.error.DbError.{DbError}
use Rattle.oi_nodedb.specs.declared.error.DbError.TheVariants.{BadName, BadValue, Memory}
use Rattle.oi_nodedb.specs.Answers.{Checks}
use Rattle.oi_nodedb.proofs.Swaps.{Takes-same}

pub closed : (name value : List ℕ) (d : DbError) → is_open name ≡ false → (d ≡ Memory) ⊎ (d ≡ BadName name) → Checks name value (Err d)
closed name value d shut (inl e) = subst (λ (x : DbError). Checks name value (Err x)) (sym e) tt
closed name value d shut (inr e) = subst (λ (x : DbError). Checks name value (Err x)) (sym e) (refl, shut)

pub taken_by : (n name v value : List ℕ) (b : Bool) → n ≡ name → v ≡ value → (IsTrue b ↔ Takes table n v) → b ≡ true → Takes table name value
taken_by n name v value b same alike tested is = Takes-same name n value v (sym same) (sym alike) (tested.0 is)

pub outside : (n name v value : List ℕ) (b : Bool) (d : DbError) → is_open name ≡ true → n ≡ name → v ≡ value → (IsTrue b ↔ Takes table n v) → b ≡ false → (d ≡ Memory) ⊎ (d ≡ BadValue name)
    → Checks name value (Err d)
outside n name v value b d open_is same alike tested is (inl e) = subst (λ (x : DbError). Checks name value (Err x)) (sym e) tt
outside n name v value b d open_is same alike tested is (inr e) =
    subst (λ (x : DbError). Checks name value (Err x)) (sym e) (refl, open_is, λ takes. true≢false (sym (tested.1 (Takes-same n name v value same alike takes)) ∙ is))
