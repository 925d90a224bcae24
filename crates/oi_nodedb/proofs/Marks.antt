-- A name that no setting has is not in a fresh record.
use Rattle.std.proofs.Common.{◌≡◌, ℕ, Bool, true, false, true≢false, cond, Option, Some, None, is_some, List, [], ◌∷◌, ◌++◌, map, refl, ap, ◌∙◌, bytes_eq}
use Rattle.oi_settings.specs.Keys.{Key}
use Rattle.oi_settings.specs.Pairs.{Pair, has_name, put, value_of}
use Rattle.oi_settings.specs.Schema.{Row, fresh_pairs, initial_by, row_named, table}
use Rattle.oi_settings.specs.Texts.{Node}
use Rattle.oi_settings.proofs.PairLists.{other_way, put-new}

absent : (name : List ℕ) (key : Key) (rows : List Row) → row_named name rows ≡ None → has_name name (map (λ r. (r.name, initial_by r.range r.initial key)) rows) ≡ false
absent name key [] none = refl
absent name key (r ∷ rs) none = go (bytes_eq r.name name) refl none (absent name key rs)
  where
    rest : Option (List ℕ)
    rest = value_of name (map (λ q. (q.name, initial_by q.range q.initial key)) rs)

    go : (b : Bool) → bytes_eq r.name name ≡ b → cond b (Some r) (row_named name rs) ≡ None
        → (row_named name rs ≡ None → is_some (value_of name (map (λ q. (q.name, initial_by q.range q.initial key)) rs)) ≡ false)
        → is_some (cond (bytes_eq name r.name) (Some (initial_by r.range r.initial key)) (value_of name (map (λ q. (q.name, initial_by q.range q.initial key)) rs))) ≡ false
    go true is found more = absurd (true≢false (ap is_some found))
    go false is found more =
        ap (λ (b : Bool). is_some (cond b (Some (initial_by r.range r.initial key)) rest)) (other_way r.name name is) ∙ more found

fresh_lacks : (name : List ℕ) (key : Key) → row_named name table ≡ None → has_name name (fresh_pairs key) ≡ false
fresh_lacks name key none = absent name key table none

-- a mark comes last
pub marked_pairs : (n : Node) (old : Node) (key : Key) (m v name value : List ℕ) → row_named name table ≡ None → m ≡ name → v ≡ value → old.key ≡ key → old.pairs ≡ fresh_pairs key
    → n ≡ record { key = old.key; pairs = put m v old.pairs } → (n.key ≡ key) × (n.pairs ≡ fresh_pairs key ++ (name, value) ∷ [])
marked_pairs n old key m v name value none same alike keyed fresh is = (
  ap (λ (x : Node). x.key) is ∙ keyed,
  ap (λ (x : Node). x.pairs) is ∙ ap (λ (ps : List Pair). put m v ps) fresh ∙ ap (λ (x : List ℕ). put x v (fresh_pairs key)) same
      ∙ ap (λ (x : List ℕ). put name x (fresh_pairs key)) alike ∙ put-new name value (fresh_pairs key) (fresh_lacks name key none),
)

pub unknown_same : (m name : List ℕ) → m ≡ name → row_named name table ≡ None → row_named m table ≡ None
unknown_same m name same none = ap (λ (x : List ℕ). row_named x table) same ∙ none
