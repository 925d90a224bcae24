-- What a call leaves of the records that it means.
use Rattle.std.proofs.Common.{◌≡◌, ◌∙◌, ℕ, Bool, true, false, true≢false, cond, List, ◌∷◌, ◌++◌, Option, Some, None, is_some, unwrap_or, Err, refl, sym, ap, subst}
use Rattle.std.specs.List.{All, Contains}
use Rattle.std.specs.Option.{option_map}
use Rattle.oi_outside.specs.Records.{Records, lookup}
use Rattle.oi_outside.specs.Stores.{IsToldAt, told_at}
use Rattle.oi_outside.specs.declared.store_error.StoreError.{StoreError}
use Rattle.oi_outside.proofs.Stores.{Puts-others, Removes-others}
use Rattle.oi_settings.specs.Keys.{path_text}
use Rattle.oi_settings.specs.Texts.{Node, text_of}
use Rattle.oi_nodedb.specs.declared.filter.Filter.{Filter}
use Rattle.oi_nodedb.specs.Answers.{StopsDelete, StopsUpdate}
use Rattle.oi_nodedb.specs.Databases.{changed, told_removed, told_texts, with_value}
use Rattle.oi_nodedb.specs.Filters.{matches, matching}
use Rattle.oi_nodedb_laws.specs.Courses.{IsDatabase}
use Rattle.oi_nodedb_laws.specs.Laws.{Has, IsKept, IsNowhere, Tells}
use Rattle.oi_nodedb_laws.specs.Touches.{Touch, gone, holds, if_taken, if_written, record_on, took, touched, untouched, wrote}
use Rattle.oi_nodedb_laws.proofs.Apart.{AreApart, database_apart, front_apart, matching_apart, on_with, with_apart}
use Rattle.oi_nodedb_laws.proofs.Places.{each_of, front_other, meant_in, not_meant, there_found}
use Rattle.oi_nodedb_laws.proofs.Stores.{Told, removed_at, texts_at}
use Rattle.oi_nodedb_laws.proofs.Values.{delete_stopped, update_stopped}

-- ---- the records at their paths

meant_at : (f : Filter) (ns : List Node) (n : Node) → AreApart ns → Contains ns n → matches f n.key ≡ true → record_on (path_text n.key) (matching f ns) ≡ Some n
meant_at f ns n apart c is = there_found (matching f ns) n (matching_apart f ns apart) (meant_in f ns n c is)

changed_at : (f : Filter) (name value : List ℕ) (ns : List Node) (n : Node) → AreApart ns → Contains ns n → matches f n.key ≡ true
    → record_on (path_text n.key) (changed f name value ns) ≡ Some (with_value name value n)
changed_at f name value ns n apart c is =
    on_with name value (path_text n.key) (matching f ns) ∙ ap (option_map (with_value name value)) (meant_at f ns n apart c is)

not_changed_at : (f : Filter) (name value : List ℕ) (ns : List Node) (n : Node) → AreApart ns → Contains ns n → matches f n.key ≡ false
    → record_on (path_text n.key) (changed f name value ns) ≡ None
not_changed_at f name value ns n apart c other =
    on_with name value (path_text n.key) (matching f ns) ∙ ap (option_map (with_value name value)) (not_meant f ns n apart c other)

-- ---- what the newest change is

update_touch : (f : Filter) (name value : List ℕ) (ns : List Node) (before : Touch) (n : Node) → AreApart ns → Contains ns n → (b : Bool) → matches f n.key ≡ b
    → if_written (record_on (path_text n.key) (changed f name value ns)) before ≡ cond b (holds (with_value name value n)) before
update_touch f name value ns before n apart c true is = ap (λ (r : Option Node). if_written r before) (changed_at f name value ns n apart c is)
update_touch f name value ns before n apart c false is = ap (λ (r : Option Node). if_written r before) (not_changed_at f name value ns n apart c is)

pub update_touches : (f : Filter) (name value : List ℕ) (nodes : List Node) (before : Touch) → IsDatabase nodes
    → All (λ n. touched (path_text n.key) (wrote (changed f name value nodes)) before ≡ cond (matches f n.key) (holds (with_value name value n)) before) nodes
update_touches f name value nodes before base =
    each_of (λ n. if_written (record_on (path_text n.key) (changed f name value nodes)) before ≡ cond (matches f n.key) (holds (with_value name value n)) before) nodes
    (λ n c. update_touch f name value nodes before n (database_apart nodes base) c (matches f n.key) refl)

delete_touch : (f : Filter) (ns : List Node) (before : Touch) (n : Node) → AreApart ns → Contains ns n → (b : Bool) → matches f n.key ≡ b
    → if_taken (record_on (path_text n.key) (matching f ns)) before ≡ cond b gone before
delete_touch f ns before n apart c true is = ap (λ (r : Option Node). if_taken r before) (meant_at f ns n apart c is)
delete_touch f ns before n apart c false is = ap (λ (r : Option Node). if_taken r before) (not_meant f ns n apart c is)

pub delete_touches : (f : Filter) (nodes : List Node) (before : Touch) → IsDatabase nodes
    → All (λ n. touched (path_text n.key) (took (matching f nodes)) before ≡ cond (matches f n.key) gone before) nodes
delete_touches f nodes before base =
    each_of (λ n. if_taken (record_on (path_text n.key) (matching f nodes)) before ≡ cond (matches f n.key) gone before) nodes
    (λ n c. delete_touch f nodes before n (database_apart nodes base) c (matches f n.key) refl)

-- ---- a call that stopped

-- where anything was told, this is told now
is_told : (q : List ℕ) (x : Option (List ℕ)) (was is : Option Records) → told_at is q ≡ option_map (λ text. x) (told_at was q) → IsToldAt is q x
is_told q x None is same r now =
    let bad : ◌≡◌ {A = Told} (Some (lookup r q)) None = ap (λ (o : Option Records). told_at o q) (sym now) ∙ same in absurd (true≢false (ap is_some bad))
is_told q x (Some m) is same r now =
    let at : ◌≡◌ {A = Told} (Some (lookup r q)) (Some x) = ap (λ (o : Option Records). told_at o q) (sym now) ∙ same in
    ap (λ (t : Told). unwrap_or t x) at

module _ (f : Filter) (name value : List ℕ) (e : StoreError) (old new : List Node) (was is : Option Records) (base : IsDatabase old) (stops : StopsUpdate f name value e old new was is) where
  apart : AreApart (stops.front ++ stops.node ∷ stops.behind)
  apart = subst (λ (ns : List Node). AreApart ns) stops.whole (database_apart old base)

  front : AreApart stops.front
  front = front_apart stops.front (stops.node ∷ stops.behind) apart

  kept_store : (n : Node) → Contains stops.front n → told_at is (path_text n.key) ≡ told_at (told_texts was (changed f name value stops.front)) (path_text n.key)
  kept_store n c =
      Puts-others (Err e) (path_text stops.node.key) (text_of (with_value name value stops.node).pairs) (path_text n.key) (told_texts was (changed f name value stops.front)) is
      (front_other stops.front stops.behind n stops.node apart c) stops.store

  put_before : (n : Node) → Contains stops.front n → matches f n.key ≡ true
      → told_at (told_texts was (changed f name value stops.front)) (path_text n.key) ≡ option_map (λ text. Some (text_of (with_value name value n).pairs)) (told_at was (path_text n.key))
  put_before n c meant =
      subst (λ (r : Option Node). Tells (if_written r untouched) (told_at was (path_text n.key)) (told_at (told_texts was (changed f name value stops.front)) (path_text n.key)))
      (changed_at f name value stops.front n front c meant)
      (texts_at (path_text n.key) (changed f name value stops.front) was (with_apart name value (matching f stops.front) (matching_apart f stops.front front)))

  has_before : (n : Node) → Contains stops.front n → matches f n.key ≡ true → record_on (path_text n.key) new ≡ Some (with_value name value n)
  has_before n c meant =
      subst (λ (r : Option Node). Has (if_written r untouched) (record_on (path_text n.key) old) (record_on (path_text n.key) new)) (changed_at f name value stops.front n front c meant)
      (update_stopped (path_text n.key) f name value e old new was is (database_apart old base) stops)

  pub update_stops : All (λ n. matches f n.key ≡ true → IsKept new is (with_value name value n)) stops.front
  update_stops =
      each_of (λ n. matches f n.key ≡ true → IsKept new is (with_value name value n)) stops.front
      (λ n c meant. (is_told (path_text n.key) (Some (text_of (with_value name value n).pairs)) was is (kept_store n c ∙ put_before n c meant), has_before n c meant))

module _ (f : Filter) (e : StoreError) (old new : List Node) (was is : Option Records) (base : IsDatabase old) (stops : StopsDelete f e old new was is) where
  whole_apart : AreApart (stops.front ++ stops.node ∷ stops.behind)
  whole_apart = subst (λ (ns : List Node). AreApart ns) stops.whole (database_apart old base)

  before : AreApart stops.front
  before = front_apart stops.front (stops.node ∷ stops.behind) whole_apart

  kept_gone : (n : Node) → Contains stops.front n → told_at is (path_text n.key) ≡ told_at (told_removed was (matching f stops.front)) (path_text n.key)
  kept_gone n c =
      Removes-others (Err e) (path_text stops.node.key) (path_text n.key) (told_removed was (matching f stops.front)) is
      (front_other stops.front stops.behind n stops.node whole_apart c) stops.store

  gone_before : (n : Node) → Contains stops.front n → matches f n.key ≡ true
      → told_at (told_removed was (matching f stops.front)) (path_text n.key) ≡ option_map (λ text. None) (told_at was (path_text n.key))
  gone_before n c meant =
      subst (λ (r : Option Node). Tells (if_taken r untouched) (told_at was (path_text n.key)) (told_at (told_removed was (matching f stops.front)) (path_text n.key)))
      (meant_at f stops.front n before c meant) (removed_at (path_text n.key) (matching f stops.front) was (matching_apart f stops.front before))

  none_before : (n : Node) → Contains stops.front n → matches f n.key ≡ true → record_on (path_text n.key) new ≡ None
  none_before n c meant =
      subst (λ (r : Option Node). Has (if_taken r untouched) (record_on (path_text n.key) old) (record_on (path_text n.key) new)) (meant_at f stops.front n before c meant)
      (delete_stopped (path_text n.key) f e old new was is (database_apart old base) stops)

  pub delete_stops : All (λ n. matches f n.key ≡ true → IsNowhere new is n) stops.front
  delete_stops =
      each_of (λ n. matches f n.key ≡ true → IsNowhere new is n) stops.front
      (λ n c meant. (is_told (path_text n.key) None was is (kept_gone n c ∙ gone_before n c meant), none_before n c meant))
