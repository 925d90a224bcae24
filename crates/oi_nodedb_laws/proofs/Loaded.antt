-- Records that are those of a store stay so.
use Rattle.std.proofs.Common.{◌≡◌, ◌∙◌, ℕ, true≢false, List, [], Option, Some, None, is_some, unwrap_or, Ok, refl, sym, ap, subst}
use Rattle.std.specs.Option.{option_map}
use Rattle.std.proofs.lemmas.List.Elements.{All-contains}
use Rattle.oi_outside.specs.Records.{Records, lookup}
use Rattle.oi_outside.specs.Stores.{told_at}
use Rattle.oi_settings.specs.Keys.{path_text}
use Rattle.oi_settings.specs.Texts.{IsNode, IsStored, Node, text_of}
use Rattle.oi_settings.proofs.Stops.{node_stored}
use Rattle.oi_nodedb.specs.Loads.{IsLoaded, IsNodePath, Loads}
use Rattle.oi_nodedb_laws.specs.Courses.{Call, Course, IsDatabase, NoFaults}
use Rattle.oi_nodedb_laws.specs.Laws.{Has, IsSure, Tells}
use Rattle.oi_nodedb_laws.specs.Touches.{Touch, gone, holds, record_on, touched_last, unsure, untouched}
use Rattle.oi_nodedb_laws.proofs.Apart.{database_apart}
use Rattle.oi_nodedb_laws.proofs.Keeping.{course_stays}
use Rattle.oi_nodedb_laws.proofs.Places.{each_of, found_there, same_node, there_found}
use Rattle.oi_nodedb_laws.proofs.Stores.{as_told, store_follows}
use Rattle.oi_nodedb_laws.proofs.Sure.{sure_without_faults}
use Rattle.oi_nodedb_laws.proofs.Values.{value_follows}

same_text : (v w : List ℕ) → ◌≡◌ {A = Option (List ℕ)} (Some v) (Some w) → v ≡ w
same_text v w e = ap (λ (o : Option (List ℕ)). unwrap_or o v) e

-- ---- store and records agree at a path

record Agrees (q : List ℕ) (text : Option (List ℕ)) (node : Option Node) : Type 0 where
  stored : (n : Node) → node ≡ Some n → (t : List ℕ) × (text ≡ Some t) × IsStored t n
  read : IsNodePath q → (t : List ℕ) → text ≡ Some t → (n : Node) × (node ≡ Some n) × IsStored t n

loaded_agrees : (m : Records) (old : List Node) → IsDatabase old → IsLoaded m old → (q : List ℕ) → Agrees q (lookup m q) (record_on q old)
loaded_agrees m old base loaded q = record {
  stored = λ n e.
      let there = found_there q old n e in
      let held = All-contains (λ x. (text : List ℕ) × (lookup m (path_text x.key) ≡ Some text) × IsStored text x) old n loaded.each there.0 in
      (held.0, ap (lookup m) there.1 ∙ held.1, held.2);
  read = λ front t e.
      let found = loaded.all q t front e in
      (found.0, ap (λ (p : List ℕ). record_on p old) found.2.0 ∙ there_found old found.0 (database_apart old base) found.1, found.2.1);
}

agrees_loaded : (m : Records) (new : List Node) → IsDatabase new → ((q : List ℕ) → Agrees q (lookup m q) (record_on q new)) → IsLoaded m new
agrees_loaded m new base agrees = record {
  each =
      each_of (λ n. (text : List ℕ) × (lookup m (path_text n.key) ≡ Some text) × IsStored text n) new (λ n c.
      (agrees (path_text n.key)).stored n (there_found new n (database_apart new base) c));
  all = λ path text front there.
      let found = (agrees path).read front text there in
      let at = found_there path new found.0 found.1 in
      (found.0, at.0, (at.1, found.2));
}

same_lookup : (x y : Option (List ℕ)) → ◌≡◌ {A = Option (Option (List ℕ))} (Some x) (Some y) → x ≡ y
same_lookup x y e = ap (λ (o : Option (Option (List ℕ))). unwrap_or o x) e

agrees_after : (q : List ℕ) (t : Touch) (x y : Option (List ℕ)) (a b : Option Node) → IsSure t → ((n : Node) → b ≡ Some n → IsNode n) → Agrees q x a → Tells t (Some x) (Some y) → Has t a b → Agrees q y b
agrees_after q untouched x y a b sure valid before tells has =
    subst (λ (z : Option (List ℕ)). Agrees q z b) (sym (same_lookup y x tells)) (subst (λ (r : Option Node). Agrees q x r) (sym has) before)
agrees_after q (holds n) x y a b sure valid before tells has =
    let text : y ≡ Some (text_of n.pairs) = same_lookup y (Some (text_of n.pairs)) tells in
    let is : IsStored (text_of n.pairs) n = node_stored n (valid n has) in record {
      stored = λ k e. (text_of n.pairs, text, subst (λ (z : Node). IsStored (text_of n.pairs) z) (same_node n k (sym has ∙ e)) is);
      read = λ front s e. (n, has, subst (λ (z : List ℕ). IsStored z n) (same_text (text_of n.pairs) s (sym text ∙ e)) is);
    }
agrees_after q gone x y a b sure valid before tells has =
    let text : y ≡ None = same_lookup y None tells in record {
      stored = λ k e. absurd (true≢false (ap is_some (sym e ∙ has)));
      read = λ front s e. absurd (true≢false (ap is_some (sym e ∙ text)));
    }
agrees_after q (unsure change past) x y a b sure valid before tells has = absurd sure

-- ---- calls in a row

module _ (calls : List Call) (old new : List Node) (was is : Option Records) (course : Course calls old new was is) (none : NoFaults calls) (base : IsDatabase old) where
  stays : IsDatabase new
  stays = course_stays calls old new was is course base

  valid_at : (q : List ℕ) (n : Node) → record_on q new ≡ Some n → IsNode n
  valid_at q n e = All-contains (λ x. IsNode x) new n stays.each (found_there q new n e).0

  told_before : (m : Option Records) (r : Records) → was ≡ m → is ≡ Some r → ((s : Records) → was ≡ Some s → IsLoaded s old) → IsLoaded r new
  told_before None r before now loaded =
      let same : option_map (λ text. None) (told_at is []) ≡ option_map (λ text. None) (told_at was []) =
      as_told None (touched_last [] calls old new was is course) (told_at was []) (told_at is []) (store_follows [] calls old new was is course base) in
      let lost : option_map (λ text. None) (told_at (Some r) []) ≡ option_map (λ text. None) (told_at None []) =
      ap (λ (o : Option Records). option_map (λ text. None) (told_at o [])) (sym now) ∙ same ∙ ap (λ (o : Option Records). option_map (λ text. None) (told_at o [])) before in
      absurd (true≢false (ap is_some lost))
  told_before (Some m) r before now loaded =
      agrees_loaded r new stays (λ q.
      agrees_after q (touched_last q calls old new was is course) (lookup m q) (lookup r q) (record_on q old) (record_on q new)
      (sure_without_faults q calls old new was is course none) (valid_at q) (loaded_agrees m old base (loaded m before) q)
      (subst (λ (o : Option Records). Tells (touched_last q calls old new was is course) (Some (lookup m q)) (told_at o q)) now
      (subst (λ (o : Option Records). Tells (touched_last q calls old new was is course) (told_at o q) (told_at is q)) before (store_follows q calls old new was is course base)))
      (value_follows q calls old new was is course base))

  pub loaded_stays : Loads (Ok old) was was → Loads (Ok new) is is
  loaded_stays loads = (refl, stays.ascends, λ r now. told_before was r refl now loads.2)
