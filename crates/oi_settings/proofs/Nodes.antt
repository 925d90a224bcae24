-- Records with another value of one name.
use Rattle.std.proofs.Common.{◌≡◌, ℕ, Bool, false, cond, Result, Ok, Err, OnOk, OnErr, Some, List, sym, ap, ◌∙◌, subst, bytes_eq}
use Rattle.oi_settings.specs.declared.schema.Part.{Part}
use Rattle.oi_settings.specs.Keys.{Key}
use Rattle.oi_settings.specs.Pairs.{Pair, put, value_of}
use Rattle.oi_settings.specs.Schema.{Takes, table}
use Rattle.oi_settings.specs.Texts.{IsKeyOf, IsLine, IsNode, part_name}
use Rattle.oi_settings.proofs.PairLists.{ArePairs-put, value_of-put}

key_put : (ps : List Pair) (key : Key) (n v : List ℕ) → IsKeyOf ps key → ((part : Part) → bytes_eq (part_name part) n ≡ false) → IsKeyOf (put n v ps) key
key_put ps key n v named apart part =
    let at = named part in
    (at.0, value_of-put (part_name part) n v ps ∙ ap (λ (b : Bool). cond b (Some v) (value_of (part_name part) ps)) (apart part) ∙ at.1, at.2)

put_node : (key : Key) (ps : List Pair) (n v : List ℕ) → IsNode record { key = key; pairs = ps } → IsLine n v → Takes table n v → ((part : Part) → bytes_eq (part_name part) n ≡ false)
    → IsNode record { key = key; pairs = put n v ps }
put_node key ps n v is line taken apart =
    record { valid = is.valid; pairs = ArePairs-put table n v ps is.pairs line taken; named = key_put ps key n v is.named apart }

either_way : {E : Type 0} (P : List Pair → Type 0) (r : Result (Unit {0}) E) (new put old : List Pair) → OnOk r (new ≡ put) → OnErr r (new ≡ old) → P put → P old → P new
either_way P (Ok u) new put old ok err there was = subst P (sym ok) there
either_way P (Err e) new put old ok err there was = subst P (sym err) was

-- whether the put was made or not, the record is one
pub node_either : {E : Type 0} (r : Result (Unit {0}) E) (key : Key) (ps new : List Pair) (m n v : List ℕ) → m ≡ n → OnOk r (new ≡ put m v ps) → OnErr r (new ≡ ps)
    → IsNode record { key = key; pairs = ps } → IsLine n v → Takes table n v → ((part : Part) → bytes_eq (part_name part) n ≡ false) → IsNode record { key = key; pairs = new }
node_either r key ps new m n v same ok err is line taken apart =
    either_way (λ (x : List Pair). IsNode record { key = key; pairs = x }) r new (put m v ps) ps ok err
    (subst (λ (k : List ℕ). IsNode record { key = key; pairs = put k v ps }) (sym same) (put_node key ps n v is line taken apart)) is
