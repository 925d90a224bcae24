-- Where a text stops to be one: behind one list of pairs at most.
use Rattle.std.proofs.Common.{◌≡◌, ℕ, ◌+◌, Bool, true, false, true≢false, cond, Option, Some, is_some, unwrap_or, List, [], ◌∷◌, ◌++◌, length, get_or, drop, refl, sym, ap, ◌∙◌, subst, arith, append_assoc, length-append, bytes_eq}
use Rattle.std.proofs.lemmas.Fmt.{decimal_injective}
use Rattle.std.proofs.lemmas.List.{append-nil}
use Rattle.oi_names.specs.Portals.{lower_case}
use Rattle.oi_settings.specs.declared.schema.Part.{Part}
use Rattle.oi_settings.specs.declared.schema.Part.TheVariants.{Target, Tag, Address, Port, Interface}
use Rattle.oi_settings.specs.declared.schema.Schema.{Schema}
use Rattle.oi_settings.specs.declared.schema.Schema.TheVariants.{First, Second}
use Rattle.oi_settings.specs.Keys.{IsKey, Key}
use Rattle.oi_settings.specs.Pairs.{AreOnce, Pair, has_name, value_of}
use Rattle.oi_settings.specs.Schema.{Row}
use Rattle.oi_settings.specs.Texts.{AreLines, ArePairs, BadLine, IsComplete, IsKeyOf, IsNext, IsNode, IsStored, NoEnd, NoLine, Node, bad_begin, bad_line, bad_rest, begin_line, end_line, line_text, lines_of, part_name, rows_of, stored_by, text_of}
use Rattle.oi_settings.proofs.FreshPairs.{whole}
use Rattle.oi_settings.proofs.LineLists.{Over, longer, no_line_end, no_line_here, over, plain, shorter}
use Rattle.oi_settings.proofs.Migration.{stored_pairs}
use Rattle.oi_settings.proofs.PairLists.{name_itself, same_name}

-- the first line tells one schema
begins_once : (s t : Schema) (x y : List ℕ) → begin_line s ++ x ≡ begin_line t ++ y → (s ≡ t) × (x ≡ y)
begins_once First First x y same = (refl, ap (drop 17) same)
begins_once First Second x y same = let digits : ◌≡◌ {A = ℕ} 49 50 = ap (λ (t : List ℕ). get_or t 15 0) same in absurd (omega (arith, digits))
begins_once Second First x y same = let digits : ◌≡◌ {A = ℕ} 50 49 = ap (λ (t : List ℕ). get_or t 15 0) same in absurd (omega (arith, digits))
begins_once Second Second x y same = (refl, ap (drop 17) same)

-- the name of a pair stands in a list that has the pair
has_inside : (before after : List Pair) (q : Pair) → has_name q.0 (before ++ q ∷ after) ≡ true
has_inside [] after q = ap (λ (b : Bool). is_some (cond b (Some q.1) (value_of q.0 after))) (name_itself q.0)
has_inside (p ∷ before) after q = go (bytes_eq q.0 p.0) (has_inside before after q)
  where
    go : (b : Bool) → has_name q.0 (before ++ q ∷ after) ≡ true → is_some (cond b (Some p.1) (value_of q.0 (before ++ q ∷ after))) ≡ true
    go true rest = refl
    go false rest = rest

new_inside : (before after : List Pair) (q : Pair) → AreOnce (before ++ q ∷ after) → has_name q.0 before ≡ false
new_inside [] after q once = refl
new_inside (p ∷ before) after q (alone, once) = go (bytes_eq q.0 p.0) refl (new_inside before after q once)
  where
    go : (b : Bool) → bytes_eq q.0 p.0 ≡ b → has_name q.0 before ≡ false → is_some (cond b (Some p.1) (value_of q.0 before)) ≡ false
    go true e rest =
        absurd (true≢false (sym (has_inside before after q) ∙ ap (λ (m : List ℕ). has_name m (before ++ q ∷ after)) (same_name q.0 p.0 e) ∙ alone))
    go false e rest = rest

line_inside : (rows : List Row) (before after : List Pair) (q : Pair) → AreLines rows (before ++ q ∷ after) → AreOnce (before ++ q ∷ after) → IsNext rows before q.0 q.1
line_inside rows before after q lines once = go before lines (new_inside before after q once)
  where
    go : (ps : List Pair) → AreLines rows (ps ++ q ∷ after) → has_name q.0 before ≡ false → IsNext rows before q.0 q.1
    go [] (line, taken, more) new = record { line = line; new = new; taken = taken }
    go (p ∷ ps) (line, taken, more) new = go ps more new

-- behind some good lines comes something else
pub record Stop (rows : List Row) (before : List Pair) (rest : List ℕ) : Type 0 where
  pub lines : AreLines rows before
  pub once : AreOnce before
  pub none : NoLine rows before rest

one_stop : (rows : List Row) (b c : List Pair) (r s : List ℕ) → Stop rows b r → Stop rows c s → Over b c r s → (b ≡ c) × (r ≡ s)
one_stop rows b c r s here there (longer [] is rest) = (sym (is ∙ append-nil b), rest)
one_stop rows b c r s here there (longer (q ∷ more) is rest) =
    absurd (here.none q.0 q.1 (lines_of more ++ s)
    (line_inside rows b more q (subst (λ (x : List Pair). AreLines rows x) is there.lines) (subst (λ (x : List Pair). AreOnce x) is there.once)) (rest ∙ append_assoc (line_text q.0 q.1) (lines_of more) s))
one_stop rows b c r s here there (shorter [] is rest) = (is ∙ append-nil c, sym rest)
one_stop rows b c r s here there (shorter (q ∷ more) is rest) =
    absurd (there.none q.0 q.1 (lines_of more ++ r)
    (line_inside rows c more q (subst (λ (x : List Pair). AreLines rows x) is here.lines) (subst (λ (x : List Pair). AreOnce x) is here.once)) (rest ∙ append_assoc (line_text q.0 q.1) (lines_of more) r))

-- the same of the whole text
pub record Stops (bytes : List ℕ) (schema : Schema) (before : List Pair) (rest : List ℕ) : Type 0 where
  pub text : bytes ≡ begin_line schema ++ (lines_of before ++ rest)
  pub stop : Stop (rows_of schema) before rest

pub stops_once : (bytes : List ℕ) (s t : Schema) (b c : List Pair) (r q : List ℕ) → Stops bytes s b r → Stops bytes t c q → (s ≡ t) × (b ≡ c) × (r ≡ q)
stops_once bytes s t b c r q here there =
    let begins = begins_once s t (lines_of b ++ r) (lines_of c ++ q) (sym here.text ∙ there.text) in
    let other : Stop (rows_of s) c q = subst (λ (x : Schema). Stop (rows_of x) c q) (sym begins.0) there.stop in
    let same =
    one_stop (rows_of s) b c r q here.stop other (over b c r q (plain (rows_of s) b here.stop.lines) (plain (rows_of s) c other.lines) begins.1) in
    (begins.0, same.0, same.1)

-- a stored text stops at its last line
stops_stored : (bytes : List ℕ) (node : Node) (s : IsStored bytes node) → Stops bytes s.schema s.written end_line
stops_stored bytes node s = record {
  text = s.text;
  stop = record {
    lines = s.pairs.lines;
    once = s.pairs.once;
    none = λ name value more next same. no_line_end [] name value more next.line (append-nil end_line ∙ same);
  };
}

stops_line : (bytes : List ℕ) (schema : Schema) (before : List Pair) (rest : List ℕ) → bytes ≡ begin_line schema ++ (lines_of before ++ rest) → AreLines (rows_of schema) before → AreOnce before
    → NoLine (rows_of schema) before rest → Stops bytes schema before rest
stops_line bytes schema before rest text lines once none = record { text = text; stop = record { lines = lines; once = once; none = none } }

stops_rest : (bytes : List ℕ) (schema : Schema) (before : List Pair) (rest : List ℕ) → bytes ≡ begin_line schema ++ (lines_of before ++ (end_line ++ rest)) → ArePairs (rows_of schema) before
    → Stops bytes schema before (end_line ++ rest)
stops_rest bytes schema before rest text are =
    record { text = text; stop = record { lines = are.lines; once = are.once; none = no_line_here (rows_of schema) before (end_line ++ rest) (no_line_end rest) } }

-- what is complete ends with the last line
ends_nowhere : (s t : Schema) (b c : List Pair) (r rest : List ℕ) → s ≡ t → b ≡ c → r ≡ end_line ++ rest → NoEnd (rows_of s) b r → IsComplete (rows_of t) c → ⊥
ends_nowhere s t b c r rest schemas lists last unended complete =
    unended (subst (λ (x : Schema). IsComplete (rows_of x) b) (sym schemas) (subst (λ (x : List Pair). IsComplete (rows_of t) x) (sym lists) complete)) rest last

pub bad_not_stored : (bytes : List ℕ) (line : ℕ) (node : Node) → BadLine bytes line → IsStored bytes node → ⊥
bad_not_stored bytes line node (bad_begin at none) s = none s.schema (lines_of s.written ++ end_line) s.text
bad_not_stored bytes line node (bad_line schema before rest at text lines once none unended) s =
    let same = stops_once bytes schema s.schema before s.written rest end_line (stops_line bytes schema before rest text lines once none) (stops_stored bytes node s) in
    ends_nowhere schema s.schema before s.written rest [] same.0 same.1 (same.2 ∙ sym (append-nil end_line)) unended s.pairs.complete
bad_not_stored bytes line node (bad_rest schema before rest at text are some) s =
    let same = stops_once bytes schema s.schema before s.written (end_line ++ rest) end_line (stops_rest bytes schema before rest text are) (stops_stored bytes node s) in
    omega (arith, ap length same.2, length-append end_line rest)

same_length : (line other k : ℕ) (b c : List Pair) → line ≡ length b + k → other ≡ length c + k → b ≡ c → line ≡ other
same_length line other k b c at there same = at ∙ ap (λ (x : List Pair). length x + k) same ∙ sym there

pub one_bad_line : (bytes : List ℕ) (line other : ℕ) → BadLine bytes line → BadLine bytes other → line ≡ other
one_bad_line bytes line other (bad_begin at none) (bad_begin there no_one) = at ∙ sym there
one_bad_line bytes line other (bad_begin at none) (bad_line t c q there text lines once no_one unended) = absurd (none t (lines_of c ++ q) text)
one_bad_line bytes line other (bad_begin at none) (bad_rest t c q there text are some) = absurd (none t (lines_of c ++ (end_line ++ q)) text)
one_bad_line bytes line other (bad_line s b r at text lines once none unended) (bad_begin there no_one) = absurd (no_one s (lines_of b ++ r) text)
one_bad_line bytes line other (bad_line s b r at text lines once none unended) (bad_line t c q there text' lines' once' none' unended') =
    let same = stops_once bytes s t b c r q (stops_line bytes s b r text lines once none) (stops_line bytes t c q text' lines' once' none') in
    same_length line other 2 b c at there same.1
one_bad_line bytes line other (bad_line s b r at text lines once none unended) (bad_rest t c q there text' are some) =
    let same = stops_once bytes s t b c r (end_line ++ q) (stops_line bytes s b r text lines once none) (stops_rest bytes t c q text' are) in
    absurd (ends_nowhere s t b c r q same.0 same.1 same.2 unended are.complete)
one_bad_line bytes line other (bad_rest s b r at text are some) (bad_begin there no_one) = absurd (no_one s (lines_of b ++ (end_line ++ r)) text)
one_bad_line bytes line other (bad_rest s b r at text are some) (bad_line t c q there text' lines once none unended) =
    let same = stops_once bytes t s c b q (end_line ++ r) (stops_line bytes t c q text' lines once none) (stops_rest bytes s b r text are) in
    absurd (ends_nowhere t s c b q r same.0 same.1 same.2 unended are.complete)
one_bad_line bytes line other (bad_rest s b r at text are some) (bad_rest t c q there text' are' some') =
    let same = stops_once bytes s t b c (end_line ++ r) (end_line ++ q) (stops_rest bytes s b r text are) (stops_rest bytes t c q text' are') in
    same_length line other 3 b c at there same.1

-- the pairs name one key
one_text : (ps : List Pair) (name v w : List ℕ) → value_of name ps ≡ Some v → value_of name ps ≡ Some w → v ≡ w
one_text ps name v w here there = ap (λ (o : Option (List ℕ)). unwrap_or o []) (sym here ∙ there)

pub key_is : (a b : Key) → a.target ≡ b.target → a.portal.address ≡ b.portal.address → a.portal.port ≡ b.portal.port → a.tag ≡ b.tag → a.iface ≡ b.iface → a ≡ b
key_is a b targets addresses ports tags ifaces = λ i. record {
  target = targets i;
  portal = record { address = addresses i; port = ports i };
  tag = tags i;
  iface = ifaces i;
}

pub one_key : (ps : List Pair) (a b : Key) → IsKey a → IsKey b → IsKeyOf ps a → IsKeyOf ps b → a ≡ b
one_key ps a b valid other here there =
    let text : (part : Part) → (here part).0 ≡ (there part).0 = λ part. one_text ps (part_name part) (here part).0 (there part).0 (here part).1 (there part).1 in
    let p = whole a.portal valid.place in
    let q = whole b.portal other.place in
    key_is a b (sym (here Target).2 ∙ text Target ∙ (there Target).2) ((here Address).2 ∙ ap lower_case (text Address) ∙ sym (there Address).2)
    (decimal_injective a.portal.port b.portal.port (omega (arith, p.high)) (omega (arith, q.high)) (sym (here Port).2 ∙ text Port ∙ (there Port).2))
    (decimal_injective a.tag b.tag (omega (arith, valid.group)) (omega (arith, other.group)) (sym (here Tag).2 ∙ text Tag ∙ (there Tag).2))
    (sym (here Interface).2 ∙ text Interface ∙ (there Interface).2)

pub one_record : (bytes : List ℕ) (a b : Node) → IsStored bytes a → IsStored bytes b → a ≡ b
one_record bytes a b s t =
    let same = stops_once bytes s.schema t.schema s.written t.written end_line end_line (stops_stored bytes a s) (stops_stored bytes b t) in
    let lists : a.pairs ≡ b.pairs = s.stored ∙ ap (λ (x : Schema). stored_by x s.written) same.0 ∙ ap (stored_by t.schema) same.1 ∙ sym t.stored in
    let keys : a.key ≡ b.key = one_key b.pairs a.key b.key s.valid t.valid (subst (λ (x : List Pair). IsKeyOf x a.key) lists s.named) t.named in
    λ i. record { key = keys i; pairs = lists i }

pub stored_node : (bytes : List ℕ) (node : Node) → IsStored bytes node → IsNode node
stored_node bytes node s = record {
  valid = s.valid;
  pairs = subst (λ (x : List Pair). ArePairs (rows_of Second) x) (sym s.stored) (stored_pairs s.schema s.written s.pairs);
  named = s.named;
}

pub node_stored : (node : Node) → IsNode node → IsStored (text_of node.pairs) node
node_stored node is = record { schema = Second; written = node.pairs; text = refl; pairs = is.pairs; stored = refl; valid = is.valid; named = is.named }

pub migrated : (bytes : List ℕ) (node : Node) → IsStored bytes node → IsStored (text_of node.pairs) node
migrated bytes node s = node_stored node (stored_node bytes node s)
