-- One record more of an update or a deletion.
use Rattle.std.proofs.Common.{◌≡◌, ℕ, suc, ◌+◌, ◌<◌, ◌≤◌, Bool, true, false, not, cond, List, [], ◌∷◌, ◌++◌, Option, refl, sym, ap, ◌∙◌, subst, map, filter, set, take, drop, length, get_or, arith, add-one}
use Rattle.std.specs.List.{remove}
use Rattle.std.proofs.lemmas.List.{append-nil, append_assoc, drop_all, drop_more, get_or_at, get_or_default, length-append, length-map, length-take-le, map-append, set_at, set-get_or, take-append-drop, take_all, take_more, take_at, drop_at}
use Rattle.std.proofs.lemmas.List.Elements.{filter-append}
use Rattle.oi_outside.specs.Records.{Records}
use Rattle.oi_outside.specs.Stores.{told_with, told_without}
use Rattle.oi_settings.specs.Keys.{Key, path_text}
use Rattle.oi_settings.specs.Texts.{Node, text_of}
use Rattle.oi_nodedb.specs.declared.filter.Filter.{Filter}
use Rattle.oi_nodedb.specs.Databases.{changed, keys_of, left, told_removed, told_texts, updated, with_value, with_value_where}
use Rattle.oi_nodedb.specs.Filters.{matches, matching}

-- the list, taken apart at a place
pub parted : (nodes : List Node) (i : ℕ) (d : Node) → i < length nodes → nodes ≡ take i nodes ++ get_or nodes i d ∷ drop (i + 1) nodes
parted nodes i d small = sym (take-append-drop i nodes) ∙ ap (λ (ns : List Node). take i nodes ++ ns) (drop_more nodes i d small)

-- the store's texts with one more, and with one less
pub told_texts-more : (o : Option Records) (ns : List Node) (n : Node) → told_texts o (ns ++ n ∷ []) ≡ told_with (told_texts o ns) (path_text n.key) (text_of n.pairs)
told_texts-more o [] n = refl
told_texts-more o (m ∷ ns) n = told_texts-more (told_with o (path_text m.key) (text_of m.pairs)) ns n

pub told_removed-more : (o : Option Records) (ns : List Node) (n : Node) → told_removed o (ns ++ n ∷ []) ≡ told_without (told_removed o ns) (path_text n.key)
told_removed-more o [] n = refl
told_removed-more o (m ∷ ns) n = told_removed-more (told_without o (path_text m.key)) ns n

-- the same records, taken on by the one at a place
filter_here : (p : Node → Bool) (nodes : List Node) (i : ℕ) (d : Node) → i < length nodes → p (get_or nodes i d) ≡ true → filter p (take (i + 1) nodes) ≡ filter p (take i nodes) ++ get_or nodes i d ∷ []
filter_here p nodes i d small passes =
    ap (filter p) (take_more nodes i d small) ∙ filter-append p (take i nodes) (get_or nodes i d ∷ [])
    ∙ ap (λ (b : Bool). filter p (take i nodes) ++ cond b (get_or nodes i d ∷ []) []) passes

filter_not_here : (p : Node → Bool) (nodes : List Node) (i : ℕ) (d : Node) → i < length nodes → p (get_or nodes i d) ≡ false → filter p (take (i + 1) nodes) ≡ filter p (take i nodes)
filter_not_here p nodes i d small fails =
    ap (filter p) (take_more nodes i d small) ∙ filter-append p (take i nodes) (get_or nodes i d ∷ [])
    ∙ ap (λ (b : Bool). filter p (take i nodes) ++ cond b (get_or nodes i d ∷ []) []) fails ∙ append-nil (filter p (take i nodes))

-- what was read behind a front of that length
read_behind : (front nodes : List Node) (i at : ℕ) (x : Node) → i < length nodes → length front ≡ at → x ≡ get_or (front ++ drop i nodes) at x → x ≡ get_or nodes i x
read_behind front nodes i at x small long read =
    read ∙ ap (λ (ns : List Node). get_or (front ++ ns) at x) (drop_more nodes i x small) ∙ get_or_at front (get_or nodes i x) (drop (i + 1) nodes) x at long

module _ (f : Filter) (nodes : List Node) (i : ℕ) (x : Node) (small : i < length nodes) where
  module _ (name value : List ℕ) (now : List Node) (so_far : now ≡ updated f name value (take i nodes) ++ drop i nodes) where
    front_long : length (updated f name value (take i nodes)) ≡ i
    front_long = length-map (take i nodes) (with_value_where f name value) ∙ length-take-le i nodes (omega arith)

    pub update_read : x ≡ get_or now i x → x ≡ get_or nodes i x
    update_read read =
        read_behind (updated f name value (take i nodes)) nodes i i x small front_long (read ∙ ap (λ (ns : List Node). get_or ns i x) so_far)

    at_place : now ≡ updated f name value (take i nodes) ++ get_or nodes i x ∷ drop (i + 1) nodes
    at_place = so_far ∙ ap (λ (ns : List Node). updated f name value (take i nodes) ++ ns) (drop_more nodes i x small)

    next_front : (y : Node) → with_value_where f name value (get_or nodes i x) ≡ y
        → updated f name value (take (i + 1) nodes) ++ drop (i + 1) nodes ≡ updated f name value (take i nodes) ++ y ∷ drop (i + 1) nodes
    next_front y is =
        ap (λ (ns : List Node). updated f name value ns ++ drop (i + 1) nodes) (take_more nodes i x small)
        ∙ ap (λ (ns : List Node). ns ++ drop (i + 1) nodes) (map-append (with_value_where f name value) (take i nodes) (get_or nodes i x ∷ []))
        ∙ append_assoc (updated f name value (take i nodes)) (with_value_where f name value (get_or nodes i x) ∷ []) (drop (i + 1) nodes)
        ∙ ap (λ (n : Node). updated f name value (take i nodes) ++ n ∷ drop (i + 1) nodes) is

    -- a record that is not meant stays
    pub update_kept : x ≡ get_or now i x → matches f x.key ≡ false → now ≡ updated f name value (take (i + 1) nodes) ++ drop (i + 1) nodes
    update_kept read other =
        let here : matches f (get_or nodes i x).key ≡ false = subst (λ (n : Node). matches f n.key ≡ false) (update_read read) other in
        at_place ∙ sym (next_front (get_or nodes i x) (ap (λ (b : Bool). cond b (with_value name value (get_or nodes i x)) (get_or nodes i x)) here))

    pub changed_kept : x ≡ get_or now i x → matches f x.key ≡ false → changed f name value (take (i + 1) nodes) ≡ changed f name value (take i nodes)
    changed_kept read other =
        ap (map (with_value name value))
        (filter_not_here (λ (n : Node). matches f n.key) nodes i x small (subst (λ (n : Node). matches f n.key ≡ false) (update_read read) other))

    -- one that is meant has the value
    pub update_changed : (y : Node) → x ≡ get_or now i x → matches f x.key ≡ true → y ≡ with_value name value x → set now i y ≡ updated f name value (take (i + 1) nodes) ++ drop (i + 1) nodes
    update_changed y read meant is =
        let here : matches f (get_or nodes i x).key ≡ true = subst (λ (n : Node). matches f n.key ≡ true) (update_read read) meant in
        ap (λ (ns : List Node). set ns i y) at_place
        ∙ set_at (updated f name value (take i nodes)) (get_or nodes i x) (drop (i + 1) nodes) y i front_long
        ∙ sym (next_front y (ap (λ (b : Bool). cond b (with_value name value (get_or nodes i x)) (get_or nodes i x)) here ∙ ap (with_value name value) (sym (update_read read)) ∙ sym is))

    pub changed_more : x ≡ get_or now i x → matches f x.key ≡ true → changed f name value (take (i + 1) nodes) ≡ changed f name value (take i nodes) ++ with_value name value x ∷ []
    changed_more read meant =
        ap (map (with_value name value))
        (filter_here (λ (n : Node). matches f n.key) nodes i x small (subst (λ (n : Node). matches f n.key ≡ true) (update_read read) meant))
        ∙ map-append (with_value name value) (filter (λ (n : Node). matches f n.key) (take i nodes)) (get_or nodes i x ∷ [])
        ∙ ap (λ (n : Node). changed f name value (take i nodes) ++ with_value name value n ∷ []) (sym (update_read read))

    -- where it stops, the record is as it was
    pub update_stopped : (y : Node) → x ≡ get_or now i x → y ≡ x → set now i y ≡ updated f name value (take i nodes) ++ x ∷ drop (i + 1) nodes
    update_stopped y read is =
        ap (λ (n : Node). set now i n) (is ∙ read) ∙ set-get_or now i x ∙ at_place
        ∙ ap (λ (n : Node). updated f name value (take i nodes) ++ n ∷ drop (i + 1) nodes) (sym (update_read read))

  pub parted_at : x ≡ get_or nodes i x → nodes ≡ take i nodes ++ x ∷ drop (i + 1) nodes
  parted_at read = parted nodes i x small ∙ ap (λ (n : Node). take i nodes ++ n ∷ drop (i + 1) nodes) (sym read)

  module _ (now : List Node) (kept : ℕ) (so_far : now ≡ left f (take i nodes) ++ drop i nodes) (long : kept ≡ length (left f (take i nodes))) where
    pub delete_read : x ≡ get_or now kept x → x ≡ get_or nodes i x
    delete_read read = read_behind (left f (take i nodes)) nodes i kept x small (sym long) (read ∙ ap (λ (ns : List Node). get_or ns kept x) so_far)

    now_at : x ≡ get_or now kept x → now ≡ left f (take i nodes) ++ x ∷ drop (i + 1) nodes
    now_at read =
        so_far ∙ ap (λ (ns : List Node). left f (take i nodes) ++ ns) (drop_more nodes i x small)
        ∙ ap (λ (n : Node). left f (take i nodes) ++ n ∷ drop (i + 1) nodes) (sym (delete_read read))

    stays : x ≡ get_or now kept x → (b : Bool) → matches f x.key ≡ b → matches f (get_or nodes i x).key ≡ b
    stays read b is = subst (λ (n : Node). matches f n.key ≡ b) (delete_read read) is

    -- a record that is not meant stays
    left_more : x ≡ get_or now kept x → matches f x.key ≡ false → left f (take (i + 1) nodes) ≡ left f (take i nodes) ++ x ∷ []
    left_more read other =
        filter_here (λ (n : Node). not (matches f n.key)) nodes i x small (ap not (stays read false other))
        ∙ ap (λ (n : Node). left f (take i nodes) ++ n ∷ []) (sym (delete_read read))

    pub delete_kept : x ≡ get_or now kept x → matches f x.key ≡ false → now ≡ left f (take (i + 1) nodes) ++ drop (i + 1) nodes
    delete_kept read other =
        now_at read ∙ sym (append_assoc (left f (take i nodes)) (x ∷ []) (drop (i + 1) nodes)) ∙ ap (λ (ns : List Node). ns ++ drop (i + 1) nodes) (sym (left_more read other))

    pub kept_more : x ≡ get_or now kept x → matches f x.key ≡ false → kept + 1 ≡ length (left f (take (i + 1) nodes))
    kept_more read other = ap (λ (n : ℕ). n + 1) long ∙ sym (ap length (left_more read other) ∙ length-append (left f (take i nodes)) (x ∷ []))

    pub matching_kept : x ≡ get_or now kept x → matches f x.key ≡ false → matching f (take (i + 1) nodes) ≡ matching f (take i nodes)
    matching_kept read other = filter_not_here (λ (n : Node). matches f n.key) nodes i x small (stays read false other)

    -- one that is meant is gone
    left_same : x ≡ get_or now kept x → matches f x.key ≡ true → left f (take (i + 1) nodes) ≡ left f (take i nodes)
    left_same read meant = filter_not_here (λ (n : Node). not (matches f n.key)) nodes i x small (ap not (stays read true meant))

    pub delete_gone : x ≡ get_or now kept x → matches f x.key ≡ true → remove now kept ≡ left f (take (i + 1) nodes) ++ drop (i + 1) nodes
    delete_gone read meant =
        ap (λ (ns : List Node). remove ns kept) (now_at read)
        ∙ ap (λ (ns : List Node). ns ++ drop (suc kept) (left f (take i nodes) ++ x ∷ drop (i + 1) nodes)) (take_at (left f (take i nodes)) (x ∷ drop (i + 1) nodes) kept (sym long))
        ∙ ap (λ (ns : List Node). left f (take i nodes) ++ ns) (tail (left f (take i nodes)) kept (sym long))
        ∙ ap (λ (ns : List Node). ns ++ drop (i + 1) nodes) (sym (left_same read meant))
      where
        tail : (front : List Node) (n : ℕ) → length front ≡ n → drop (suc n) (front ++ x ∷ drop (i + 1) nodes) ≡ drop (i + 1) nodes
        tail front n is =
            ap (drop (suc n)) (sym (append_assoc front (x ∷ []) (drop (i + 1) nodes)))
            ∙ drop_at (front ++ x ∷ []) (drop (i + 1) nodes) (suc n) (length-append front (x ∷ []) ∙ ap (λ (m : ℕ). m + 1) is ∙ add-one n)

    pub kept_same : x ≡ get_or now kept x → matches f x.key ≡ true → kept ≡ length (left f (take (i + 1) nodes))
    kept_same read meant = long ∙ ap length (sym (left_same read meant))

    pub matching_more : x ≡ get_or now kept x → matches f x.key ≡ true → matching f (take (i + 1) nodes) ≡ matching f (take i nodes) ++ x ∷ []
    matching_more read meant =
        filter_here (λ (n : Node). matches f n.key) nodes i x small (stays read true meant)
        ∙ ap (λ (n : Node). matching f (take i nodes) ++ n ∷ []) (sym (delete_read read))

    -- where it stops, the record is as it was
    pub delete_stopped : x ≡ get_or now kept x → now ≡ left f (take i nodes) ++ x ∷ drop (i + 1) nodes
    delete_stopped read = now_at read

-- the whole list
pub all_updated : (f : Filter) (name value : List ℕ) (nodes : List Node) (n : ℕ) → length nodes ≤ n → updated f name value (take n nodes) ++ drop n nodes ≡ updated f name value nodes
all_updated f name value nodes n all =
    ap (λ (ns : List Node). updated f name value ns ++ drop n nodes) (take_all n nodes all)
    ∙ ap (λ (ns : List Node). updated f name value nodes ++ ns) (drop_all n nodes all) ∙ append-nil (updated f name value nodes)

pub all_left : (f : Filter) (nodes : List Node) (n : ℕ) → length nodes ≤ n → left f (take n nodes) ++ drop n nodes ≡ left f nodes
all_left f nodes n all =
    ap (λ (ns : List Node). left f ns ++ drop n nodes) (take_all n nodes all)
    ∙ ap (λ (ns : List Node). left f nodes ++ ns) (drop_all n nodes all) ∙ append-nil (left f nodes)

-- an update leaves the keys
pub keys_of-updated : (f : Filter) (name value : List ℕ) (xs ys : List Node) → keys_of (updated f name value xs ++ ys) ≡ keys_of (xs ++ ys)
keys_of-updated f name value [] ys = refl
keys_of-updated f name value (x ∷ xs) ys = same (matches f x.key) ∙ ap (λ (ks : List Key). x.key ∷ ks) (keys_of-updated f name value xs ys)
  where
    same : (b : Bool) → (cond b (with_value name value x) x).key ∷ keys_of (updated f name value xs ++ ys) ≡ x.key ∷ keys_of (updated f name value xs ++ ys)
    same true = refl
    same false = refl

-- two reads at one place
pub same_read : (nodes : List Node) (i : ℕ) (x y : Node) → i < length nodes → x ≡ get_or nodes i x → y ≡ get_or nodes i y → x ≡ y
same_read nodes i x y small read again = read ∙ get_or_default nodes i x y small ∙ sym again

-- what was tested of one read holds of another
pub meant_by : (f : Filter) (nodes : List Node) (i : ℕ) (x y : Node) (k : Key) (r b : Bool) → i < length nodes → x ≡ get_or nodes i x → y ≡ get_or nodes i y → k ≡ x.key → r ≡ matches f k → r ≡ b
    → matches f y.key ≡ b
meant_by f nodes i x y k r b small read again key tested is =
    ap (λ (n : Node). matches f n.key) (sym (same_read nodes i x y small read again)) ∙ ap (matches f) (sym key) ∙ sym tested ∙ is

-- the store after one more text was put, and after one more was taken away
pub put_next : (was mid is : Option Records) (ns ms : List Node) (n : Node) → mid ≡ told_texts was ns → is ≡ told_with mid (path_text n.key) (text_of n.pairs) → ms ≡ ns ++ n ∷ [] → is ≡ told_texts was ms
put_next was mid is ns ms n before put more =
    put ∙ ap (λ (o : Option Records). told_with o (path_text n.key) (text_of n.pairs)) before ∙ sym (told_texts-more was ns n) ∙ ap (told_texts was) (sym more)

pub put_none : (was is : Option Records) (ns ms : List Node) → is ≡ told_texts was ns → ms ≡ ns → is ≡ told_texts was ms
put_none was is ns ms before same = before ∙ ap (told_texts was) (sym same)

pub taken_next : (was mid is : Option Records) (ns ms : List Node) (n : Node) → mid ≡ told_removed was ns → is ≡ told_without mid (path_text n.key) → ms ≡ ns ++ n ∷ [] → is ≡ told_removed was ms
taken_next was mid is ns ms n before taken more =
    taken ∙ ap (λ (o : Option Records). told_without o (path_text n.key)) before ∙ sym (told_removed-more was ns n) ∙ ap (told_removed was) (sym more)

pub taken_none : (was is : Option Records) (ns ms : List Node) → is ≡ told_removed was ns → ms ≡ ns → is ≡ told_removed was ms
taken_none was is ns ms before same = before ∙ ap (told_removed was) (sym same)
