-- The index of submissions, kept while one of them moves on or comes in.
use Rattle.std.proofs.Common.{◌≡◌, ◌≢◌, ◌∙◌, ◌≤◌, ◌<◌, ◌+◌, ◌==◌, ◌&&◌, ◌||◌, ◌⊎◌, inl, inr, ℕ, Bool, true, false, cond, List, [], ◌∷◌, ◌++◌, length, Option, Some, None, ap, subst, sym, refl, arith, get_or, slice_get, position, vec_len, map, take, length-append, nat_lt, if◌then◌else◌}
use Rattle.std.proofs.Math.ListN.{set, length-set}
use Rattle.std.specs.Option.{option_map_or}
use Rattle.std.proofs.lemmas.Bool.Decides.{eqb_tells, nat_tests}
use Rattle.std.proofs.lemmas.List.{get_or-set_other, get_or-set_same, take_all}
use Rattle.std.proofs.lemmas.List.Sums.{count_by-le-length}
use Rattle.oi_history.proofs.Recovered.{changed_far}
use Rattle.std.proofs.lemmas.Option.{get_or_from_slice_get, same_Some, slice_get-get_or, slice_get_within}
use Rattle.oi_history.specs.Blows.{blow_by}
use Rattle.oi_history.specs.Handling.{aim_of, is_live, live_at}
use Rattle.oi_history.specs.Indices.{IsIndexed, WasIndexed, WasIndexedOn, earlier, earlier_where, first_with, lun_index, waiting_on, waits_on, with_one}
use Rattle.oi_history.specs.Recovering.{got_data, got_response, hit_in, moved_by}
use Rattle.oi_history.specs.Owing.{live_on_lun, sendable}
use Rattle.oi_history.specs.Tasks.{changed, data_reply, is_done, is_live_on, is_waiting, scsi_reply, settled, told_task, with_piece}
use Rattle.oi_history.specs.declared.command.Command.{Command}
use Rattle.oi_history.specs.declared.fate.Fate.{Fate}
use Rattle.oi_history.specs.declared.fate.Fate.TheVariants.{Waiting, Live, Done}
use Rattle.oi_history.specs.declared.recovering.Blow.{Blow}
use Rattle.oi_history.specs.declared.recovering.Blow.TheVariants.{Struck, Reset, Loss}
use Rattle.oi_history.specs.declared.reply.ReplyData.{ReplyData}
use Rattle.oi_pdu.specs.declared.header.DataIn.{DataIn as DataInHeader}
use Rattle.oi_pdu.specs.declared.header.ScsiResponse.{ScsiResponse as ResponseHeader}
use Rattle.oi_recovery.specs.declared.hit.Aim.{Aim}
use Rattle.oi_recovery.specs.declared.hit.Hit.{Hit}
use Rattle.oi_recovery.specs.declared.hit.Hit.TheVariants.{ResetDone, Lost as ByLoss}
use Rattle.oi_recovery.specs.declared.stand.Next.{Next}
use Rattle.oi_recovery.specs.declared.stand.Next.TheVariants.{Stay, Wait, Answer, Host}
use Rattle.oi_history.specs.declared.index.Index.{Index}
use Rattle.oi_history.specs.declared.index.LunIndex.{LunIndex}
use Rattle.oi_history.specs.declared.task.Task.{Task}
use Rattle.oi_history.proofs.Firsts.{count-append, count-map, get_of_map, length-moved, position-map, count_at, count_moved, first_but, first_none, first_without, get_moved, get_of, lt_false, lt_true, moved_from, position-append, position-or, position_like, same_first}

on_own : (n m : ℕ) (b : Bool) → n ≡ m → (n == m && b) ≡ b
on_own n m b is = ap (λ (c : Bool). c && b) (own n m is)
  where
    own : (n m : ℕ) → n ≡ m → (n == m) ≡ true
    own n m is = grind (arith, nat_tests)

off_other : (n m : ℕ) (b : Bool) → n ≢ m → (n == m && b) ≡ false
off_other n m b other = ap (λ (c : Bool). c && b) (off n m other)
  where
    off : (n m : ℕ) → n ≢ m → (n == m) ≡ false
    off n m other = grind (arith, nat_tests)

-- the logical unit of the one that moved on

pub indexed_on : (ix : Index) (id : ℕ) (was_live live : Bool) (tasks : List Task) (x : Task) (old d : LunIndex) → WasIndexed ix id was_live tasks → slice_get tasks id ≡ Some x → live ≡ is_live x.fate
    → old ≡ get_or ix.luns.items x.command.lun d → WasIndexedOn x.command.lun old id was_live live tasks
indexed_on ix id was_live live tasks x old d h at lives got =
    let from : (y : Task) × (slice_get h.before id ≡ Some y) × (x ≡ h.move y) = moved_from id h.move h.before x (ap (λ (z : List Task). slice_get z id) (sym h.moved) ∙ at) in
    let y = from.0 in
    let lun = x.command.lun in
    let p : Task → Bool = λ t. t.command.lun == lun && is_live t.fate in
    let same : x.command ≡ y.command = ap (λ (t : Task). t.command) from.2 ∙ h.command y in
    let luns : y.command.lun ≡ lun = ap (λ (c : Command). c.lun) (sym same) in
    let bound : lun < 256 = subst (λ (n : ℕ). n < 256) luns (h.indexed.bytes id y from.1) in
    let is : old ≡ lun_index lun h.before = got ∙ get_or_from_slice_get ix.luns.items lun (lun_index lun h.before) d (h.indexed.luns lun bound) in
    let was : was_live ≡ p y = h.live ∙ (ap (λ (o : Option Task). option_map_or (λ (t : Task). is_live t.fate) o false) from.1 ∙ sym (on_own y.command.lun lun (is_live y.fate) luns)) in
    let now : live ≡ p (h.move y) = lives ∙ (sym (on_own lun lun (is_live x.fate) refl) ∙ ap p from.2) in
    let counts : old.live ≡ live_on_lun lun h.before = ap (λ (u : LunIndex). u.live) is in
    let moves : live_on_lun lun tasks + cond (p y) 1 0 ≡ live_on_lun lun h.before + cond (p (h.move y)) 1 0 = ap (λ (z : List Task). live_on_lun lun z + cond (p y) 1 0) h.moved ∙ count_moved p id h.move h.before y from.1 in
    let was_one : cond {A = ℕ} was_live 1 0 ≡ cond (p y) 1 0 = ap (λ (b : Bool). cond b 1 0) was in
    let now_one : cond {A = ℕ} live 1 0 ≡ cond (p (h.move y)) 1 0 = ap (λ (b : Bool). cond b 1 0) now in
    record {
      first = first_but (waits_on lun) id h.move h.before tasks old.first h.moved (ap (λ (u : LunIndex). u.first) is);
      live = omega (arith, counts, moves, was_one, now_one);
      counted = omega (arith, counts, was_one, count_at p id h.before y from.1);
    }

same_index : (u v : LunIndex) → u.first ≡ v.first → u.live ≡ v.live → u ≡ v
same_index u v first live =
    ap (λ (o : Option ℕ). let made : LunIndex = record { first = o; live = u.live } in made) first ∙ ap (λ (n : ℕ). let made : LunIndex = record { first = v.first; live = n } in made) live

get_set : (ls : List LunIndex) (i : ℕ) (v : LunIndex) → i < length ls → slice_get (set ls i v) i ≡ Some v
get_set ls i v there = slice_get-get_or (set ls i v) i v (omega (arith, length-set ls i v)) ∙ ap (λ (z : LunIndex). Some z) (get_or-set_same ls i v v there)

get_set_other : (ls : List LunIndex) (i k : ℕ) (v u : LunIndex) → k ≢ i → slice_get ls k ≡ Some u → slice_get (set ls i v) k ≡ Some u
get_set_other ls i k v u other at =
    let there : k < length ls = slice_get_within ls k u at in
    slice_get-get_or (set ls i v) k v (omega (arith, length-set ls i v)) ∙ ap (λ (z : LunIndex). Some z) (get_or-set_other ls i k v v other ∙ get_or_from_slice_get ls k u v at)

same_lun : (lun : ℕ) (id : ℕ) (f : Task → Task) (ts : List Task) (y : Task) → slice_get ts id ≡ Some y → y.command.lun ≢ lun → (f y).command.lun ≢ lun → lun_index lun (changed id f ts) ≡ lun_index lun ts
same_lun lun id f ts y at was is =
    let off : waits_on lun y ≡ false = off_other y.command.lun lun (is_waiting y.fate) was in
    let off_now : waits_on lun (f y) ≡ false = off_other (f y).command.lun lun (is_waiting (f y).fate) is in
    let p : Task → Bool = λ t. t.command.lun == lun && is_live t.fate in
    let none : p y ≡ false = off_other y.command.lun lun (is_live y.fate) was in
    let none_now : p (f y) ≡ false = off_other (f y).command.lun lun (is_live (f y).fate) is in
    let first : waiting_on lun (changed id f ts) ≡ waiting_on lun ts = same_first (waits_on lun) id f ts y (waiting_on lun ts) at off off_now refl in
    let count : live_on_lun lun (changed id f ts) ≡ live_on_lun lun ts =
    omega (arith, count_moved p id f ts y at, ap (λ (b : Bool). cond {A = ℕ} b 1 0) none, ap (λ (b : Bool). cond {A = ℕ} b 1 0) none_now) in
    same_index (lun_index lun (changed id f ts)) (lun_index lun ts) first count

pub indexed_moved : (old new : Index) (id : ℕ) (was_live : Bool) (tasks : List Task) (x : Task) (v : LunIndex) → WasIndexed old id was_live tasks → slice_get tasks id ≡ Some x → new.luns.items ≡ set old.luns.items x.command.lun v
    → v ≡ lun_index x.command.lun tasks → vec_len new.luns ≡ vec_len old.luns → new.low ≤ old.low → old.high ≤ new.high → (x.told ≡ is_done x.fate) ⊎ ((new.low ≤ id) × (id < new.high)) → IsIndexed new tasks
indexed_moved old new id was_live tasks x v h at made is len low high settled =
    let from : (y : Task) × (slice_get h.before id ≡ Some y) × (x ≡ h.move y) = moved_from id h.move h.before x (ap (λ (z : List Task). slice_get z id) (sym h.moved) ∙ at) in
    let same : x.command.lun ≡ from.0.command.lun = ap (λ (c : Command). c.lun) (ap (λ (t : Task). t.command) from.2 ∙ h.command from.0) in
    let bound : x.command.lun < 256 = subst (λ (n : ℕ). n < 256) (sym same) (h.indexed.bytes id from.0 from.1) in
    record {
      size = len ∙ h.indexed.size;
      luns = λ lun under. each_lun from.0 from.1 from.2 same bound lun under (eqb_tells lun x.command.lun);
      bytes = λ k t found. each_byte bound k t found (eqb_tells k id);
      settled = λ k t found. each_settled k t found (eqb_tells k id);
    }
  where
    each_lun : (y : Task) → slice_get h.before id ≡ Some y → x ≡ h.move y → x.command.lun ≡ y.command.lun → x.command.lun < 256 → (lun : ℕ) → lun < 256 → ((lun == x.command.lun) ≡ true) × (lun ≡ x.command.lun) ⊎ ((lun == x.command.lun) ≡ false) × (lun ≢ x.command.lun)
        → slice_get new.luns.items lun ≡ Some (lun_index lun tasks)
    each_lun y from moved same bound lun under (inl here) =
        rw (here.1, made) (get_set old.luns.items x.command.lun v (slice_get_within old.luns.items x.command.lun _ (h.indexed.luns x.command.lun bound)) ∙ ap (λ (u : LunIndex). Some u) is)
    each_lun y from moved same bound lun under (inr other) =
        rw made (get_set_other old.luns.items x.command.lun lun v (lun_index lun h.before) other.1 (h.indexed.luns lun under)
        ∙ ap (λ (u : LunIndex). Some u) (sym (same_lun lun id h.move h.before y from (λ e. other.1 (sym e ∙ sym same)) (λ e. other.1 (sym e ∙ ap (λ (t : Task). t.command.lun) (sym moved)))) ∙ ap (lun_index lun) (sym h.moved)))

    each_byte : x.command.lun < 256 → (k : ℕ) (t : Task) → slice_get tasks k ≡ Some t → ((k == id) ≡ true) × (k ≡ id) ⊎ ((k == id) ≡ false) × (k ≢ id) → t.command.lun < 256
    each_byte bound k t found (inl here) =
        let same : x ≡ t = same_Some x t (sym at ∙ (ap (slice_get tasks) (sym here.1) ∙ found)) in
        subst (λ (z : Task). z.command.lun < 256) same bound
    each_byte bound k t found (inr other) = h.indexed.bytes k t (sym (get_moved id h.move h.before k other.1) ∙ (ap (λ (z : List Task). slice_get z k) (sym h.moved) ∙ found))

    each_settled : (k : ℕ) (t : Task) → slice_get tasks k ≡ Some t → ((k == id) ≡ true) × (k ≡ id) ⊎ ((k == id) ≡ false) × (k ≢ id) → (t.told ≡ is_done t.fate) ⊎ ((new.low ≤ k) × (k < new.high))
    each_settled k t found (inl here) =
        let same : x ≡ t = same_Some x t (sym at ∙ (ap (slice_get tasks) (sym here.1) ∙ found)) in
        subst (λ (z : Task). (z.told ≡ is_done z.fate) ⊎ ((new.low ≤ k) × (k < new.high))) same (subst (λ (n : ℕ). (x.told ≡ is_done x.fate) ⊎ ((new.low ≤ n) × (n < new.high))) (sym here.1) settled)
    each_settled k t found (inr other) = wider k t (h.indexed.settled k t (sym (get_moved id h.move h.before k other.1) ∙ (ap (λ (z : List Task). slice_get z k) (sym h.moved) ∙ found)))
      where
        wider : (k : ℕ) (t : Task) → (t.told ≡ is_done t.fate) ⊎ ((old.low ≤ k) × (k < old.high)) → (t.told ≡ is_done t.fate) ⊎ ((new.low ≤ k) × (k < new.high))
        wider k t (inl is) = inl is
        wider k t (inr within) = inr (omega arith, omega arith)

-- one submission more

with_own : (lun : ℕ) (ts : List Task) (t : Task) → t.command.lun ≡ lun → lun_index lun (ts ++ t ∷ []) ≡ with_one (lun_index lun ts) (is_live t.fate) (is_waiting t.fate) (length ts)
with_own lun ts t is =
    let p : Task → Bool = λ x. x.command.lun == lun && is_live x.fate in
    let first : waiting_on lun (ts ++ t ∷ []) ≡ first_with (waiting_on lun ts) (is_waiting t.fate) (length ts) =
    position-append (waits_on lun) ts t (waiting_on lun ts) refl ∙ ap (λ (b : Bool). first_with (waiting_on lun ts) b (length ts)) (on_own t.command.lun lun (is_waiting t.fate) is) in
    let count : live_on_lun lun (ts ++ t ∷ []) ≡ live_on_lun lun ts + cond (is_live t.fate) 1 0 =
    count-append p ts t ∙ ap (λ (b : Bool). live_on_lun lun ts + cond b 1 0) (on_own t.command.lun lun (is_live t.fate) is) in
    same_index (lun_index lun (ts ++ t ∷ [])) (with_one (lun_index lun ts) (is_live t.fate) (is_waiting t.fate) (length ts)) first count

with_other : (lun : ℕ) (ts : List Task) (t : Task) → t.command.lun ≢ lun → lun_index lun (ts ++ t ∷ []) ≡ lun_index lun ts
with_other lun ts t other =
    let p : Task → Bool = λ x. x.command.lun == lun && is_live x.fate in
    let first : waiting_on lun (ts ++ t ∷ []) ≡ waiting_on lun ts =
    position-append (waits_on lun) ts t (waiting_on lun ts) refl ∙ (ap (λ (b : Bool). first_with (waiting_on lun ts) b (length ts)) (off_other t.command.lun lun (is_waiting t.fate) other) ∙ first_without (waiting_on lun ts) (length ts)) in
    let count : live_on_lun lun (ts ++ t ∷ []) ≡ live_on_lun lun ts =
    omega (arith, count-append p ts t, ap (λ (b : Bool). cond {A = ℕ} b 1 0) (off_other t.command.lun lun (is_live t.fate) other)) in
    same_index (lun_index lun (ts ++ t ∷ [])) (lun_index lun ts) first count

pub with_is : (v u : LunIndex) (live waits : Bool) (ls : List LunIndex) (id lun : ℕ) (f : Fate) (n : ℕ) → v ≡ with_one u live waits id → live ≡ is_live f → waits ≡ is_waiting f → u ≡ get_or ls lun u → id ≡ n
    → v ≡ with_one (get_or ls lun u) (is_live f) (is_waiting f) n
with_is v u live waits ls id lun f n is lives waiting got same =
    is ∙ (ap (λ (w : LunIndex). with_one w live waits id) got ∙ (ap (λ (b : Bool). with_one (get_or ls lun u) b waits id) lives
    ∙ (ap (λ (b : Bool). with_one (get_or ls lun u) (is_live f) b id) waiting ∙ ap (λ (k : ℕ). with_one (get_or ls lun u) (is_live f) (is_waiting f) k) same)))

pub indexed_more : (old new : Index) (ts : List Task) (t : Task) (v d : LunIndex) → IsIndexed old ts → t.command.lun < 256 → new.luns.items ≡ set old.luns.items t.command.lun v
    → v ≡ with_one (get_or old.luns.items t.command.lun d) (is_live t.fate) (is_waiting t.fate) (length ts) → vec_len new.luns ≡ vec_len old.luns → new.low ≤ old.low → old.high ≤ new.high
    → (t.told ≡ is_done t.fate) ⊎ ((new.low ≤ length ts) × (length ts < new.high)) → IsIndexed new (ts ++ t ∷ [])
indexed_more old new ts t v d h bound made is len low high settled = record {
  size = len ∙ h.size;
  luns = λ lun under. each_lun lun under (eqb_tells lun t.command.lun);
  bytes = λ k x found. each_byte k x (get_of ts t k x found);
  settled = λ k x found. each_settled k x (get_of ts t k x found);
}
  where
    each_lun : (lun : ℕ) → lun < 256 → ((lun == t.command.lun) ≡ true) × (lun ≡ t.command.lun) ⊎ ((lun == t.command.lun) ≡ false) × (lun ≢ t.command.lun) → slice_get new.luns.items lun ≡ Some (lun_index lun (ts ++ t ∷ []))
    each_lun lun under (inl here) =
        let got : get_or old.luns.items t.command.lun d ≡ lun_index t.command.lun ts = get_or_from_slice_get old.luns.items t.command.lun (lun_index t.command.lun ts) d (h.luns t.command.lun bound) in
        let whole : v ≡ lun_index t.command.lun (ts ++ t ∷ []) = is ∙ (ap (λ (u : LunIndex). with_one u (is_live t.fate) (is_waiting t.fate) (length ts)) got ∙ sym (with_own t.command.lun ts t refl)) in
        rw (here.1, made) (get_set old.luns.items t.command.lun v (slice_get_within old.luns.items t.command.lun _ (h.luns t.command.lun bound)) ∙ ap (λ (u : LunIndex). Some u) whole)
    each_lun lun under (inr other) =
        rw made (get_set_other old.luns.items t.command.lun lun v (lun_index lun ts) other.1 (h.luns lun under) ∙ ap (λ (u : LunIndex). Some u) (sym (with_other lun ts t (λ e. other.1 (sym e)))))

    each_byte : (k : ℕ) (x : Task) → (slice_get ts k ≡ Some x) ⊎ ((k ≡ length ts) × (t ≡ x)) → x.command.lun < 256
    each_byte k x (inl front) = h.bytes k x front
    each_byte k x (inr back) = subst (λ (z : Task). z.command.lun < 256) back.1 bound

    wider : (k : ℕ) (x : Task) → (x.told ≡ is_done x.fate) ⊎ ((old.low ≤ k) × (k < old.high)) → (x.told ≡ is_done x.fate) ⊎ ((new.low ≤ k) × (k < new.high))
    wider k x (inl is) = inl is
    wider k x (inr within) = inr (omega arith, omega arith)

    each_settled : (k : ℕ) (x : Task) → (slice_get ts k ≡ Some x) ⊎ ((k ≡ length ts) × (t ≡ x)) → (x.told ≡ is_done x.fate) ⊎ ((new.low ≤ k) × (k < new.high))
    each_settled k x (inl front) = wider k x (h.settled k x front)
    each_settled k x (inr back) =
        subst (λ (z : Task). (z.told ≡ is_done z.fate) ⊎ ((new.low ≤ k) × (k < new.high))) back.1 (subst (λ (n : ℕ). (t.told ≡ is_done t.fate) ⊎ ((new.low ≤ n) × (n < new.high))) (sym back.0) settled)

-- the one to send

abbrev pub can_go : ℕ → List Task → Task → Bool
can_go depth ts t = is_waiting t.fate && nat_lt (live_on_lun t.command.lun ts) depth

abbrev pub goes_below : ℕ → ℕ → List Task → Task → Bool
goes_below lun depth ts t = nat_lt t.command.lun lun && can_go depth ts t

abbrev pub sendable_below : ℕ → ℕ → List Task → Option ℕ
sendable_below lun depth ts = position (goes_below lun depth ts) ts

pub sendable_none : (depth : ℕ) (ts : List Task) → sendable_below 0 depth ts ≡ None
sendable_none depth ts = first_none (goes_below 0 depth ts) ts (λ k t at. ap (λ (b : Bool). b && can_go depth ts t) (lt_false t.command.lun 0 (omega arith)))

and_true : (b : Bool) → (b && true) ≡ b
and_true true = refl
and_true false = refl

or_false : (b : Bool) → (b || false) ≡ b
or_false true = refl
or_false false = refl

and_false : (b : Bool) → (b && false) ≡ false
and_false true = refl
and_false false = refl

further : (a n : ℕ) → a ≢ n → nat_lt a (n + 1) ≡ nat_lt a n
further a n other = grind (arith, nat_tests)

goes_on : (lun depth : ℕ) (ts : List Task) (t : Task) → nat_lt (live_on_lun lun ts) depth ≡ true → ((t.command.lun == lun) ≡ true) × (t.command.lun ≡ lun) ⊎ ((t.command.lun == lun) ≡ false) × (t.command.lun ≢ lun)
    → goes_below (lun + 1) depth ts t ≡ (goes_below lun depth ts t || waits_on lun t)
goes_on lun depth ts t room (inl here) =
    let there : nat_lt t.command.lun (lun + 1) ≡ true = lt_true t.command.lun (lun + 1) (omega arith) in
    let before : nat_lt t.command.lun lun ≡ false = lt_false t.command.lun lun (omega arith) in
    let free : nat_lt (live_on_lun t.command.lun ts) depth ≡ true = ap (λ (n : ℕ). nat_lt (live_on_lun n ts) depth) here.1 ∙ room in
    rw (there, before, free, here.0) (and_true (is_waiting t.fate))
goes_on lun depth ts t room (inr other) =
    rw (further t.command.lun lun other.1, other.0) (sym (or_false (goes_below lun depth ts t)))

stands : (lun depth : ℕ) (ts : List Task) (t : Task) → nat_lt (live_on_lun lun ts) depth ≡ false → ((t.command.lun == lun) ≡ true) × (t.command.lun ≡ lun) ⊎ ((t.command.lun == lun) ≡ false) × (t.command.lun ≢ lun)
    → goes_below lun depth ts t ≡ goes_below (lun + 1) depth ts t
stands lun depth ts t room (inl here) =
    let there : nat_lt t.command.lun (lun + 1) ≡ true = lt_true t.command.lun (lun + 1) (omega arith) in
    let before : nat_lt t.command.lun lun ≡ false = lt_false t.command.lun lun (omega arith) in
    let full : nat_lt (live_on_lun t.command.lun ts) depth ≡ false = ap (λ (n : ℕ). nat_lt (live_on_lun n ts) depth) here.1 ∙ room in
    rw (there, before, full) (sym (and_false (is_waiting t.fate)))
stands lun depth ts t room (inr other) = ap (λ (b : Bool). b && can_go depth ts t) (sym (further t.command.lun lun other.1))

pub sendable_room : (lun depth : ℕ) (ts : List Task) (first : Option ℕ) → nat_lt (live_on_lun lun ts) depth ≡ true → first ≡ sendable_below lun depth ts → earlier first (waiting_on lun ts) ≡ sendable_below (lun + 1) depth ts
sendable_room lun depth ts first room is =
    ap (λ (o : Option ℕ). earlier o (waiting_on lun ts)) is ∙ sym (position-or (goes_below lun depth ts) (waits_on lun) (goes_below (lun + 1) depth ts) ts (sendable_below lun depth ts) (waiting_on lun ts)
    (λ t. goes_on lun depth ts t room (eqb_tells t.command.lun lun)) refl refl)

pub sendable_full : (lun depth : ℕ) (ts : List Task) (first : Option ℕ) → nat_lt (live_on_lun lun ts) depth ≡ false → first ≡ sendable_below lun depth ts → first ≡ sendable_below (lun + 1) depth ts
sendable_full lun depth ts first room is =
    is ∙ sym (position_like (goes_below lun depth ts) (goes_below (lun + 1) depth ts) ts (sendable_below lun depth ts) (λ k t at. stands lun depth ts t room (eqb_tells t.command.lun lun)) refl)

pub sendable_step : (ix : Index) (lun depth : ℕ) (ts : List Task) (first : Option ℕ) (u d : LunIndex) → IsIndexed ix ts → lun < 256 → u ≡ get_or ix.luns.items lun d → first ≡ sendable_below lun depth ts
    → earlier_where (nat_lt u.live depth) first u.first ≡ sendable_below (lun + 1) depth ts
sendable_step ix lun depth ts first u d h under got is =
    let same : u ≡ lun_index lun ts = got ∙ get_or_from_slice_get ix.luns.items lun (lun_index lun ts) d (h.luns lun under) in
    rw same (by_room (nat_lt (live_on_lun lun ts) depth) refl)
  where
    by_room : (b : Bool) → nat_lt (live_on_lun lun ts) depth ≡ b → earlier_where b first (waiting_on lun ts) ≡ sendable_below (lun + 1) depth ts
    by_room true room = sendable_room lun depth ts first room is
    by_room false room = sendable_full lun depth ts first room is

pub sendable_next : (ix : Index) (ls : List LunIndex) (lun depth : ℕ) (ts : List Task) (first result : Option ℕ) (d : LunIndex) → IsIndexed ix ts → ls ≡ ix.luns.items → lun < length ls
    → result ≡ earlier_where (nat_lt (get_or ls lun d).live depth) first (get_or ls lun d).first → first ≡ sendable_below lun depth ts → result ≡ sendable_below (lun + 1) depth ts
sendable_next ix ls lun depth ts first result d h same under makes is =
    makes ∙ sendable_step ix lun depth ts first (get_or ls lun d) d h (omega (arith, h.size, ap length same)) (ap (λ (z : List LunIndex). get_or z lun d) same) is

pub sendable_all : (ix : Index) (depth lun : ℕ) (ts : List Task) (first : Option ℕ) → IsIndexed ix ts → 256 ≤ lun → first ≡ sendable_below lun depth ts → first ≡ sendable depth ts
sendable_all ix depth lun ts first h past is =
    is ∙ sym (position_like (goes_below lun depth ts) (can_go depth ts) ts (sendable_below lun depth ts)
    (λ k t at. ap (λ (b : Bool). b && can_go depth ts t) (lt_true t.command.lun lun (below_all (h.bytes k t at)))) refl)
  where
    below_all : {n : ℕ} → n < 256 → n < lun
    below_all under = omega arith

-- one that is none
pub indexed_far : (ix : Index) (id : ℕ) (was_live : Bool) (tasks : List Task) → WasIndexed ix id was_live tasks → length tasks ≤ id → IsIndexed ix tasks
indexed_far ix id was_live tasks h past =
    let same : h.before ≡ changed id h.move h.before = changed_far id h.move h.before (omega (arith, ap length h.moved, length-moved id h.move h.before)) in
    subst (λ (z : List Task). IsIndexed ix z) (same ∙ sym h.moved) h.indexed

pub live_within : (ix : Index) (ts : List Task) (lun : ℕ) (u d : LunIndex) → IsIndexed ix ts → lun < 256 → u ≡ get_or ix.luns.items lun d → u.live ≤ length ts
live_within ix ts lun u d h under is =
    let same : u ≡ lun_index lun ts = is ∙ get_or_from_slice_get ix.luns.items lun (lun_index lun ts) d (h.luns lun under) in
    let p : Task → Bool = λ t. t.command.lun == lun && is_live t.fate in
    omega (arith, ap (λ (v : LunIndex). v.live) same, count_by-le-length p ts)

-- all are handed out

lun_told : (lun : ℕ) (ts : List Task) → lun_index lun (map told_task ts) ≡ lun_index lun ts
lun_told lun ts =
    same_index (lun_index lun (map told_task ts)) (lun_index lun ts) (position-map (waits_on lun) told_task ts (waiting_on lun ts) (λ t. refl) refl)
    (count-map (λ (t : Task). t.command.lun == lun && is_live t.fate) told_task ts (λ t. refl))

pub indexed_told : (old new : Index) (ts : List Task) → IsIndexed old ts → new.luns ≡ old.luns → IsIndexed new (map told_task ts)
indexed_told old new ts h same = record {
  size = ap vec_len same ∙ h.size;
  luns = λ lun under. ap (λ (v : _). slice_get v.items lun) same ∙ (h.luns lun under ∙ ap (λ (u : LunIndex). Some u) (sym (lun_told lun ts)));
  bytes = λ id t found.
      let from = get_of_map told_task ts id t found in
      subst (λ (z : Task). z.command.lun < 256) (sym from.2) (h.bytes id from.0 from.1);
  settled = λ id t found.
      let from = get_of_map told_task ts id t found in
      inl (subst (λ (z : Task). z.told ≡ is_done z.fate) (sym from.2) refl);
}

-- what moves on keeps its command

if_command : (b : Bool) (u v t : Task) → u.command ≡ t.command → v.command ≡ t.command → (if b then u else v).command ≡ t.command
if_command true u v t p q = p
if_command false u v t p q = q

moved_command : (at : ℕ) (t : Task) (n : Next) → (moved_by at t n).command ≡ t.command
moved_command at t (Wait tries) = refl
moved_command at t (Host code) = refl
moved_command at t Stay = refl
moved_command at t Answer = refl

hit_command : (a at : ℕ) (hit : Hit) (t : Task) (f : Fate) → (hit_in a at hit t f).command ≡ t.command
hit_command a at hit t (Waiting tries) = moved_command at t _
hit_command a at hit t (Live generation tag tries) = moved_command at t _
hit_command a at hit t (Done outcome n) = refl

pub blow_command : (a at : ℕ) (blow : Blow) (k : ℕ) (t : Task) → (blow_by a at blow k t).command ≡ t.command
blow_command a at (Struck hit) k t = hit_command a at hit t t.fate
blow_command a at (Reset lun) k t = if_command (t.command.lun == lun) _ t t (hit_command a at ResetDone t t.fate) refl
blow_command a at (Loss handler at_once counted) k t = hit_command a at (ByLoss (aim_of handler k t) at_once counted) t t.fate

settled_command : (at : ℕ) (r : ReplyData) (t : Task) (n : Next) → (settled at r t n).command ≡ t.command
settled_command at r t Stay = refl
settled_command at r t (Wait tries) = refl
settled_command at r t Answer = refl
settled_command at r t (Host code) = refl

pub data_command : (a at : ℕ) (aim : Aim) (h : DataInHeader) (payload : List ℕ) (t : Task) → (got_data a at aim h payload t).command ≡ t.command
data_command a at aim h payload t =
    if_command (is_live_on h.tag.0 t.fate) _ t t (if_command h.ends _ (with_piece payload t) t (settled_command at (data_reply h) (with_piece payload t) _) refl) refl

pub response_command : (a at : ℕ) (aim : Aim) (h : ResponseHeader) (payload : List ℕ) (t : Task) → (got_response a at aim h payload t).command ≡ t.command
response_command a at aim h payload t = if_command (is_live_on h.tag.0 t.fate) _ t t (settled_command at (scsi_reply h payload) t _) refl

pub was_indexed : (ix : Index) (id : ℕ) (was_live : Bool) (ts us : List Task) (f : Task → Task) → IsIndexed ix ts → us ≡ changed id f ts → ((t : Task) → (f t).command ≡ t.command) → was_live ≡ live_at id ts → WasIndexed ix id was_live us
was_indexed ix id was_live ts us f h moved command live = record { before = ts; move = f; indexed = h; moved = moved; command = command; live = live }

pub seen : (ix : Index) (ts us : List Task) → us ≡ ts → IsIndexed ix us → IsIndexed ix ts
seen ix ts us is h = subst (λ (z : List Task). IsIndexed ix z) is h

-- all that came in
pub seen_all : (ix : Index) (ts us vs : List Task) (t : Task) (n : ℕ) → IsIndexed ix (take (n + 1) us) → n ≡ length ts → us ≡ vs → vs ≡ ts ++ t ∷ [] → IsIndexed ix vs
seen_all ix ts us vs t n h len same is =
    subst (λ (z : List Task). IsIndexed ix z) (ap (take (n + 1)) same ∙ take_all (n + 1) vs (omega (arith, len, ap length is, length-append ts (t ∷ [])))) h
