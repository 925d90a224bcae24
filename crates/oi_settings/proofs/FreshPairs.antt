-- Fresh records.
use Rattle.std.proofs.Common.{◌≡◌, ℕ, zero, suc, ◌+◌, ◌≤◌, inl, inr, Bool, true, false, true≢false, cond, bytes_eq, is_some, unwrap_or, option_map, Option, Some, None, List, [], ◌∷◌, ◌++◌, length, map, take, refl, sym, ap, ◌∙◌, subst, arith, length-append}
use Rattle.std.specs.Prelude.{IfSome, slice_get}
use Rattle.std.specs.Fmt.{decimal}
use Rattle.std.specs.List.{list_all}
use Rattle.std.proofs.lemmas.List.{length-map, take_more}
use Rattle.std.proofs.lemmas.Option.{get_or_from_slice_get, slice_get-map, slice_get_within}
use Rattle.oi_names.specs.declared.portal.Portal.{Portal}
use Rattle.oi_names.specs.Portals.{HasPort, IsAddress, IsPortalOf, lower_byte, lower_case, portal_text}
use Rattle.oi_names.proofs.Lists.{split_same}
use Rattle.oi_names.proofs.Readings.{again}
use Rattle.oi_settings.specs.declared.schema.Part.{Part}
use Rattle.oi_settings.specs.declared.schema.Part.TheVariants.{Target, Tag, Address, Port, Interface}
use Rattle.oi_settings.specs.declared.schema.Range.{Range}
use Rattle.oi_settings.specs.declared.schema.Range.TheVariants.{OfKey, Number, NumberOrNever, YesNo, Startup, Method, Credential}
use Rattle.oi_settings.specs.declared.schema.Setting.{Setting}
use Rattle.oi_settings.specs.Keys.{IsKey, IsRead, Key}
use Rattle.oi_settings.specs.Pairs.{AreOnce, Pair, has_name, put, value_of}
use Rattle.oi_settings.specs.Schema.{IsIn, IsPart, Row, fresh_pairs, initial_by, is_of_key, part_text, row_of, table}
use Rattle.oi_settings.specs.Texts.{AreLines, IsKeyOf, IsNode}
use Rattle.oi_settings.proofs.PairLists.{name_itself, put-new, same_name}
use Rattle.oi_settings.proofs.Tables.{AreNamed, Fits, all_fit, fits_in, is_in_from, named, row_fits}
use Rattle.oi_settings.proofs.Values.{value_in}

-- a portal that some text names, taken apart
pub record Whole (portal : Portal) : Type 0 where
  pub word : IsAddress portal.address
  pub lower : lower_case portal.address ≡ portal.address
  pub low : 1 ≤ portal.port
  pub high : portal.port ≤ 65535

whole_by : (address host front : List ℕ) (port : ℕ) → address ≡ lower_case host → IsAddress host → HasPort host port front → portal_text address port ≡ front → Whole record { address = address; port = port }
whole_by address host front port lower word (inl (same, _)) written =
    let hosts : length address ≡ length host = ap length lower ∙ length-map host lower_byte in
    absurd (omega (arith, hosts, ap length (written ∙ same), length-append address (58 ∷ decimal port)))
whole_by address host front port lower word (inr (same, low, high)) written =
    let hosts : length address ≡ length host = ap length lower ∙ length-map host lower_byte in
    let is : address ≡ host = (split_same address host (58 ∷ decimal port) (58 ∷ decimal port) hosts (written ∙ same)).0 in
    record { word = subst IsAddress (sym is) word; lower = ap lower_case is ∙ sym lower; low = low; high = high }

pub whole : (portal : Portal) → IsRead portal → Whole portal
whole portal (text, tag, read) = go (again text portal.address portal.port tag read)
  where
    go : IsPortalOf portal.address portal.port None (portal_text portal.address portal.port) → Whole portal
    go (host, lower, (word, (front, has, written))) = whole_by portal.address host front portal.port lower word has written

-- the part of a key is in its range
pub part_in : (part : Part) (key : Key) → IsKey key → IsPart part (part_text part key)
part_in Target key is = is.name
part_in Tag key is = (key.tag, omega arith, omega (arith, is.group), refl)
part_in Address key is = (whole key.portal is.place).word
part_in Port key is = let w = whole key.portal is.place in (key.portal.port, w.low, w.high, refl)
part_in Interface key is = is.interface

-- each initial value is in the range of its setting
initial_by_in : (range : Range) (text : List ℕ) (key : Key) → IsKey key → (is_of_key range ≡ false → IsIn range text) → IsIn range (initial_by range text key)
initial_by_in (OfKey which) text key is other = part_in which key is
initial_by_in (Number low high) text key is other = other refl
initial_by_in (NumberOrNever high) text key is other = other refl
initial_by_in YesNo text key is other = other refl
initial_by_in Startup text key is other = other refl
initial_by_in Method text key is other = other refl
initial_by_in Credential text key is other = other refl

initial_in : (r : Row) (key : Key) → IsKey key → Fits r → IsIn r.range (initial_by r.range r.initial key)
initial_in r key is fits = initial_by_in r.range r.initial key is (λ other. is_in_from r.range r.initial other fits.starts)

-- the pairs of some rows
abbrev pub first_pairs : Key → List Row → List Pair
first_pairs key rs = map (λ r. (r.name, initial_by r.range r.initial key)) rs

lines_of_rows : (key : Key) → IsKey key → (rs : List Row) → list_all row_fits rs ≡ true → AreNamed rs → AreLines table (first_pairs key rs)
lines_of_rows key is [] all names = tt
lines_of_rows key is (r ∷ rs) all (name, names) =
    let both = fits_in (r ∷ rs) all r rs refl in
    let value = initial_in r key is both.0 in (
      record { name_some = both.0.some; name_fits = both.0.short; name_bytes = both.0.bytes; value_bytes = value_in r.range (initial_by r.range r.initial key) both.0.small value },
      subst (λ (o : Option Row). IfSome o (λ x. IsIn x.range (initial_by r.range r.initial key))) (sym name) value,
      lines_of_rows key is rs both.1 names,
    )

once_fresh : (key : Key) → AreOnce (fresh_pairs key)
once_fresh key = (
  refl,
  (
    refl,
    (
      refl,
      (
        refl,
        (
          refl,
          (
            refl,
            (
              refl,
              (
                refl,
                (
                  refl,
                  (
                    refl,
                    (
                      refl,
                      (
                        refl,
                        (
                          refl,
                          (
                            refl,
                            (
                              refl,
                              (
                                refl,
                                (
                                  refl,
                                  (
                                    refl,
                                    (
                                      refl,
                                      (
                                        refl,
                                        (
                                          refl,
                                          (
                                            refl,
                                            (
                                              refl,
                                              (
                                                refl,
                                                (
                                                  refl,
                                                  (refl, (refl, (refl, (refl, (refl, tt))))),
                                                ),
                                              ),
                                            ),
                                          ),
                                        ),
                                      ),
                                    ),
                                  ),
                                ),
                              ),
                            ),
                          ),
                        ),
                      ),
                    ),
                  ),
                ),
              ),
            ),
          ),
        ),
      ),
    ),
  ),
)

key_fresh : (key : Key) → IsKey key → IsKeyOf (fresh_pairs key) key
key_fresh key is Target = (key.target, refl, refl)
key_fresh key is Tag = (decimal key.tag, refl, refl)
key_fresh key is Address = (key.portal.address, refl, sym (whole key.portal is.place).lower)
key_fresh key is Port = (decimal key.portal.port, refl, refl)
key_fresh key is Interface = (key.iface, refl, refl)

pub fresh_node : (key : Key) → IsKey key → IsNode record { key = key; pairs = fresh_pairs key }
fresh_node key is = record {
  valid = is;
  pairs = record { lines = lines_of_rows key is table all_fit named; once = once_fresh key; complete = refl };
  named = key_fresh key is;
}

-- the name of a pair stands there
has_there : (ps : List Pair) (i : ℕ) (n v : List ℕ) → slice_get ps i ≡ Some (n, v) → has_name n ps ≡ true
has_there [] i n v found = absurd (true≢false (sym (ap is_some found)))
has_there (p ∷ ps) zero n v found =
    let same : p.0 ≡ n = ap (λ (o : Option Pair). (unwrap_or o p).0) found in
    ap (λ (b : Bool). is_some (cond b (Some p.1) (value_of n ps))) (ap (bytes_eq n) same ∙ name_itself n)
has_there (p ∷ ps) (suc i) n v found = go (bytes_eq n p.0) (has_there ps i n v found)
  where
    go : (b : Bool) → has_name n ps ≡ true → is_some (cond b (Some p.1) (value_of n ps)) ≡ true
    go true rest = refl
    go false rest = rest

-- no name before a pair is its own
new_there : (ps : List Pair) (i : ℕ) (n v : List ℕ) → AreOnce ps → slice_get ps i ≡ Some (n, v) → has_name n (take i ps) ≡ false
new_there [] zero n v once found = refl
new_there [] (suc i) n v once found = refl
new_there (p ∷ ps) zero n v once found = refl
new_there (p ∷ ps) (suc i) n v (alone, once) found = go (bytes_eq n p.0) refl (new_there ps i n v once found)
  where
    go : (b : Bool) → bytes_eq n p.0 ≡ b → has_name n (take i ps) ≡ false → is_some (cond b (Some p.1) (value_of n (take i ps))) ≡ false
    go true e rest = absurd (true≢false (sym (has_there ps i n v found) ∙ ap (λ (m : List ℕ). has_name m ps) (same_name n p.0 e) ∙ alone))
    go false e rest = rest

-- the next pair is put last
pub put_next : (ps : List Pair) (i : ℕ) (n v : List ℕ) → AreOnce ps → slice_get ps i ≡ Some (n, v) → put n v (take i ps) ≡ take (i + 1) ps
put_next ps i n v once found =
    put-new n v (take i ps) (new_there ps i n v once found)
    ∙ ap (λ (p : Pair). take i ps ++ p ∷ []) (sym (get_or_from_slice_get ps i (n, v) (n, v) found)) ∙ sym (take_more ps i (n, v) (slice_get_within ps i (n, v) found))

pub put_next_fresh : (key : Key) (i : ℕ) (n v : List ℕ) → slice_get (fresh_pairs key) i ≡ Some (n, v) → put n v (take i (fresh_pairs key)) ≡ take (i + 1) (fresh_pairs key)
put_next_fresh key i n v found = put_next (fresh_pairs key) i n v (once_fresh key) found

-- one pair more is copied
pub copied_on : (ps : List Pair) (i : ℕ) (n v m w : List ℕ) (copy new : List Pair) → AreOnce ps → new ≡ put m w copy → m ≡ n → w ≡ v → copy ≡ take i ps → slice_get ps i ≡ Some (n, v)
    → new ≡ take (i + 1) ps
copied_on ps i n v m w copy new once made name value so_far found =
    made ∙ ap (λ (x : List ℕ). put x w copy) name ∙ ap (λ (x : List ℕ). put n x copy) value ∙ ap (put n v) so_far ∙ put_next ps i n v once found

-- one setting more is put
pub fresh_on : (key : Key) (ss : List Setting) (i : ℕ) (s : Setting) (fresh new : List Pair) → map row_of ss ≡ table → slice_get ss i ≡ Some s
    → new ≡ put s.name.now (initial_by s.range s.initial.now key) fresh → fresh ≡ take i (fresh_pairs key) → new ≡ take (i + 1) (fresh_pairs key)
fresh_on key ss i s fresh new rows at made so_far =
    let pair : Row → Pair = λ r. (r.name, initial_by r.range r.initial key) in
    let found : slice_get (fresh_pairs key) i ≡ Some (s.name.now, initial_by s.range s.initial.now key) =
    ap (λ (x : List Row). slice_get (map pair x) i) (sym rows) ∙ slice_get-map pair (map row_of ss) i ∙ ap (option_map pair) (slice_get-map row_of ss i ∙ ap (option_map row_of) at) in
    made ∙ ap (put s.name.now (initial_by s.range s.initial.now key)) so_far ∙ put_next_fresh key i s.name.now (initial_by s.range s.initial.now key) found
