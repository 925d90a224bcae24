-- What a splitter makes of a piece byte by byte is the framing.
use Rattle.std.proofs.Common.{ℕ, true, false, Bool, ◌&&◌, nat_le, nat_lt, if◌then◌else◌, ◌+◌, ◌-◌, ◌<◌, ◌≤◌, List, [], ◌∷◌, ◌++◌, ◌≡◌, ◌∙◌, sym, refl, ap, subst, length, take, drop, min, arith, Option, Some, None, ⊎_elim, lt-ltb, le-ltb}
use Rattle.std.proofs.lemmas.List.{append-nil, append_assoc, length-append, length-take, length-drop, take-append-le, take_all, drop_all}
use Rattle.std.proofs.lemmas.Bool.{cases_lt, lt-leb, le-leb}
use Rattle.oi_base.specs.Counts.{told_long}
use Rattle.oi_pdu.specs.Segments.{additional, basic_at, data_len}
use Rattle.oi_pdu.specs.Table.{bad_header, header_of}
use Rattle.oi_pdu.specs.Wire.{Decodes, head_of, whole_len}
use Rattle.oi_pdu.specs.declared.codec.Pdu.{Pdu}
use Rattle.oi_stream.specs.Framing.{Frames, IsFrame, IsRun, Stop, BadHeader, TooLong, Short, StopsAt}
use Rattle.oi_stream.specs.Feeding.{State, Follows}
use Rattle.oi_stream.specs.Bytewise.{Fed, is_data, with_byte, waits, hands_out, stop_by, stop_at, stands_by, fed_byte, joined, fed, Stays, UnfedFollows, FedIsFramed, FedFollows, FedStays, FedInARow}
use Rattle.oi_stream.proofs.Fronts.{middle_over}
use Rattle.oi_stream.proofs.Course.{run_push}
use Rattle.oi_stream.proofs.Streams.{bad_not_short, long_not_short, followed_is_framed, frames_on}

pub unfed_follows : UnfedFollows
unfed_follows limit = record {
  front = [];
  rest = [];
  whole = refl;
  run = refl;
  at = refl;
  kept = record {
    counted = refl;
    header = sym (take_all 48 [] (omega arith));
    blank = λ _. refl;
    opened = λ there. absurd (omega (arith, there));
  };
  cut = λ there. absurd (omega (arith, there));
}

-- two pieces in a row

joined_thrice : (s t : State) (ps qs : List Pdu) (x y : Stop) (f : State → Fed)
    → joined (record { state = s; pdus = ps; stop = x }) (joined (record { state = t; pdus = qs; stop = y }) (f t))
    ≡ joined (joined (record { state = s; pdus = ps; stop = x }) (record { state = t; pdus = qs; stop = y })) (f (joined (record { state = s; pdus = ps; stop = x }) (record { state = t; pdus = qs; stop = y })).state)
joined_thrice s t ps qs Short Short f =
    ap (λ (z : List Pdu). record { state = (f t).state; pdus = z; stop = (f t).stop }) (sym (append_assoc ps qs (f t).pdus))
joined_thrice s t ps qs Short (BadHeader n) f = refl
joined_thrice s t ps qs Short (TooLong n) f = refl
joined_thrice s t ps qs (BadHeader n) y f = refl
joined_thrice s t ps qs (TooLong n) y f = refl

pub fed_in_a_row : FedInARow
fed_in_a_row s [] ys = refl
fed_in_a_row s (x ∷ xs) ys =
    let a = fed_byte s x in
    let b = fed a.state xs in
    ap (λ (z : Fed). joined a z) (fed_in_a_row a.state xs ys)
    ∙ joined_thrice a.state b.state a.pdus b.pdus a.stop b.stop (λ t. fed t ys)

-- what stays

chosen : (P : Fed → Type 0) (b : Bool) (x y : Fed) → P x → P y → P (if b then x else y)
chosen P true x y p q = p
chosen P false x y p q = q

stands_by_stays : (t : State) (stop : Stop) → Stays t (stands_by t stop)
stands_by_stays t (BadHeader byte) = (refl, λ e. absurd (bad_not_short byte e), λ _. refl)
stands_by_stays t (TooLong size) = (refl, λ e. absurd (long_not_short size e), λ _. refl)
stands_by_stays t Short =
    chosen (λ f. Stays t f) (nat_lt t.count (whole_len t.head)) (waits t) (hands_out t) (refl, λ _. refl, λ never. absurd (never refl)) (refl, λ _. refl, λ never. absurd (never refl))

byte_stays : (s : State) (byte : ℕ) → Stays s (fed_byte s byte)
byte_stays s byte =
    let t = with_byte s byte in
    chosen (λ f. Stays s f) (nat_lt t.count 48) (waits t) (stands_by t (stop_at t.limit t.head)) (refl, λ _. refl, λ never. absurd (never refl)) (stands_by_stays t (stop_at t.limit t.head))

joined_stays : (s t : State) (more : List Pdu) (stop : Stop) (b : Fed) → Stays s (record { state = t; pdus = more; stop = stop }) → Stays t b → Stays s (joined (record { state = t; pdus = more; stop = stop }) b)
joined_stays s t more Short b first next = (next.0 ∙ first.0, λ e. next.1 e ∙ first.1 refl, next.2)
joined_stays s t more (BadHeader byte) b first next = first
joined_stays s t more (TooLong size) b first next = first

pub fed_stays : FedStays
fed_stays s [] = (refl, λ _. refl, λ never. absurd (never refl))
fed_stays s (byte ∷ piece) =
    let a = fed_byte s byte in
    joined_stays s a.state a.pdus a.stop (fed a.state piece) (byte_stays s byte) (fed_stays a.state piece)

-- one byte more

within_yes : (a n b : ℕ) → a ≤ n → n < b → (nat_le a n && nat_lt n b) ≡ true
within_yes a n b low high = rw (le-leb a n low, lt-ltb n b high) refl

within_below : (a n b : ℕ) → n < a → (nat_le a n && nat_lt n b) ≡ false
within_below a n b low = rw (lt-leb a n low) refl

within_past : (a n b : ℕ) → a ≤ n → b ≤ n → (nat_le a n && nat_lt n b) ≡ false
within_past a n b low high = rw (le-leb a n low, le-ltb n b high) refl

picked : {X : Type 0} (b : Bool) (x y : X) → b ≡ true → (if b then x else y) ≡ x
picked b x y e = rw e refl

passed : {X : Type 0} (b : Bool) (x y : X) → b ≡ false → (if b then x else y) ≡ y
passed b x y e = rw e refl

one_before : (k j byte : ℕ) → 1 ≤ j → take k (drop j (byte ∷ [])) ≡ []
one_before k j byte h = ap (λ (z : List ℕ). take k z) (drop_all j (byte ∷ []) (omega (arith, h))) ∙ take_all k [] (omega arith)

one_in : (k j byte : ℕ) → j ≡ 0 → 1 ≤ k → take k (drop j (byte ∷ [])) ≡ byte ∷ []
one_in k j byte e h = ap (λ (n : ℕ). take k (drop n (byte ∷ []))) e ∙ take_all k (byte ∷ []) (omega (arith, h))

one_past : (k j byte : ℕ) → k ≡ 0 → take k (drop j (byte ∷ [])) ≡ []
one_past k j byte e = ap (λ (n : ℕ). take n (drop j (byte ∷ []))) e

-- the data of a segment over one byte more
data_byte : (begin size n : ℕ) (rest payload : List ℕ) (byte : ℕ) → n ≡ length rest → payload ≡ take size (drop begin rest)
    → (if nat_le begin n && nat_lt n (begin + size) then payload ++ byte ∷ [] else payload) ≡ take size (drop begin (rest ++ byte ∷ []))
data_byte begin size n rest payload byte counted segment =
    let part = take size (drop begin rest) in
    let k = size - length part in
    let j = begin - length rest in
    let long : length part ≡ min size (length rest - begin) = omega (arith, length-take size (drop begin rest), length-drop begin rest) in
    let over : payload ++ take k (drop j (byte ∷ [])) ≡ take size (drop begin (rest ++ byte ∷ [])) =
    ap (λ (z : List ℕ). z ++ take k (drop j (byte ∷ []))) segment ∙ sym (middle_over size begin rest (byte ∷ [])) in
    let here = nat_le begin n && nat_lt n (begin + size) in
    ⊎_elim
    (λ (below : n < begin).
    passed here (payload ++ byte ∷ []) payload (within_below begin n (begin + size) below) ∙ sym (append-nil payload)
    ∙ ap (λ (z : List ℕ). payload ++ z) (sym (one_before k j byte (omega arith))) ∙ over)
    (λ (least : begin ≤ n).
    ⊎_elim
    (λ (within : n < begin + size).
    picked here (payload ++ byte ∷ []) payload (within_yes begin n (begin + size) least within)
    ∙ ap (λ (z : List ℕ). payload ++ z) (sym (one_in k j byte (omega arith) (omega arith))) ∙ over)
    (λ (past : begin + size ≤ n).
    passed here (payload ++ byte ∷ []) payload (within_past begin n (begin + size) least past) ∙ sym (append-nil payload)
    ∙ ap (λ (z : List ℕ). payload ++ z) (sym (one_past k j byte (omega arith))) ∙ over)
    (cases_lt n (begin + size)))
    (cases_lt n begin)

-- where a byte has led, before its header is looked at
record Standing (bytes : List ℕ) (pdus : List Pdu) (t : State) : Type 0 where
  front : List ℕ
  rest : List ℕ
  whole : bytes ≡ front ++ rest
  run : IsRun t.limit front pdus
  at : t.place ≡ told_long (length front)
  counted : t.count ≡ length rest
  header : t.head ≡ head_of rest
  blank : length rest < 48 → t.payload ≡ []
  segment : 48 ≤ length rest → t.payload ≡ take (data_len t.head) (drop (48 + additional t.head) rest)
  within : 48 ≤ length rest → length rest ≤ whole_len t.head

stand_low : (bytes : List ℕ) (pdus : List Pdu) (s : State) (byte : ℕ) → Follows bytes pdus s → s.count < 48 → Standing (bytes ++ byte ∷ []) pdus (with_byte s byte)
stand_low bytes pdus s byte f low =
    let t = with_byte s byte in
    let rest = f.rest ++ byte ∷ [] in
    let len : length rest ≡ length f.rest + 1 = length-append f.rest (byte ∷ []) in
    let all : s.head ≡ f.rest = f.kept.header ∙ take_all 48 f.rest (omega (arith, f.kept.counted)) in
    let head : t.head ≡ rest = picked (nat_lt s.count 48) (s.head ++ byte ∷ []) s.head (lt-ltb s.count 48 low) ∙ ap (λ (z : List ℕ). z ++ byte ∷ []) all in
    let none : t.payload ≡ [] =
    passed (is_data s) (s.payload ++ byte ∷ []) s.payload (within_below (48 + additional s.head) s.count (48 + additional s.head + data_len s.head) (omega (arith, low)))
    ∙ f.kept.blank (omega (arith, f.kept.counted)) in
    record {
      front = f.front;
      rest = rest;
      whole = ap (λ (z : List ℕ). z ++ byte ∷ []) f.whole ∙ append_assoc f.front f.rest (byte ∷ []);
      run = f.run;
      at = f.at;
      counted = omega (arith, f.kept.counted, len);
      header = head ∙ sym (take_all 48 rest (omega (arith, f.kept.counted, len)));
      blank = λ _. none;
      segment = λ _.
          none ∙ sym (ap (λ (z : List ℕ). take (data_len t.head) z) (drop_all (48 + additional t.head) rest (omega (arith, f.kept.counted, len))) ∙ take_all (data_len t.head) [] (omega arith));
      within = λ _. omega (arith, f.kept.counted, len);
    }

stand_high : (bytes : List ℕ) (pdus : List Pdu) (s : State) (byte : ℕ) → Follows bytes pdus s → 48 ≤ s.count → Standing (bytes ++ byte ∷ []) pdus (with_byte s byte)
stand_high bytes pdus s byte f high =
    let t = with_byte s byte in
    let rest = f.rest ++ byte ∷ [] in
    let len : length rest ≡ length f.rest + 1 = length-append f.rest (byte ∷ []) in
    let there : 48 ≤ length f.rest = omega (arith, f.kept.counted) in
    let same : t.head ≡ s.head = passed (nat_lt s.count 48) (s.head ++ byte ∷ []) s.head (le-ltb s.count 48 high) in
    let was : s.payload ≡ take (data_len s.head) (drop (48 + additional s.head) f.rest) =
    subst (λ (z : List ℕ). s.payload ≡ take (data_len z) (drop (48 + additional z) f.rest)) (sym f.kept.header) (f.kept.opened there).segment in
    let now : t.payload ≡ take (data_len s.head) (drop (48 + additional s.head) rest) =
    data_byte (48 + additional s.head) (data_len s.head) s.count f.rest s.payload byte f.kept.counted was in
    record {
      front = f.front;
      rest = rest;
      whole = ap (λ (z : List ℕ). z ++ byte ∷ []) f.whole ∙ append_assoc f.front f.rest (byte ∷ []);
      run = f.run;
      at = f.at;
      counted = omega (arith, f.kept.counted, len);
      header = same ∙ f.kept.header ∙ sym (take-append-le 48 f.rest (byte ∷ []) there);
      blank = λ below. absurd (omega (arith, len, below, there));
      segment = λ _. subst (λ (z : List ℕ). t.payload ≡ take (data_len z) (drop (48 + additional z) rest)) (sym same) now;
      within = λ _. omega (arith, len, f.cut there, ap whole_len (same ∙ f.kept.header));
    }

standing : (bytes : List ℕ) (pdus : List Pdu) (s : State) (byte : ℕ) → Follows bytes pdus s → Standing (bytes ++ byte ∷ []) pdus (with_byte s byte)
standing bytes pdus s byte f =
    ⊎_elim (λ (low : s.count < 48). stand_low bytes pdus s byte f low) (λ (high : 48 ≤ s.count). stand_high bytes pdus s byte f high) (cases_lt s.count 48)

-- behind a byte

-- these bytes have this framing, and the splitter stands at their end
pub record Made (limit : ℕ) (bytes : List ℕ) (pdus : List Pdu) (f : Fed) : Type 0 where
  pub frames : Frames limit bytes (pdus ++ f.pdus) f.state.place f.stop
  pub follows : f.stop ≡ Short → Follows bytes (pdus ++ f.pdus) f.state

waits_made : (bytes : List ℕ) (pdus : List Pdu) (s : State) → Follows bytes pdus s → Made s.limit bytes pdus (waits s)
waits_made bytes pdus s f =
    let same : Follows bytes (pdus ++ []) s = subst (λ (z : List Pdu). Follows bytes z s) (sym (append-nil pdus)) f in
    record { frames = followed_is_framed bytes (pdus ++ []) s same; follows = λ _. same }

still : (bytes : List ℕ) (pdus : List Pdu) (t : State) (c : Standing bytes pdus t)
    → (48 ≤ length c.rest → (bad_header (basic_at t.head) ≡ None) × (data_len t.head ≤ t.limit) × (t.count < whole_len t.head)) → Follows bytes pdus t
still bytes pdus t c good = record {
  front = c.front;
  rest = c.rest;
  whole = c.whole;
  run = c.run;
  at = c.at;
  kept = record {
    counted = c.counted;
    header = c.header;
    blank = c.blank;
    opened = λ there. record {
      good = subst (λ (z : List ℕ). bad_header (basic_at z) ≡ None) c.header (good there).0;
      fits = subst (λ (z : List ℕ). data_len z ≤ t.limit) c.header (good there).1;
      segment = subst (λ (z : List ℕ). t.payload ≡ take (data_len z) (drop (48 + additional z) c.rest)) c.header (c.segment there);
    };
  };
  cut = λ there. subst (λ (z : List ℕ). length c.rest < whole_len z) c.header (omega (arith, (good there).2, c.counted));
}

whole_made : (bytes : List ℕ) (pdus : List Pdu) (t : State) → Standing bytes pdus t → 48 ≤ t.count → bad_header (basic_at t.head) ≡ None → data_len t.head ≤ t.limit → whole_len t.head ≤ t.count → Made t.limit bytes pdus (hands_out t)
whole_made bytes pdus t c there good fits all =
    let p : Pdu = record { head = header_of (basic_at t.head); payload = t.payload } in
    let here : 48 ≤ length c.rest = omega (arith, there, c.counted) in
    let decoded : Decodes c.rest p = record {
      whole = omega (arith, all, c.counted, c.within here, ap whole_len c.header);
      good = subst (λ (z : List ℕ). bad_header (basic_at z) ≡ None) c.header good;
      head = ap (λ (z : List ℕ). header_of (basic_at z)) c.header;
      payload = subst (λ (z : List ℕ). t.payload ≡ take (data_len z) (drop (48 + additional z) c.rest)) c.header (c.segment here);
    } in
    let frame : IsFrame t.limit c.rest p = record { decodes = decoded; fits = subst (λ (z : List ℕ). data_len z ≤ t.limit) c.header fits } in
    let next : Follows bytes (pdus ++ p ∷ []) (hands_out t).state = record {
      front = c.front ++ c.rest;
      rest = [];
      whole = c.whole ∙ sym (append-nil (c.front ++ c.rest));
      run = run_push t.limit c.front c.rest pdus p c.run frame;
      at = omega (arith, c.at, c.counted, length-append c.front c.rest);
      kept = record {
        counted = refl;
        header = sym (take_all 48 [] (omega arith));
        blank = λ _. refl;
        opened = λ more. absurd (omega (arith, more));
      };
      cut = λ more. absurd (omega (arith, more));
    } in
    record { frames = followed_is_framed bytes (pdus ++ p ∷ []) (hands_out t).state next; follows = λ _. next }

-- behind a stop
stopped_made : (bytes : List ℕ) (pdus : List Pdu) (t : State) (stop : Stop) (c : Standing bytes pdus t) → (stop ≡ Short → ⊥) → StopsAt t.limit c.rest stop
    → Made t.limit bytes pdus (record { state = record t { ended = true }; pdus = []; stop = stop })
stopped_made bytes pdus t stop c never stops = record {
  frames = record {
    front = c.front;
    rest = c.rest;
    whole = c.whole;
    run = subst (λ (z : List Pdu). IsRun t.limit c.front z) (sym (append-nil pdus)) c.run;
    at = c.at;
    stops = stops;
  };
  follows = λ e. absurd (never e);
}

good_made : (bytes : List ℕ) (pdus : List Pdu) (t : State) → Standing bytes pdus t → 48 ≤ t.count → bad_header (basic_at t.head) ≡ None → data_len t.head ≤ t.limit → Made t.limit bytes pdus (stands_by t Short)
good_made bytes pdus t c there good fits =
    let M : Fed → Type 0 = λ f. Made t.limit bytes pdus f in
    let short = nat_lt t.count (whole_len t.head) in
    ⊎_elim
    (λ (cut : t.count < whole_len t.head).
    subst M (sym (picked short (waits t) (hands_out t) (lt-ltb t.count (whole_len t.head) cut)))
    (waits_made bytes pdus t (still bytes pdus t c (λ _. (good, fits, cut)))))
    (λ (all : whole_len t.head ≤ t.count).
    subst M (sym (passed short (waits t) (hands_out t) (le-ltb t.count (whole_len t.head) all)))
    (whole_made bytes pdus t c there good fits all))
    (cases_lt t.count (whole_len t.head))

opened_made : (bytes : List ℕ) (pdus : List Pdu) (t : State) (bad : Option ℕ) → Standing bytes pdus t → 48 ≤ t.count → bad_header (basic_at t.head) ≡ bad → Made t.limit bytes pdus (stands_by t (stop_by t.limit t.head bad))
opened_made bytes pdus t (Some byte) c there e =
    stopped_made bytes pdus t (BadHeader byte) c (bad_not_short byte) (omega (arith, there, c.counted), subst (λ (z : List ℕ). bad_header (basic_at z) ≡ Some byte) c.header e)
opened_made bytes pdus t None c there e =
    let M : Stop → Type 0 = λ stop. Made t.limit bytes pdus (stands_by t stop) in
    let size = data_len t.head in
    ⊎_elim
    (λ (over : t.limit < size).
    subst M (sym (picked (nat_lt t.limit size) (TooLong size) Short (lt-ltb t.limit size over)))
    (stopped_made bytes pdus t (TooLong size) c (long_not_short size)
    (omega (arith, there, c.counted), subst (λ (z : List ℕ). bad_header (basic_at z) ≡ None) c.header e, ap data_len (sym c.header), over)))
    (λ (fits : size ≤ t.limit).
    subst M (sym (passed (nat_lt t.limit size) (TooLong size) Short (le-ltb t.limit size fits)))
    (good_made bytes pdus t c there e fits))
    (cases_lt t.limit size)

byte_made : (bytes : List ℕ) (pdus : List Pdu) (s : State) (byte : ℕ) → Follows bytes pdus s → Made s.limit (bytes ++ byte ∷ []) pdus (fed_byte s byte)
byte_made bytes pdus s byte f =
    let t = with_byte s byte in
    let c = standing bytes pdus s byte f in
    let M : Fed → Type 0 = λ f. Made s.limit (bytes ++ byte ∷ []) pdus f in
    let early = nat_lt t.count 48 in
    let late = stands_by t (stop_at t.limit t.head) in
    ⊎_elim
    (λ (low : t.count < 48).
    subst M (sym (picked early (waits t) late (lt-ltb t.count 48 low)))
    (waits_made (bytes ++ byte ∷ []) pdus t (still (bytes ++ byte ∷ []) pdus t c (λ there. absurd (omega (arith, there, low, c.counted))))))
    (λ (there : 48 ≤ t.count).
    subst M (sym (passed early (waits t) late (le-ltb t.count 48 there)))
    (opened_made (bytes ++ byte ∷ []) pdus t (bad_header (basic_at t.head)) c there refl))
    (cases_lt t.count 48)

-- byte after byte

joined_made : (limit : ℕ) (bytes later : List ℕ) (pdus more : List Pdu) (t : State) (stop : Stop) (b : Fed)
    → Made limit bytes pdus (record { state = t; pdus = more; stop = stop }) → (stop ≡ Short → Made t.limit (bytes ++ later) (pdus ++ more) b) → t.limit ≡ limit
    → Made limit (bytes ++ later) pdus (joined (record { state = t; pdus = more; stop = stop }) b)
joined_made limit bytes later pdus more t Short b a next bound =
    let n = next refl in
    let same : pdus ++ more ++ b.pdus ≡ pdus ++ (more ++ b.pdus) = append_assoc pdus more b.pdus in
    record {
      frames = subst (λ (z : List Pdu). Frames limit (bytes ++ later) z b.state.place b.stop) same (subst (λ (k : ℕ). Frames k (bytes ++ later) (pdus ++ more ++ b.pdus) b.state.place b.stop) bound n.frames);
      follows = λ e. subst (λ (z : List Pdu). Follows (bytes ++ later) z b.state) same (n.follows e);
    }
joined_made limit bytes later pdus more t (BadHeader byte) b a next bound = record {
  frames = frames_on limit bytes later (pdus ++ more) t.place (BadHeader byte) (bad_not_short byte) a.frames;
  follows = λ e. absurd (bad_not_short byte e);
}
joined_made limit bytes later pdus more t (TooLong size) b a next bound = record {
  frames = frames_on limit bytes later (pdus ++ more) t.place (TooLong size) (long_not_short size) a.frames;
  follows = λ e. absurd (long_not_short size e);
}

pub fed_made : (piece bytes : List ℕ) (pdus : List Pdu) (s : State) → Follows bytes pdus s → Made s.limit (bytes ++ piece) pdus (fed s piece)
fed_made [] bytes pdus s f =
    subst (λ (z : List ℕ). Made s.limit z pdus (waits s)) (sym (append-nil bytes)) (waits_made bytes pdus s f)
fed_made (byte ∷ piece) bytes pdus s f =
    let a = fed_byte s byte in
    let made = byte_made bytes pdus s byte f in
    subst (λ (z : List ℕ). Made s.limit z pdus (fed s (byte ∷ piece))) (append_assoc bytes (byte ∷ []) piece)
    (joined_made s.limit (bytes ++ byte ∷ []) piece pdus a.pdus a.state a.stop (fed a.state piece) made
    (λ e. fed_made piece (bytes ++ byte ∷ []) (pdus ++ a.pdus) a.state (made.follows e)) (byte_stays s byte).0)

pub fed_is_framed : FedIsFramed
fed_is_framed bytes piece pdus s f = (fed_made piece bytes pdus s f).frames

pub fed_follows : FedFollows
fed_follows bytes piece pdus s f e = (fed_made piece bytes pdus s f).follows e
