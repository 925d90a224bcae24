-- Pieces of an input read one after another.
use Rattle.std.proofs.Common.{◌≡◌, ◌∙◌, ◌+◌, ℕ, suc, zero, Bool, true, false, List, [], ◌∷◌, ◌++◌, Option, Some, None, length, take, sym, ap, subst, refl, arith, append-nil, append_assoc, length-append, nat_le, if◌then◌else◌, is_some}
use Rattle.std.proofs.lemmas.Bool.Decides.{nat_tests}
use Rattle.oi_base.specs.Counts.{Rose}
use Rattle.oi_drive.proofs.Outputs.{behind-append, behind_none}
use Rattle.oi_drive.specs.Inputs.{BreaksBy, Finishes, GoesOn, rest_text, rest_world}
use Rattle.oi_drive.specs.Worlds.{World, byte_text, feed, feed_byte, feed_text, input_end, input_end_text, input_over}
use Rattle.oi_drive.specs.declared.runner.Broken.{Broken}
use Rattle.oi_drive.specs.declared.runner.Broken.TheVariants.{Memory, Read, Write}
use Rattle.oi_outside.specs.Streams.{behind, in_front}

pub feed-append : (w : World) (xs ys : List ℕ) → feed w (xs ++ ys) ≡ feed (feed w xs) ys
feed-append w [] ys = refl
feed-append w (x ∷ xs) ys = feed-append (feed_byte w x) xs ys

pub feed_text-append : (w : World) (xs ys : List ℕ) → feed_text w (xs ++ ys) ≡ feed_text w xs ++ feed_text (feed w xs) ys
feed_text-append w [] ys = refl
feed_text-append w (x ∷ xs) ys =
    ap (λ (z : List ℕ). byte_text w x ++ z) (feed_text-append (feed_byte w x) xs ys) ∙ sym (append_assoc (byte_text w x) (feed_text (feed_byte w x) xs) (feed_text (feed (feed_byte w x) xs) ys))

-- after a stop nothing counts
byte_stopped : (w : World) (b : ℕ) → is_some w.stop ≡ true → feed_byte w b ≡ w
byte_stopped w b stopped = rw stopped refl

byte_text_stopped : (w : World) (b : ℕ) → is_some w.stop ≡ true → byte_text w b ≡ []
byte_text_stopped w b stopped = rw stopped refl

pub feed_stopped : (w : World) (xs : List ℕ) → is_some w.stop ≡ true → feed w xs ≡ w
feed_stopped w [] stopped = refl
feed_stopped w (x ∷ xs) stopped = ap (λ (z : World). feed z xs) (byte_stopped w x stopped) ∙ feed_stopped w xs stopped

pub feed_text_stopped : (w : World) (xs : List ℕ) → is_some w.stop ≡ true → feed_text w xs ≡ []
feed_text_stopped w [] stopped = refl
feed_text_stopped w (x ∷ xs) stopped =
    ap (λ (z : List ℕ). z ++ feed_text (feed_byte w x) xs) (byte_text_stopped w x stopped) ∙ (ap (λ (z : World). feed_text z xs) (byte_stopped w x stopped) ∙ feed_text_stopped w xs stopped)

end_stopped : (w : World) → is_some w.stop ≡ true → input_end w ≡ w
end_stopped w stopped = rw stopped refl

end_text_stopped : (w : World) → is_some w.stop ≡ true → input_end_text w ≡ []
end_text_stopped w stopped = rw stopped refl

over_stopped : (w : World) → is_some w.stop ≡ true → input_over w ≡ w
over_stopped w stopped = rw stopped refl

-- the rest behind a stop
rest_stopped : (b : Bool) (w : World) (xs ys : List ℕ) → is_some w.stop ≡ true → (if b then input_end (feed w xs) else input_over (feed w ys)) ≡ w
rest_stopped true w xs ys stopped = ap input_end (feed_stopped w xs stopped) ∙ end_stopped w stopped
rest_stopped false w xs ys stopped = ap input_over (feed_stopped w ys stopped) ∙ over_stopped w stopped

pub rest_world_stopped : (room : ℕ) (w : World) (bytes : List ℕ) → is_some w.stop ≡ true → rest_world room w bytes ≡ w
rest_world_stopped room w bytes stopped = rest_stopped (nat_le (length bytes) room) w bytes (take room bytes) stopped

text_stopped : (b : Bool) (w : World) (xs ys : List ℕ) → is_some w.stop ≡ true → (if b then feed_text w xs ++ input_end_text (feed w xs) else feed_text w ys) ≡ []
text_stopped true w xs ys stopped =
    ap (λ (z : List ℕ). z ++ input_end_text (feed w xs)) (feed_text_stopped w xs stopped) ∙ (ap input_end_text (feed_stopped w xs stopped) ∙ end_text_stopped w stopped)
text_stopped false w xs ys stopped = feed_text_stopped w ys stopped

pub rest_text_stopped : (room : ℕ) (w : World) (bytes : List ℕ) → is_some w.stop ≡ true → rest_text room w bytes ≡ []
rest_text_stopped room w bytes stopped = text_stopped (nat_le (length bytes) room) w bytes (take room bytes) stopped

-- a piece taken from the front of the rest
le_less : (n p less room : ℕ) → p + less ≡ room → nat_le (p + n) room ≡ nat_le n less
le_less n p less room count = grind (arith, nat_tests)

take_behind : (p m : List ℕ) (room less : ℕ) → length p + less ≡ room → take room (p ++ m) ≡ p ++ take less m
take_behind [] m room less count = ap (λ n. take n m) (omega arith)
take_behind (x ∷ p) m zero less count = absurd (omega arith)
take_behind (x ∷ p) m (suc room) less count = ap (λ (z : List ℕ). x ∷ z) (take_behind p m room less (omega arith))

chosen : {A : Type 0} (a b : Bool) (x x1 y y1 : A) → a ≡ b → x ≡ x1 → y ≡ y1 → (if a then x else y) ≡ (if b then x1 else y1)
chosen a b x x1 y y1 same p q = rw (same, p, q) refl

pub rest_world_more : (room less : ℕ) (w : World) (p m : List ℕ) → length p + less ≡ room → rest_world room w (p ++ m) ≡ rest_world less (feed w p) m
rest_world_more room less w p m count =
    chosen (nat_le (length (p ++ m)) room) (nat_le (length m) less) _ _ _ _ (ap (λ n. nat_le n room) (length-append p m) ∙ le_less (length m) (length p) less room count)
    (ap input_end (feed-append w p m)) (ap input_over (ap (λ (z : List ℕ). feed w z) (take_behind p m room less count) ∙ feed-append w p (take less m)))

push_in : (b : Bool) (a x y : List ℕ) → (if b then a ++ x else a ++ y) ≡ a ++ (if b then x else y)
push_in true a x y = refl
push_in false a x y = refl

pub rest_text_more : (room less : ℕ) (w : World) (p m : List ℕ) → length p + less ≡ room → rest_text room w (p ++ m) ≡ feed_text w p ++ rest_text less (feed w p) m
rest_text_more room less w p m count =
    chosen (nat_le (length (p ++ m)) room) (nat_le (length m) less) _ _ _ _ (ap (λ n. nat_le n room) (length-append p m) ∙ le_less (length m) (length p) less room count)
    (ap (λ (z : List ℕ). z ++ input_end_text (feed w (p ++ m))) (feed_text-append w p m) ∙ (ap (λ (z : World). (feed_text w p ++ feed_text (feed w p) m) ++ input_end_text z) (feed-append w p m)
    ∙ append_assoc (feed_text w p) (feed_text (feed w p) m) (input_end_text (feed (feed w p) m))))
    (ap (λ (z : List ℕ). feed_text w z) (take_behind p m room less count) ∙ feed_text-append w p (take less m))
    ∙ push_in (nat_le (length m) less) (feed_text w p) (feed_text (feed w p) m ++ input_end_text (feed (feed w p) m)) (feed_text (feed w p) (take less m))

-- what is left behind a piece
pub record Behind (piece : List ℕ) (left : Option (List ℕ)) (bytes : List ℕ) : Type 0 where
  pub more : List ℕ
  pub is : left ≡ Some more
  pub whole : bytes ≡ piece ++ more

pub behind_piece : (piece : List ℕ) (left0 left : Option (List ℕ)) (bytes : List ℕ) → left0 ≡ in_front piece left → left0 ≡ Some bytes → Behind piece left bytes
behind_piece piece left0 None bytes moved is = absurd cc
behind_piece piece left0 (Some more) bytes moved is = let same : bytes ≡ piece ++ more = cc in record { more = more; is = refl; whole = same }

-- the input came to its stop with a piece
pub finishes_stopped : (room less : ℕ) (left0 left : Option (List ℕ)) (w0 w : World) (held0 held : Option (List ℕ)) (piece : List ℕ) → left0 ≡ in_front piece left → length piece + less ≡ room
    → w ≡ feed w0 piece → is_some w.stop ≡ true → held ≡ behind held0 (feed_text w0 piece) → Finishes room left0 w0 w held0 held
finishes_stopped room less left0 left w0 w held0 held piece moved count goes stopped wrote = record {
  world = λ bytes is.
      let b = behind_piece piece left0 left bytes moved is in
      sym (ap (λ (z : List ℕ). rest_world room w0 z) b.whole ∙ (rest_world_more room less w0 piece b.more count
      ∙ (ap (λ (z : World). rest_world less z b.more) (sym goes) ∙ rest_world_stopped less w b.more stopped)));
  text = λ bytes is.
      let b = behind_piece piece left0 left bytes moved is in
      wrote ∙ ap (λ (z : List ℕ). behind held0 z) (sym (ap (λ (z : List ℕ). rest_text room w0 z) b.whole ∙ (rest_text_more room less w0 piece b.more count
      ∙ (ap (λ (z : World). feed_text w0 piece ++ rest_text less z b.more) (sym goes)
      ∙ (ap (λ (z : List ℕ). feed_text w0 piece ++ z) (rest_text_stopped less w b.more stopped) ∙ append-nil (feed_text w0 piece))))));
}

-- what is left leads to what the whole input leads to
pub record Rest (limit room : ℕ) (left : Option (List ℕ)) (w0 w : World) (held0 held : Option (List ℕ)) (bytes : List ℕ) : Type 0 where
  pub more : List ℕ
  pub is : left ≡ Some more
  pub world : rest_world room w more ≡ rest_world limit w0 bytes
  pub text : behind held (rest_text room w more) ≡ behind held0 (rest_text limit w0 bytes)

-- these bytes were taken, and all of them count
pub record IsFed (left0 left : Option (List ℕ)) (w0 w : World) (held0 held : Option (List ℕ)) : Type 0 where
  pub fed : List ℕ
  pub moved : left0 ≡ in_front fed left
  pub world : w ≡ feed w0 fed
  pub text : held ≡ behind held0 (feed_text w0 fed)

pub record IsGoing (limit room : ℕ) (left0 left : Option (List ℕ)) (w0 w : World) (held0 held : Option (List ℕ)) (source0 source sink0 sink : ℕ) : Type 0 where
  pub rest : (bytes : List ℕ) → left0 ≡ Some bytes → Rest limit room left w0 w held0 held bytes
  pub so_far : IsFed left0 left w0 w held0 held
  pub going : is_some w0.stop ≡ false → is_some w.stop ≡ false
  pub source_same : source ≡ source0
  pub sink_same : sink ≡ sink0

nothing_in_front : (o : Option (List ℕ)) → o ≡ in_front [] o
nothing_in_front None = refl
nothing_in_front (Some rest) = refl

fed_first : (left : Option (List ℕ)) (w : World) (held : Option (List ℕ)) → IsFed left left w w held held
fed_first left w held = record { fed = []; moved = nothing_in_front left; world = refl; text = sym (behind_none held) }

in_front_of : (xs ys : List ℕ) (o : Option (List ℕ)) → in_front xs (in_front ys o) ≡ in_front (xs ++ ys) o
in_front_of xs ys None = refl
in_front_of xs ys (Some rest) = ap (λ (z : List ℕ). Some z) (sym (append_assoc xs ys rest))

fed_more : (left0 left left1 : Option (List ℕ)) (w0 w w1 : World) (held0 held held1 : Option (List ℕ)) (piece : List ℕ) → IsFed left0 left w0 w held0 held → left ≡ in_front piece left1 → w1 ≡ feed w piece
    → held1 ≡ behind held (feed_text w piece) → IsFed left0 left1 w0 w1 held0 held1
fed_more left0 left left1 w0 w w1 held0 held held1 piece f moved goes wrote = record {
  fed = f.fed ++ piece;
  moved = f.moved ∙ (ap (λ (z : Option (List ℕ)). in_front f.fed z) moved ∙ in_front_of f.fed piece left1);
  world = goes ∙ (ap (λ (z : World). feed z piece) f.world ∙ sym (feed-append w0 f.fed piece));
  text = wrote ∙ (ap (λ (z : Option (List ℕ)). behind z (feed_text w piece)) f.text ∙ (behind-append held0 (feed_text w0 f.fed) (feed_text w piece)
      ∙ (ap (λ (z : World). behind held0 (feed_text w0 f.fed ++ feed_text z piece)) f.world ∙ ap (λ (z : List ℕ). behind held0 z) (sym (feed_text-append w0 f.fed piece)))));
}

pub going_first : (limit : ℕ) (left : Option (List ℕ)) (w : World) (held : Option (List ℕ)) (source sink : ℕ) → IsGoing limit limit left left w w held held source source sink sink
going_first limit left w held source sink = record { rest = λ bytes is. record { more = bytes; is = is; world = refl; text = refl }; so_far = fed_first left w held; going = λ going. going; source_same = refl; sink_same = refl }

pub going_more : (limit room less : ℕ) (left0 left left1 : Option (List ℕ)) (w0 w w1 : World) (held0 held held1 : Option (List ℕ)) (source0 source source1 sink0 sink sink1 : ℕ)
    → IsGoing limit room left0 left w0 w held0 held source0 source sink0 sink → GoesOn room less left left1 w w1 held held1 → source1 ≡ source → sink1 ≡ sink
    → IsGoing limit less left0 left1 w0 w1 held0 held1 source0 source1 sink0 sink1
going_more limit room less left0 left left1 w0 w w1 held0 held held1 source0 source source1 sink0 sink sink1 r go same_source same_sink = record {
  rest = λ bytes is.
      let old = r.rest bytes is in
      let b = behind_piece go.piece left left1 old.more go.moved old.is in
      record {
        more = b.more;
        is = b.is;
        world = ap (λ (z : World). rest_world less z b.more) go.world
            ∙ (sym (rest_world_more room less w go.piece b.more go.count) ∙ (ap (λ (z : List ℕ). rest_world room w z) (sym b.whole) ∙ old.world));
        text = ap (λ (z : World). behind held1 (rest_text less z b.more)) go.world
            ∙ (ap (λ (z : Option (List ℕ)). behind z (rest_text less (feed w go.piece) b.more)) go.text
            ∙ (behind-append held (feed_text w go.piece) (rest_text less (feed w go.piece) b.more)
            ∙ (ap (λ (z : List ℕ). behind held z) (sym (rest_text_more room less w go.piece b.more go.count))
            ∙ (ap (λ (z : List ℕ). behind held (rest_text room w z)) (sym b.whole) ∙ old.text))));
      };
  so_far = fed_more left0 left left1 w0 w w1 held0 held held1 go.piece r.so_far go.moved go.world go.text;
  going = λ _. go.going;
  source_same = same_source ∙ r.source_same;
  sink_same = same_sink ∙ r.sink_same;
}

pub going_end : (limit room : ℕ) (left0 left : Option (List ℕ)) (w0 w w1 : World) (held0 held held1 : Option (List ℕ)) (source0 source sink0 sink : ℕ)
    → IsGoing limit room left0 left w0 w held0 held source0 source sink0 sink → Finishes room left w w1 held held1 → Finishes limit left0 w0 w1 held0 held1
going_end limit room left0 left w0 w w1 held0 held held1 source0 source sink0 sink r fin = record {
  world = λ bytes is. let old = r.rest bytes is in fin.world old.more old.is ∙ old.world;
  text = λ bytes is. let old = r.rest bytes is in fin.text old.more old.is ∙ old.text;
}

pub breaks_by_from : (e : Broken) (source0 source source1 sink0 sink sink1 : ℕ) → source ≡ source0 → sink ≡ sink0 → BreaksBy e source source1 sink sink1 → BreaksBy e source0 source1 sink0 sink1
breaks_by_from Memory source0 source source1 sink0 sink sink1 a b p = (p.0 ∙ a, p.1 ∙ b)
breaks_by_from Read source0 source source1 sink0 sink sink1 a b p = (subst (λ (k : ℕ). Rose k source1) a p.0, p.1 ∙ b)
breaks_by_from Write source0 source source1 sink0 sink sink1 a b p = (subst (λ (k : ℕ). Rose k sink1) b p.0, p.1 ∙ a)
