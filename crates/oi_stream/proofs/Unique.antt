-- A byte stream has one framing.
use Rattle.std.proofs.Common.{ℕ, ◌+◌, ◌≤◌, List, [], ◌∷◌, ◌++◌, ◌≡◌, ◌∙◌, sym, refl, ap, subst, length, take, drop, arith, Some, None}
use Rattle.std.proofs.lemmas.List.{take-append-le, length-append, take_at, drop_at, append_assoc}
use Rattle.oi_base.specs.Counts.{told_long}
use Rattle.oi_pdu.specs.Segments.{additional, basic_at, data_len}
use Rattle.oi_pdu.specs.Table.{bad_header, header_of}
use Rattle.oi_pdu.specs.Wire.{head_of, whole_len}
use Rattle.oi_pdu.specs.declared.codec.Pdu.{Pdu}
use Rattle.oi_pdu.specs.declared.header.Header.{Header}
use Rattle.oi_stream.specs.Framing.{IsFrame, IsRun, OneFraming, Stop, BadHeader, TooLong, Short, StopsAt}

-- the header of bytes that begin with a PDU
head_same : (limit : ℕ) (front rest : List ℕ) (p : Pdu) → IsFrame limit front p → head_of (front ++ rest) ≡ head_of front
head_same limit front rest p frame = take-append-le 48 front rest (omega (arith, frame.decodes.whole))

pub record IsSame (p q : Pdu) (x y : List ℕ) (f g : List ℕ) : Type 0 where
  pub pdu : p ≡ q
  pub front : f ≡ g
  pub rest : x ≡ y

pub same_frame : (limit : ℕ) (f g x y : List ℕ) (p q : Pdu) → f ++ x ≡ g ++ y → IsFrame limit f p → IsFrame limit g q → IsSame p q x y f g
same_frame limit f g x y p q e a b =
    let head : head_of f ≡ head_of g = sym (head_same limit f x p a) ∙ ap head_of e ∙ head_same limit g y q b in
    let size : length g ≡ length f = b.decodes.whole ∙ ap whole_len (sym head) ∙ sym a.decodes.whole in
    let front : f ≡ g = sym (take_at f x (length f) refl) ∙ ap (λ (z : List ℕ). take (length f) z) e ∙ take_at g y (length f) size in
    let heads : p.head ≡ q.head = a.decodes.head ∙ ap (λ (z : List ℕ). header_of (basic_at z)) head ∙ sym b.decodes.head in
    let payloads : p.payload ≡ q.payload =
    a.decodes.payload ∙ ap (λ (z : List ℕ). take (data_len (head_of z)) (drop (48 + additional (head_of z)) z)) front ∙ sym b.decodes.payload in
    let made : Header → List ℕ → Pdu = λ h payload. record { head = h; payload = payload } in
    record {
      pdu = ap (λ (h : Header). made h p.payload) heads ∙ ap (λ (z : List ℕ). made q.head z) payloads;
      front = front;
      rest = sym (drop_at f x (length f) refl) ∙ ap (λ (z : List ℕ). drop (length f) z) e ∙ drop_at g y (length f) size;
    }

none_is_some : (n : ℕ) → None ≡ Some n → ⊥
none_is_some n e = cc

-- no stop at the front of a whole PDU
pub not_stopped : (limit : ℕ) (f x : List ℕ) (p : Pdu) (s : Stop) → IsFrame limit f p → StopsAt limit (f ++ x) s → ⊥
not_stopped limit f x p (BadHeader byte) frame stop =
    none_is_some byte (sym frame.decodes.good ∙ ap (λ (z : List ℕ). bad_header (basic_at z)) (sym (head_same limit f x p frame)) ∙ stop.1)
not_stopped limit f x p (TooLong size) frame stop =
    omega (arith, ap data_len (head_same limit f x p frame), stop.2, stop.3, frame.fits)
not_stopped limit f x p Short frame stop =
    let there : 48 ≤ length (f ++ x) = omega (arith, frame.decodes.whole, length-append f x) in
    omega (arith, (stop there).cut, ap whole_len (head_same limit f x p frame), frame.decodes.whole, length-append f x)

same_some : (a b : ℕ) → Some a ≡ Some b → a ≡ b
same_some a b e = cc

same_stop : (limit : ℕ) (rest : List ℕ) (s t : Stop) → StopsAt limit rest s → StopsAt limit rest t → s ≡ t
same_stop limit rest (BadHeader a) (BadHeader b) s t = ap BadHeader (same_some a b (sym s.1 ∙ t.1))
same_stop limit rest (BadHeader a) (TooLong b) s t = absurd (none_is_some a (sym t.1 ∙ s.1))
same_stop limit rest (BadHeader a) Short s t = absurd (none_is_some a (sym (t s.0).good ∙ s.1))
same_stop limit rest (TooLong a) (BadHeader b) s t = absurd (none_is_some b (sym s.1 ∙ t.1))
same_stop limit rest (TooLong a) (TooLong b) s t = ap TooLong (sym s.2 ∙ t.2)
same_stop limit rest (TooLong a) Short s t = absurd (omega (arith, s.2, s.3, (t s.0).fits))
same_stop limit rest Short (BadHeader b) s t = absurd (none_is_some b (sym (s t.0).good ∙ t.1))
same_stop limit rest Short (TooLong b) s t = absurd (omega (arith, t.2, t.3, (s t.0).fits))
same_stop limit rest Short Short s t = refl

pub record IsOne (ps qs : List Pdu) (a b : List ℕ) (s t : Stop) : Type 0 where
  pub pdus : ps ≡ qs
  pub front : a ≡ b
  pub stop : s ≡ t

pub framed_once : (limit : ℕ) (ps qs : List Pdu) (a b x y : List ℕ) (s t : Stop) → a ++ x ≡ b ++ y → IsRun limit a ps → IsRun limit b qs → StopsAt limit x s → StopsAt limit y t → IsOne ps qs a b s t
framed_once limit [] [] a b x y s t e run run' stop stop' =
    let same : x ≡ y = ap (λ (z : List ℕ). z ++ x) (sym run) ∙ e ∙ ap (λ (z : List ℕ). z ++ y) run' in
    record {
      pdus = refl;
      front = run ∙ sym run';
      stop = same_stop limit y s t (subst (λ (z : List ℕ). StopsAt limit z s) same stop) stop';
    }
framed_once limit [] (q ∷ qs) a b x y s t e run run' stop stop' =
    let same : x ≡ run'.0 ++ (run'.1 ++ y) = ap (λ (z : List ℕ). z ++ x) (sym run) ∙ e ∙ ap (λ (z : List ℕ). z ++ y) run'.2.0 ∙ append_assoc run'.0 run'.1 y in
    absurd (not_stopped limit run'.0 (run'.1 ++ y) q s run'.2.1 (subst (λ (z : List ℕ). StopsAt limit z s) same stop))
framed_once limit (p ∷ ps) [] a b x y s t e run run' stop stop' =
    let same : y ≡ run.0 ++ (run.1 ++ x) = ap (λ (z : List ℕ). z ++ y) (sym run') ∙ sym e ∙ ap (λ (z : List ℕ). z ++ x) run.2.0 ∙ append_assoc run.0 run.1 x in
    absurd (not_stopped limit run.0 (run.1 ++ x) p t run.2.1 (subst (λ (z : List ℕ). StopsAt limit z t) same stop'))
framed_once limit (p ∷ ps) (q ∷ qs) a b x y s t e run run' stop stop' =
    let all : run.0 ++ (run.1 ++ x) ≡ run'.0 ++ (run'.1 ++ y) =
    sym (append_assoc run.0 run.1 x) ∙ ap (λ (z : List ℕ). z ++ x) (sym run.2.0) ∙ e ∙ ap (λ (z : List ℕ). z ++ y) run'.2.0 ∙ append_assoc run'.0 run'.1 y in
    let first = same_frame limit run.0 run'.0 (run.1 ++ x) (run'.1 ++ y) p q all run.2.1 run'.2.1 in
    let rest = framed_once limit ps qs run.1 run'.1 x y s t first.rest run.2.2 run'.2.2 stop stop' in
    record {
      pdus = ap (λ (z : Pdu). z ∷ ps) first.pdu ∙ ap (λ (z : List Pdu). q ∷ z) rest.pdus;
      front = run.2.0 ∙ ap (λ (z : List ℕ). z ++ run.1) first.front ∙ ap (λ (z : List ℕ). run'.0 ++ z) rest.front ∙ sym run'.2.0;
      stop = rest.stop;
    }

pub one_framing : OneFraming
one_framing limit bytes ps qs place place' stop stop' f g =
    let one = framed_once limit ps qs f.front g.front f.rest g.rest stop stop' (sym f.whole ∙ g.whole) f.run g.run f.stops g.stops in
    (one.pdus, f.at ∙ ap (λ (z : List ℕ). told_long (length z)) one.front ∙ sym g.at, one.stop)
