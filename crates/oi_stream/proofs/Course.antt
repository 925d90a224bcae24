-- PDU after PDU of one piece, for whatever bytes came before it.
use Rattle.std.proofs.Common.{ℕ, true, false, ◌+◌, ◌-◌, ◌<◌, ◌≤◌, ◌^◌, List, [], ◌∷◌, ◌++◌, ◌≡◌, ◌∙◌, sym, refl, ap, subst, min, length, take, drop, arith, Err}
use Rattle.std.proofs.lemmas.List.{append-nil, append_assoc, length-append, take-append-drop, take_all}
use Rattle.oi_pdu.specs.Wire.{Encodable, head_of, whole_len}
use Rattle.oi_pdu.specs.declared.codec.Pdu.{Pdu}
use Rattle.oi_stream.specs.Framing.{Frames, IsFrame, IsRun, Stop, BadHeader, TooLong}
use Rattle.oi_stream.specs.Feeding.{State, AreEncodable, BeginsWith, Follows, GoesOn, StopsFor, LeavesOff, Splits}
use Rattle.oi_stream.specs.Steps.{state_of, IsStep, MakesWhole, StaysShort, Stops}
use Rattle.oi_stream.specs.declared.fault.StreamFault.{StreamFault}
use Rattle.oi_stream.specs.declared.fault.StreamFault.TheVariants as faults
use Rattle.oi_stream.specs.declared.part.Part.{Part}
use Rattle.oi_stream.specs.declared.part.Whole.{Whole}
use Rattle.oi_stream.proofs.Fronts.{take_sum}

pub run_push : (limit : ℕ) (bytes last : List ℕ) (ps : List Pdu) (p : Pdu) → IsRun limit bytes ps → IsFrame limit last p → IsRun limit (bytes ++ last) (ps ++ p ∷ [])
run_push limit bytes last [] p run frame =
    (last, [], (ap (λ (z : List ℕ). z ++ last) run ∙ sym (append-nil last), frame, refl))
run_push limit bytes last (q ∷ ps) p run frame =
    (run.0, run.1 ++ last, (ap (λ (z : List ℕ). z ++ last) run.2.0 ∙ append_assoc run.0 run.1 last, run.2.1, run_push limit run.1 last ps p run.2.2 frame))

pub encodable_push : (ps : List Pdu) (p : Pdu) → AreEncodable ps → Encodable p → AreEncodable (ps ++ p ∷ [])
encodable_push [] p all one = (one, tt)
encodable_push (q ∷ ps) p all one = (all.0, encodable_push ps p all.1 one)

-- nothing of the piece was taken yet
pub goes_none : (old : State) (piece : List ℕ) (before : List Pdu) → GoesOn old old (take 0 piece) before before
goes_none old piece before = record {
  more = [];
  appends = record { appended = sym (append-nil before); encodable = tt; limit = refl };
  follows = λ bytes pdus f.
      let from : Follows bytes (pdus ++ []) old = subst (λ (z : List Pdu). Follows bytes z old) (sym (append-nil pdus)) f in
      subst (λ (z : List ℕ). Follows z (pdus ++ []) old) (sym (append-nil bytes)) from;
}

-- the rest of the stream with the rest of the piece
rest_over : (bytes front rest piece : List ℕ) (at : ℕ) → bytes ++ take at piece ≡ front ++ rest → bytes ++ piece ≡ front ++ (rest ++ drop at piece)
rest_over bytes front rest piece at whole =
    ap (λ (z : List ℕ). bytes ++ z) (sym (take-append-drop at piece)) ∙ sym (append_assoc bytes (take at piece) (drop at piece))
    ∙ ap (λ (z : List ℕ). z ++ drop at piece) whole ∙ append_assoc front rest (drop at piece)

-- one PDU more
pub goes_more : (old : State) (limit place place' at : ℕ) (part new : Part) (piece : List ℕ) (before after : List Pdu) (w : Whole)
    → GoesOn old (state_of limit place part false) (take at piece) before after → MakesWhole limit part new (drop at piece) w → place' ≡ min (place + w.size) (2 ^ 64 - 1)
    → GoesOn old (state_of limit place' new false) (take (at + w.taken) piece) before (after ++ w.pdu ∷ [])
goes_more old limit place place' at part new piece before after w g m moved = record {
  more = g.more ++ w.pdu ∷ [];
  appends = record {
    appended = ap (λ (z : List Pdu). z ++ w.pdu ∷ []) g.appends.appended ∙ append_assoc before g.more (w.pdu ∷ []);
    encodable = encodable_push g.more w.pdu g.appends.encodable m.encodable;
    limit = g.appends.limit;
  };
  follows = λ bytes pdus from.
      let f = g.follows bytes pdus from in
      let last = f.rest ++ take w.taken (drop at piece) in
      let size : length last ≡ w.size = m.size f.rest f.kept in
      record {
        front = f.front ++ last;
        rest = [];
        whole = ap (λ (z : List ℕ). bytes ++ z) (take_sum at w.taken piece) ∙ sym (append_assoc bytes (take at piece) (take w.taken (drop at piece)))
            ∙ ap (λ (z : List ℕ). z ++ take w.taken (drop at piece)) f.whole ∙ append_assoc f.front f.rest (take w.taken (drop at piece)) ∙ sym (append-nil (f.front ++ last));
        run = subst (λ (z : List Pdu). IsRun limit (f.front ++ last) z) (append_assoc pdus g.more (w.pdu ∷ [])) (run_push limit f.front last (pdus ++ g.more) w.pdu f.run (m.frame f.rest f.kept));
        at = omega (arith, moved, f.at, size, length-append f.front last);
        kept = m.fresh;
        cut = λ there. absurd (omega (arith, there));
      };
}

-- the end of the piece within a PDU
pub goes_short : (old : State) (limit place at : ℕ) (part new : Part) (piece : List ℕ) (before after : List Pdu)
    → GoesOn old (state_of limit place part false) (take at piece) before after → StaysShort limit part new (drop at piece)
    → GoesOn old (state_of limit place new false) piece before after
goes_short old limit place at part new piece before after g s = record {
  more = g.more;
  appends = record { appended = g.appends.appended; encodable = g.appends.encodable; limit = g.appends.limit };
  follows = λ bytes pdus from.
      let f = g.follows bytes pdus from in
      let kept = s.keeps f.rest f.kept in
      record {
        front = f.front;
        rest = f.rest ++ drop at piece;
        whole = rest_over bytes f.front f.rest piece at f.whole;
        run = f.run;
        at = f.at;
        kept = kept;
        cut = λ there.
            let here : 48 ≤ new.count = omega (arith, kept.counted, there) in
            let same : new.head ≡ head_of (f.rest ++ drop at piece) = sym (take_all new.count new.head (omega (arith, s.going.sound.long))) ∙ kept.header in
            subst (λ (z : List ℕ). length (f.rest ++ drop at piece) < whole_len z) same (omega (arith, s.going.cut here, kept.counted));
      };
}

pub stops_for : (old : State) (limit place place' at : ℕ) (part new : Part) (piece : List ℕ) (before after : List Pdu) (stop : Stop)
    → old.limit ≡ limit → GoesOn old (state_of limit place part false) (take at piece) before after → Stops limit part (drop at piece) stop → place' ≡ place
    → StopsFor old (state_of limit place new true) piece before after place' stop
stops_for old limit place place' at part new piece before after stop bound g s same = record {
  more = g.more;
  appends = record { appended = g.appends.appended; encodable = g.appends.encodable; limit = g.appends.limit };
  frames = λ bytes pdus from.
      let f = g.follows bytes pdus from in
      subst (λ (n : ℕ). Frames n (bytes ++ piece) (pdus ++ g.more) place' stop) (sym bound) (record {
        front = f.front;
        rest = f.rest ++ drop at piece;
        whole = rest_over bytes f.front f.rest piece at f.whole;
        run = f.run;
        at = same ∙ f.at;
        stops = s f.rest f.kept;
      });
  at = sym same;
}

pub leaves_off : (old : State) (limit place at : ℕ) (part new : Part) (piece : List ℕ) (before after : List Pdu)
    → old.limit ≡ limit → GoesOn old (state_of limit place part false) (take at piece) before after
    → LeavesOff old (state_of limit place new true) piece before after
leaves_off old limit place at part new piece before after bound g = record {
  more = g.more;
  appends = record { appended = g.appends.appended; encodable = g.appends.encodable; limit = g.appends.limit };
  begins = λ bytes pdus from.
      let f = g.follows bytes pdus from in
      subst (λ (n : ℕ). BeginsWith n (bytes ++ piece) (pdus ++ g.more) place) (sym bound) (record {
        front = f.front;
        rest = f.rest ++ drop at piece;
        whole = rest_over bytes f.front f.rest piece at f.whole;
        run = f.run;
        at = f.at;
      });
}

pub splits_err : (old : State) (limit place at : ℕ) (part new : Part) (piece : List ℕ) (before after : List Pdu) (f : StreamFault)
    → old.limit ≡ limit → GoesOn old (state_of limit place part false) (take at piece) before after → IsStep limit place part new (drop at piece) (Err f)
    → Splits old (state_of limit place new true) piece before after (Err f)
splits_err old limit place at part new piece before after (faults.BadHeader p byte) bound g s = stops_for old limit place p at part new piece before after (BadHeader byte) bound g s.1 s.0
splits_err old limit place at part new piece before after (faults.TooLong p size) bound g s = stops_for old limit place p at part new piece before after (TooLong size) bound g s.1 s.0
splits_err old limit place at part new piece before after (faults.Ended p) bound g s = s
splits_err old limit place at part new piece before after faults.Memory bound g s = leaves_off old limit place at part new piece before after bound g
