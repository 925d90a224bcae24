-- The bytes that a splitter was fed determine where it stands and what it handed out.
use Rattle.std.proofs.Common.{ℕ, Bool, true, false, ◌<◌, ◌≤◌, List, [], ◌∷◌, ◌++◌, ◌≡◌, ◌∙◌, sym, refl, ap, subst, length, take, drop, Ok, Err, Result, is_err, ⊎_elim}
use Rattle.std.proofs.lemmas.List.{append_assoc, take_at, drop_at}
use Rattle.std.proofs.lemmas.Bool.{cases_lt}
use Rattle.oi_base.specs.Counts.{told_long}
use Rattle.oi_pdu.specs.declared.codec.Pdu.{Pdu}
use Rattle.oi_stream.specs.Framing.{Frames, IsRun, Stop, BadHeader, TooLong, Short, StopsAt}
use Rattle.oi_stream.specs.Feeding.{State, Follows, IsKept, IsReached, GoesOn, StopsFor, LeavesOff, Splits}
use Rattle.oi_stream.specs.Bytewise.{fed, StopsAs, IsFedBy}
use Rattle.oi_stream.specs.declared.fault.StreamFault.{StreamFault}
use Rattle.oi_stream.specs.declared.fault.StreamFault.TheVariants as faults
use Rattle.oi_stream.proofs.Unique.{framed_once, not_stopped, same_frame, one_framing}
use Rattle.oi_stream.proofs.Streams.{stops_short, followed_is_framed}
use Rattle.oi_stream.proofs.Bytewise.{fed_made, fed_stays}

same_payload : (limit n m : ℕ) (rest h g x y : List ℕ) → IsKept limit rest h x n → IsKept limit rest g y m → x ≡ y
same_payload limit n m rest h g x y a b =
    ⊎_elim
    (λ (low : length rest < 48). a.blank low ∙ sym (b.blank low))
    (λ (there : 48 ≤ length rest). (a.opened there).segment ∙ sym (b.opened there).segment)
    (cases_lt (length rest) 48)

pub same_state : (bytes : List ℕ) (ps qs : List Pdu) (s t : State) → s.limit ≡ t.limit → s.ended ≡ t.ended → Follows bytes ps s → Follows bytes qs t → s ≡ t
same_state bytes ps qs s t limit ended f g' =
    let g : Follows bytes qs (record t { limit = s.limit }) = subst (λ (n : ℕ). Follows bytes qs (record t { limit = n })) (sym limit) g' in
    let one = framed_once s.limit ps qs f.front g.front f.rest g.rest Short Short (sym f.whole ∙ g.whole) f.run g.run (stops_short bytes ps s f) (stops_short bytes qs (record t { limit = s.limit }) g) in
    let rest : f.rest ≡ g.rest =
    sym (drop_at f.front f.rest (length f.front) refl) ∙ ap (λ (z : List ℕ). drop (length f.front) z) (sym f.whole ∙ g.whole)
    ∙ drop_at g.front g.rest (length f.front) (ap length (sym one.front)) in
    let kept : IsKept s.limit g.rest s.head s.payload s.count = subst (λ (z : List ℕ). IsKept s.limit z s.head s.payload s.count) rest f.kept in
    let place : s.place ≡ t.place = f.at ∙ ap (λ (z : List ℕ). told_long (length z)) one.front ∙ sym g.at in
    let head : s.head ≡ t.head = kept.header ∙ sym g.kept.header in
    let payload : s.payload ≡ t.payload = same_payload s.limit s.count t.count g.rest s.head t.head s.payload t.payload kept g.kept in
    let count : s.count ≡ t.count = kept.counted ∙ sym g.kept.counted in
    ap (λ (z : ℕ). record s { limit = z }) limit
    ∙ ap (λ (z : ℕ). record s { limit = t.limit; place = z }) place
    ∙ ap (λ (z : List ℕ). record s { limit = t.limit; place = t.place; head = z }) head
    ∙ ap (λ (z : List ℕ). record s { limit = t.limit; place = t.place; head = t.head; payload = z }) payload
    ∙ ap (λ (z : ℕ). record t { count = z; ended = s.ended }) count
    ∙ ap (λ (z : Bool). record t { ended = z }) ended

-- PDUs at the front of bytes that have this framing
front_of_run : (limit : ℕ) (ps qs : List Pdu) (a b x y : List ℕ) (t : Stop) → a ++ x ≡ b ++ y → IsRun limit a ps → IsRun limit b qs → StopsAt limit y t → (tail : List Pdu) × (qs ≡ ps ++ tail)
front_of_run limit [] qs a b x y t e run run' stop = (qs, refl)
front_of_run limit (p ∷ ps) [] a b x y t e run run' stop =
    let same : y ≡ run.0 ++ (run.1 ++ x) = ap (λ (z : List ℕ). z ++ y) (sym run') ∙ sym e ∙ ap (λ (z : List ℕ). z ++ x) run.2.0 ∙ append_assoc run.0 run.1 x in
    absurd (not_stopped limit run.0 (run.1 ++ x) p t run.2.1 (subst (λ (z : List ℕ). StopsAt limit z t) same stop))
front_of_run limit (p ∷ ps) (q ∷ qs) a b x y t e run run' stop =
    let all : run.0 ++ (run.1 ++ x) ≡ run'.0 ++ (run'.1 ++ y) =
    sym (append_assoc run.0 run.1 x) ∙ ap (λ (z : List ℕ). z ++ x) (sym run.2.0) ∙ e ∙ ap (λ (z : List ℕ). z ++ y) run'.2.0 ∙ append_assoc run'.0 run'.1 y in
    let first = same_frame limit run.0 run'.0 (run.1 ++ x) (run'.1 ++ y) p q all run.2.1 run'.2.1 in
    let rest = front_of_run limit ps qs run.1 run'.1 x y t first.rest run.2.2 run'.2.2 stop in
    (rest.0, ap (λ (z : Pdu). z ∷ qs) (sym first.pdu) ∙ ap (λ (z : List Pdu). p ∷ z) rest.1)

-- what stands behind the same list
same_tail : (xs ys zs : List Pdu) → xs ++ ys ≡ xs ++ zs → ys ≡ zs
same_tail xs ys zs e =
    sym (drop_at xs ys (length xs) refl) ∙ ap (λ (z : List Pdu). drop (length xs) z) e ∙ drop_at xs zs (length xs) refl

stops_as : (old new : State) (piece : List ℕ) (before after : List Pdu) (place : ℕ) (stop : Stop) → IsReached old → new.ended ≡ true → StopsFor old new piece before after place stop → StopsAs (fed old piece) new before after place stop
stops_as old new piece before after place stop r ended g =
    let made = fed_made piece r.bytes r.pdus old r.follows in
    let f = fed old piece in
    let one = one_framing old.limit (r.bytes ++ piece) (r.pdus ++ g.more) (r.pdus ++ f.pdus) place f.state.place stop f.stop (g.frames r.bytes r.pdus r.follows) made.frames in
    record {
      appended = g.appends.appended ∙ ap (λ (z : List Pdu). before ++ z) (same_tail r.pdus g.more f.pdus one.0);
      same = sym one.2;
      at = sym one.1;
      ended = ended;
    }

goes_as : (old new : State) (piece : List ℕ) (before after : List Pdu) → IsReached old → new.ended ≡ old.ended → GoesOn old new piece before after → IsFedBy old new piece before after (Ok tt)
goes_as old new piece before after r ended g =
    let made = fed_made piece r.bytes r.pdus old r.follows in
    let f = fed old piece in
    let stays = fed_stays old piece in
    let after_all = g.follows r.bytes r.pdus r.follows in
    let framed : Frames old.limit (r.bytes ++ piece) (r.pdus ++ g.more) new.place Short =
    subst (λ (n : ℕ). Frames n (r.bytes ++ piece) (r.pdus ++ g.more) new.place Short) g.appends.limit (followed_is_framed (r.bytes ++ piece) (r.pdus ++ g.more) new after_all) in
    let one = one_framing old.limit (r.bytes ++ piece) (r.pdus ++ g.more) (r.pdus ++ f.pdus) new.place f.state.place Short f.stop framed made.frames in
    let short : f.stop ≡ Short = sym one.2 in (
      same_state (r.bytes ++ piece) (r.pdus ++ g.more) (r.pdus ++ f.pdus) new f.state (g.appends.limit ∙ sym stays.0) (ended ∙ sym (stays.1 short)) after_all (made.follows short),
      g.appends.appended ∙ ap (λ (z : List Pdu). before ++ z) (same_tail r.pdus g.more f.pdus one.0),
      short,
    )

leaves_as : (old new : State) (piece : List ℕ) (before after : List Pdu) → IsReached old → new.ended ≡ true → LeavesOff old new piece before after → IsFedBy old new piece before after (Err faults.Memory)
leaves_as old new piece before after r ended g =
    let made = (fed_made piece r.bytes r.pdus old r.follows).frames in
    let f = fed old piece in
    let b = g.begins r.bytes r.pdus r.follows in
    let front = front_of_run old.limit (r.pdus ++ g.more) (r.pdus ++ f.pdus) b.front made.front b.rest made.rest f.stop (sym b.whole ∙ made.whole) b.run made.run made.stops in
    let tail : f.pdus ≡ g.more ++ front.0 = same_tail r.pdus f.pdus (g.more ++ front.0) (front.1 ∙ append_assoc r.pdus g.more front.0) in
    let part : g.more ≡ take (length g.more) f.pdus = sym (take_at g.more front.0 (length g.more) refl) ∙ ap (λ (z : List Pdu). take (length g.more) z) (sym tail) in
    (ended, (length g.more, g.appends.appended ∙ ap (λ (z : List Pdu). before ++ z) part))

pub split_as : (old new : State) (piece : List ℕ) (before after : List Pdu) (result : Result (Unit {0}) StreamFault) → IsReached old → old.ended ≡ false → new.ended ≡ is_err result → Splits old new piece before after result → IsFedBy old new piece before after result
split_as old new piece before after (Ok tt) r going ended g = goes_as old new piece before after r (ended ∙ sym going) g
split_as old new piece before after (Err (faults.BadHeader place byte)) r going ended g = stops_as old new piece before after place (BadHeader byte) r ended g
split_as old new piece before after (Err (faults.TooLong place size)) r going ended g = stops_as old new piece before after place (TooLong size) r ended g
split_as old new piece before after (Err (faults.Ended place)) r going ended g = absurd g
split_as old new piece before after (Err faults.Memory) r going ended g = leaves_as old new piece before after r ended g

-- the splitter may go on from where the piece led it
pub reached_on : (old new : State) (piece : List ℕ) (before after : List Pdu) → IsReached old → GoesOn old new piece before after → IsReached new
reached_on old new piece before after r g =
    record { bytes = r.bytes ++ piece; pdus = r.pdus ++ g.more; follows = g.follows r.bytes r.pdus r.follows }
