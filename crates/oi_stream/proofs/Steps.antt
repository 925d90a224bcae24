-- One PDU under way: the steps in a row.
use Rattle.std.proofs.Common.{ℕ, ◌+◌, ◌<◌, ◌≤◌, List, [], ◌++◌, ◌≡◌, ◌∙◌, sym, ap, subst, length, take, drop, arith, Some, None, Err, ⊎_elim}
use Rattle.std.proofs.lemmas.List.{length-drop}
use Rattle.std.proofs.lemmas.Bool.{cases_lt}
use Rattle.oi_pdu.specs.Segments.{basic_at, data_len}
use Rattle.oi_pdu.specs.Table.{bad_header, header_of}
use Rattle.oi_pdu.specs.Wire.{Encodable, whole_len}
use Rattle.oi_stream.specs.Steps.{IsBegun, IsChecked, IsGoing, IsSound, Keeps, MakesWhole, Takes}
use Rattle.oi_stream.specs.declared.fault.StreamFault.{StreamFault}
use Rattle.oi_stream.specs.declared.fault.StreamFault.TheVariants as faults
use Rattle.oi_stream.specs.declared.part.Part.{Part}
use Rattle.oi_stream.specs.declared.part.Whole.{Whole}
use Rattle.oi_stream.proofs.Kept.{frame_of, header_there, two_chunks}

pub begun_err : (limit place k : ℕ) (chunk h' : List ℕ) (old new : Part) (f : StreamFault) → old.count < 48 → old.count + k ≡ 48 → length h' ≡ 48 → take (old.count + k) h' ≡ take old.count old.head ++ take k chunk → IsChecked limit place h' (Err f) → IsBegun limit place old new chunk (Err f)
begun_err limit place k chunk h' old new (faults.BadHeader at byte) below there long bytes checked = (
  checked.0,
  λ rest kept.
      let t = header_there limit old.count k rest chunk old.head h' old.payload.items kept below bytes there long in
      (t.0, subst (λ (z : List ℕ). bad_header (basic_at z) ≡ Some byte) t.1 checked.1),
)
begun_err limit place k chunk h' old new (faults.TooLong at size) below there long bytes checked = (
  checked.0,
  λ rest kept.
      let t = header_there limit old.count k rest chunk old.head h' old.payload.items kept below bytes there long in
      (t.0, subst (λ (z : List ℕ). bad_header (basic_at z) ≡ None) t.1 checked.1, subst (λ (z : List ℕ). data_len z ≡ size) t.1 checked.2, checked.3),
)
begun_err limit place k chunk h' old new (faults.Ended at) below there long bytes checked = checked
begun_err limit place k chunk h' old new faults.Memory below there long bytes checked = tt

some_taken : (old mid full : Part) (a b : ℕ) → IsGoing old → mid.count ≡ old.count + a → full.count ≡ mid.count + b → (48 ≤ old.count → mid ≡ old) → full.head ≡ mid.head → full.count ≡ whole_len full.head → 0 < a + b
some_taken old mid full a b going first second same head all =
    let step : 48 ≤ old.count → old.count < full.count = λ there.
    let e : full.count ≡ whole_len old.head = all ∙ ap whole_len (head ∙ ap (λ (p : Part). p.head) (same there)) in
    let cut = going.cut there in
    omega (arith, e, cut) in
    let least : 48 ≤ full.count = omega arith in
    let more : old.count < full.count =
    ⊎_elim (λ (low : old.count < 48). omega arith) (λ (there : 48 ≤ old.count). step there) (cases_lt old.count 48) in
    omega arith

pub made_whole : (limit a b : ℕ) (chunk : List ℕ) (old mid full new : Part) (w : Whole) → IsGoing old → Takes limit old mid chunk a → (48 ≤ old.count → mid ≡ old) → Takes limit mid full (drop a chunk) b → full.head ≡ mid.head → full.count ≡ whole_len full.head → w.taken ≡ a + b → w.size ≡ full.count → w.pdu.head ≡ header_of (basic_at full.head) → w.pdu.payload ≡ full.payload.items → Encodable w.pdu → IsSound new → new.count ≡ 0 → new.payload.items ≡ [] → MakesWhole limit old new chunk w
made_whole limit a b chunk old mid full new w going first same second head all taken size pdu payload encodable sound none fresh =
    let kept : (rest : List ℕ) → Keeps limit rest old → Keeps limit (rest ++ take w.taken chunk) full = λ rest kept.
    let k = second.keeps (rest ++ take a chunk) (first.keeps rest kept) in
    let e : rest ++ take a chunk ++ take b (drop a chunk) ≡ rest ++ take w.taken chunk = two_chunks rest chunk a b ∙ ap (λ (n : ℕ). rest ++ take n chunk) (sym taken) in
    subst (λ (z : List ℕ). Keeps limit z full) e k in
    record {
      some = omega (arith, some_taken old mid full a b going first.counted second.counted same head all, taken);
      within = omega (arith, first.within, second.within, taken, length-drop a chunk);
      frame = λ rest k. frame_of limit full.count (rest ++ take w.taken chunk) full.head full.payload.items w.pdu (kept rest k) second.sound.long (omega arith) all pdu payload;
      size = λ rest k. sym (kept rest k).counted ∙ sym size;
      encodable = encodable;
      going = record { sound = sound; cut = λ there. absurd (omega (arith, none, there)) };
      fresh = record {
        counted = none;
        header = ap (λ (n : ℕ). take n new.head) none;
        blank = λ _. fresh;
        opened = λ there. absurd (omega (arith, there));
      };
    }
