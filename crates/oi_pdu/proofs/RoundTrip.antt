-- What can be encoded decodes to itself.
use Rattle.std.proofs.Common.{◌≡◌, ℕ, List, ◌++◌, length, take, drop, replicate, refl, sym, append_assoc, arith, length-append}
use Rattle.std.proofs.lemmas.List.{take_at, drop_at, length-replicate}
use Rattle.oi_pdu.specs.Segments.{cells, padding}
use Rattle.oi_pdu.specs.Table.{layout}
use Rattle.oi_pdu.specs.Wire.{Encodable, Decodes, encoding}
use Rattle.oi_pdu.specs.declared.basic.BasicHeader.{BasicHeader}
use Rattle.oi_pdu.specs.declared.codec.Pdu.{Pdu}
use Rattle.oi_pdu.proofs.Rows.{IsSame, header_same}
use Rattle.oi_pdu.proofs.Words.{ReadsBack, cells_read_back}

joined_decodes : (b : BasicHeader) (front pad : List ℕ) (p : Pdu) → ReadsBack front b (length p.payload) → IsSame b p.head → length pad ≡ padding (length p.payload) → Decodes (front ++ p.payload ++ pad) p
joined_decodes b front pad p r same lp =
    let e : take 48 (front ++ p.payload ++ pad) ≡ front = rw append_assoc (take_at front (p.payload ++ pad) 48 r.long) in
    let k : drop 48 (front ++ p.payload ++ pad) ≡ p.payload ++ pad = rw append_assoc (drop_at front (p.payload ++ pad) 48 r.long) in
    record {
      whole = rw (e, r.more, r.payload, length-append, length-append, r.long, lp) (omega arith);
      good = rw (e, r.basic) same.good;
      head = rw (e, r.basic) (sym same.head);
      payload = rw (e, r.payload, r.more, k) (sym (take_at p.payload pad (length p.payload) refl));
    }

pub encoded_decodes : (p : Pdu) → Encodable p → Decodes (encoding p) p
encoded_decodes p h =
    let same : IsSame (layout p.head) p.head = header_same p.head h.header in
    joined_decodes (layout p.head) (cells (layout p.head) (length p.payload)) (replicate (padding (length p.payload)) 0) p (cells_read_back (layout p.head) (length p.payload) same.places h.size) same (length-replicate _ _)
