-- Bytes taken one after another.
use Rattle.std.proofs.Common.{◌≡◌, ◌∙◌, ◌+◌, ◌≤◌, ◌<◌, ℕ, suc, zero, false, List, [], ◌∷◌, ◌++◌, Option, is_some, length, take, drop, get_or, sym, ap, subst, refl, arith, append-nil}
use Rattle.std.proofs.lemmas.List.{take_more}
use Rattle.oi_drive.proofs.Outputs.{behind-append, behind_none}
use Rattle.oi_drive.proofs.Readings.{feed-append, feed_text-append}
use Rattle.oi_drive.proofs.Breaks.{partly_at}
use Rattle.oi_drive.specs.Parts.{BrokeIn, IsLineFeed, IsPartly}
use Rattle.oi_drive.specs.Worlds.{World, byte_text, feed, feed_byte, feed_text}
use Rattle.oi_drive.specs.declared.runner.Broken.{Broken}
use Rattle.oi_outside.specs.Streams.{behind}

-- i bytes of a piece were taken
pub record IsTaking (w0 w : World) (piece : List ℕ) (i : ℕ) (held0 held : Option (List ℕ)) (faults0 faults : ℕ) : Type 0 where
  pub world : w ≡ feed w0 (take i piece)
  pub text : held ≡ behind held0 (feed_text w0 (take i piece))
  pub faults_same : faults ≡ faults0

pub taking_first : (w : World) (piece : List ℕ) (held : Option (List ℕ)) (faults : ℕ) → IsTaking w w piece 0 held held faults faults
taking_first w piece held faults = record { world = refl; text = sym (behind_none held); faults_same = refl }

one_more : (piece : List ℕ) (i b : ℕ) → i < length piece → b ≡ get_or piece i 0 → take (i + 1) piece ≡ take i piece ++ b ∷ []
one_more piece i b h is = take_more piece i 0 h ∙ ap (λ x. take i piece ++ x ∷ []) (sym is)

fed_more : (w0 w w1 : World) (piece : List ℕ) (i b : ℕ) → i < length piece → b ≡ get_or piece i 0 → w ≡ feed w0 (take i piece) → w1 ≡ feed_byte w b → w1 ≡ feed w0 (take (i + 1) piece)
fed_more w0 w w1 piece i b h is was goes =
    goes ∙ (ap (λ (z : World). feed_byte z b) was ∙ (sym (feed-append w0 (take i piece) (b ∷ [])) ∙ ap (λ (z : List ℕ). feed w0 z) (sym (one_more piece i b h is))))

text_more : (w0 w : World) (piece : List ℕ) (i b : ℕ) (held0 held held1 : Option (List ℕ)) → i < length piece → b ≡ get_or piece i 0 → w ≡ feed w0 (take i piece)
    → held ≡ behind held0 (feed_text w0 (take i piece)) → held1 ≡ behind held (byte_text w b) → held1 ≡ behind held0 (feed_text w0 (take (i + 1) piece))
text_more w0 w piece i b held0 held held1 h is was wrote out =
    out ∙ (ap (λ (z : Option (List ℕ)). behind z (byte_text w b)) wrote ∙ (ap (λ (z : World). behind (behind held0 (feed_text w0 (take i piece))) (byte_text z b)) was
    ∙ (behind-append held0 (feed_text w0 (take i piece)) (byte_text (feed w0 (take i piece)) b)
    ∙ (ap (λ (z : List ℕ). behind held0 (feed_text w0 (take i piece) ++ z)) (sym (append-nil (byte_text (feed w0 (take i piece)) b)))
    ∙ (ap (λ (z : List ℕ). behind held0 z) (sym (feed_text-append w0 (take i piece) (b ∷ []))) ∙ ap (λ (z : List ℕ). behind held0 (feed_text w0 z)) (sym (one_more piece i b h is)))))))

pub taking_more : (w0 w w1 : World) (piece : List ℕ) (i b : ℕ) (held0 held held1 : Option (List ℕ)) (faults0 faults faults1 : ℕ) → i < length piece → b ≡ get_or piece i 0
    → IsTaking w0 w piece i held0 held faults0 faults → w1 ≡ feed_byte w b → (held1 ≡ behind held (byte_text w b)) × (faults1 ≡ faults) → IsTaking w0 w1 piece (i + 1) held0 held1 faults0 faults1
taking_more w0 w w1 piece i b held0 held held1 faults0 faults faults1 h is r goes out = record {
  world = fed_more w0 w w1 piece i b h is r.world goes;
  text = text_more w0 w piece i b held0 held held1 h is r.world r.text out.0;
  faults_same = out.1 ∙ r.faults_same;
}

-- the whole piece is taken
pub record Taken (w0 w : World) (piece : List ℕ) (held0 held : Option (List ℕ)) (faults0 faults : ℕ) : Type 0 where
  pub world : w ≡ feed w0 piece
  pub prints : (held ≡ behind held0 (feed_text w0 piece)) × (faults ≡ faults0)

all_of : (piece : List ℕ) (i : ℕ) → length piece ≤ i → take i piece ≡ piece
all_of [] zero h = refl
all_of [] (suc i) h = refl
all_of (x ∷ xs) zero h = absurd (omega arith)
all_of (x ∷ xs) (suc i) h = ap (λ (z : List ℕ). x ∷ z) (all_of xs i (omega arith))

pub taking_over : (w0 w : World) (piece : List ℕ) (i : ℕ) (held0 held : Option (List ℕ)) (faults0 faults : ℕ) → length piece ≤ i → IsTaking w0 w piece i held0 held faults0 faults → Taken w0 w piece held0 held faults0 faults
taking_over w0 w piece i held0 held faults0 faults h r = record {
  world = r.world ∙ ap (λ (z : List ℕ). feed w0 z) (all_of piece i h);
  prints = (r.text ∙ ap (λ (z : List ℕ). behind held0 (feed_text w0 z)) (all_of piece i h), r.faults_same);
}

cut_at : (i : ℕ) (piece : List ℕ) → piece ≡ take i piece ++ drop i piece
cut_at zero piece = refl
cut_at (suc i) [] = refl
cut_at (suc i) (x ∷ xs) = ap (λ (z : List ℕ). x ∷ z) (cut_at i xs)

line_feed_at : (piece : List ℕ) (i : ℕ) → i < length piece → get_or piece i 0 ≡ 10 → IsLineFeed (drop i piece)
line_feed_at [] i h is = absurd (omega arith)
line_feed_at (x ∷ xs) zero h is = is
line_feed_at (x ∷ xs) (suc i) h is = line_feed_at xs i (omega arith) is

-- a byte broke
pub taking_broke : (b : Broken) (w0 w v : World) (piece : List ℕ) (i : ℕ) (held0 held held1 : Option (List ℕ)) (faults0 faults : ℕ) → i < length piece → IsTaking w0 w piece i held0 held faults0 faults
    → IsPartly b (get_or piece i 0 ≡ 10) w v held held1 → is_some w.stop ≡ false → BrokeIn b piece w0 v held0 held1
taking_broke b w0 w v piece i held0 held held1 faults0 faults less r partly going = record {
  fed = take i piece;
  more = drop i piece;
  whole = cut_at i piece;
  going = subst (λ (z : World). is_some z.stop ≡ false) r.world going;
  partly = subst (λ (h : Option (List ℕ)). IsPartly b (IsLineFeed (drop i piece)) (feed w0 (take i piece)) v h held1) r.text
      (subst (λ (z : World). IsPartly b (IsLineFeed (drop i piece)) z v held held1) r.world
      (partly_at b (get_or piece i 0 ≡ 10) (IsLineFeed (drop i piece)) w v held held1 (line_feed_at piece i less) partly));
}
