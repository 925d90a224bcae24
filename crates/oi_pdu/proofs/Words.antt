-- Numbers written and read back, and the 48 bytes of a header.
use Rattle.std.proofs.Common.{◌≡◌, ℕ, ◌+◌, ◌*◌, ◌/◌, ◌%◌, ◌^◌, ◌<◌, List, [], ◌∷◌, ◌++◌, length, take, refl, arith, length-append}
use Rattle.std.proofs.lemmas.List.{take_at}
use Rattle.std.proofs.lemmas.Nat.{from_be_bytes-to_be_bytes_2, from_be_bytes-to_be_bytes_4}
use Rattle.std.specs.Int.{w16, to_be_bytes}
use Rattle.oi_pdu.specs.Segments.{word, half, words, cells, basic_at, additional, data_len}
use Rattle.oi_pdu.specs.declared.basic.BasicHeader.{BasicHeader}

pub word0 : (a b c d : ℕ) → a < 2 ^ 32 → word (words a b c d) 0 ≡ a
unfolding words
word0 a b c d h = from_be_bytes-to_be_bytes_4 a h

pub word4 : (a b c d : ℕ) → b < 2 ^ 32 → word (words a b c d) 4 ≡ b
unfolding words
word4 a b c d h = from_be_bytes-to_be_bytes_4 b h

pub word8 : (a b c d : ℕ) → c < 2 ^ 32 → word (words a b c d) 8 ≡ c
unfolding words
word8 a b c d h = from_be_bytes-to_be_bytes_4 c h

pub word12 : (a b c d : ℕ) → d < 2 ^ 32 → word (words a b c d) 12 ≡ d
unfolding words
word12 a b c d h = from_be_bytes-to_be_bytes_4 d h

pub words_long : (a b c d : ℕ) → length (words a b c d) ≡ 16
unfolding words
words_long a b c d = refl

-- two halves of a word
pub high_half : (n m : ℕ) → m < 2 ^ 16 → (n * 2 ^ 16 + m) / 2 ^ 16 ≡ n
high_half n m h = omega arith

pub low_half : (n m : ℕ) → m < 2 ^ 16 → (n * 2 ^ 16 + m) % 2 ^ 16 ≡ m
low_half n m h = omega arith

pub high_alone : (n : ℕ) → n * 2 ^ 16 / 2 ^ 16 ≡ n
high_alone n = omega arith

-- two bytes at the front of a word
pub first_byte : (n m : ℕ) → m < 2 ^ 8 → (n * 2 ^ 24 + m * 2 ^ 16) / 2 ^ 24 ≡ n
first_byte n m h = omega arith

pub second_byte : (n m : ℕ) → m < 2 ^ 8 → (n * 2 ^ 24 + m * 2 ^ 16) / 2 ^ 16 % 2 ^ 8 ≡ m
second_byte n m h = omega arith

-- two bytes and a half
pub event_byte : (n m k : ℕ) → m < 2 ^ 8 → k < 2 ^ 16 → (n * 2 ^ 24 + m * 2 ^ 16 + k) / 2 ^ 24 ≡ n
event_byte n m k h g = omega arith

pub vendor_byte : (n m k : ℕ) → m < 2 ^ 8 → k < 2 ^ 16 → (n * 2 ^ 24 + m * 2 ^ 16 + k) / 2 ^ 16 % 2 ^ 8 ≡ m
vendor_byte n m k h g = omega arith

pub parameter_half : (n m k : ℕ) → k < 2 ^ 16 → (n * 2 ^ 24 + m * 2 ^ 16 + k) % 2 ^ 16 ≡ k
parameter_half n m k g = omega arith

-- the session bytes of a login PDU
pub isid_front : (isid : List ℕ) (tsih : ℕ) → length isid ≡ 6 → take 6 (isid ++ to_be_bytes w16 tsih) ≡ isid
isid_front isid tsih h = take_at isid (to_be_bytes w16 tsih) 6 h

pub tsih_behind : (isid : List ℕ) (tsih : ℕ) → length isid ≡ 6 → tsih < 2 ^ 16 → half (isid ++ to_be_bytes w16 tsih) 6 ≡ tsih
tsih_behind (x0 ∷ x1 ∷ x2 ∷ x3 ∷ x4 ∷ x5 ∷ []) tsih h below = from_be_bytes-to_be_bytes_2 tsih below
tsih_behind _ tsih h below = absurd (omega arith)

pub session_long : (isid : List ℕ) (tsih : ℕ) → length isid ≡ 6 → length (isid ++ to_be_bytes w16 tsih) ≡ 8
session_long isid tsih h = omega (arith, length-append isid (to_be_bytes w16 tsih))

-- the numbers of a header fit their places
pub record FitsPlaces (b : BasicHeader) : Type 0 where
  pub tag : b.tag < 2 ^ 32
  pub word20 : b.word20 < 2 ^ 32
  pub word24 : b.word24 < 2 ^ 32
  pub word28 : b.word28 < 2 ^ 32
  pub lun : length b.lun ≡ 8
  pub tail : length b.tail ≡ 16

-- what stands in the 48 bytes of a header
pub record ReadsBack (bytes : List ℕ) (b : BasicHeader) (size : ℕ) : Type 0 where
  pub long : length bytes ≡ 48
  pub basic : basic_at bytes ≡ b
  pub payload : data_len bytes ≡ size
  pub more : additional bytes ≡ 0

cells_at : (first flags two three tag word20 word24 word28 size : ℕ) (lun tail : List ℕ) → length lun ≡ 8 → length tail ≡ 16 → tag < 2 ^ 32 → word20 < 2 ^ 32 → word24 < 2 ^ 32 → word28 < 2 ^ 32 → size < 2 ^ 24 → let b : BasicHeader = record { first = first; flags = flags; two = two; three = three; lun = lun; tag = tag; word20 = word20; word24 = word24; word28 = word28; tail = tail } in ReadsBack (cells b size) b size
unfolding cells words basic_at data_len additional
cells_at first flags two three tag word20 word24 word28 size (l0 ∷ l1 ∷ l2 ∷ l3 ∷ l4 ∷ l5 ∷ l6 ∷ l7 ∷ []) (t0 ∷ t1 ∷ t2 ∷ t3 ∷ t4 ∷ t5 ∷ t6 ∷ t7 ∷ t8 ∷ t9 ∷ t10 ∷ t11 ∷ t12 ∷ t13 ∷ t14 ∷ t15 ∷ []) hl ht h0 h1 h2 h3 hs = record {
  long = refl;
  basic = rw (from_be_bytes-to_be_bytes_4 tag h0, from_be_bytes-to_be_bytes_4 word20 h1, from_be_bytes-to_be_bytes_4 word24 h2, from_be_bytes-to_be_bytes_4 word28 h3) refl;
  payload = rw (from_be_bytes-to_be_bytes_4 size (omega arith)) (omega arith);
  more = omega arith;
}
cells_at _ _ _ _ _ _ _ _ _ _ _ hl ht h0 h1 h2 h3 hs = absurd (omega arith)

pub cells_read_back : (b : BasicHeader) (size : ℕ) → FitsPlaces b → size < 2 ^ 24 → ReadsBack (cells b size) b size
cells_read_back b size f h = cells_at b.first b.flags b.two b.three b.tag b.word20 b.word24 b.word28 size b.lun b.tail f.lun f.tail f.tag f.word20 f.word24 f.word28 h
