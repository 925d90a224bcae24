-- The streams of ChaCha20 words (Bernstein's variant: a nonce of 64 bits) of one number, one for each purpose.
use Rattle.std.specs.Prelude.{ℕ, List, ◌++◌, replicate}
use Rattle.std.specs.Int.{w64, to_be_bytes}
use Rattle.rand_chacha.specs.ChaCha.{ChaCha, of_seed}
use Rattle.oi_chap.specs.declared.streams.Purpose.{Purpose}
use Rattle.oi_chap.specs.declared.streams.Purpose.TheVariants.{Requests, InitiatorChallenges, TargetChallenges}

-- the key: the number in 8 bytes with the high byte first, then 24 zero bytes
abbrev pub stream_key : ℕ → List ℕ
stream_key number = to_be_bytes w64 number ++ replicate 24 0

-- the number of the stream, which is the nonce
abbrev pub stream_number : Purpose → ℕ
stream_number Requests = 0
stream_number InitiatorChallenges = 1
stream_number TargetChallenges = 2

-- a generator at the first word of the stream
abbrev pub stream_start : ℕ → Purpose → ChaCha
stream_start number purpose = record (of_seed (stream_key number)) { stream = stream_number purpose }
