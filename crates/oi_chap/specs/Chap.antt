-- The challenge handshake (RFC 1994, section 4.1; RFC 7143, section 12.1.3).
use Rattle.std.specs.Prelude.{ℕ, zero, suc, ◌%◌, ◌^◌, List, ◌∷◌, ◌++◌}
use Rattle.std.specs.Int.{w32, to_be_bytes}
use Rattle.md5.specs.Md5.{md5}
use Rattle.rand_chacha.specs.ChaCha.{ChaCha, next_word}

-- the answer to a challenge: the digest of the identifier, the secret and the challenge, in this order
abbrev pub response : ℕ → List ℕ → List ℕ → List ℕ
response id secret challenge = md5 (id ∷ secret ++ challenge)

-- the generator after some words of its stream
abbrev pub after_words : ℕ → ChaCha → ChaCha
after_words zero g = g
after_words (suc k) g = (next_word 10 (after_words k g)).1

-- the word that comes after so many others
abbrev pub word_ahead : ℕ → ChaCha → ℕ
word_ahead k g = (next_word 10 (after_words k g)).0

-- four words as bytes, each with its high byte first
abbrev pub four_words : ℕ → ℕ → ℕ → ℕ → List ℕ
four_words a b c d = to_be_bytes w32 a ++ to_be_bytes w32 b ++ to_be_bytes w32 c ++ to_be_bytes w32 d

-- the identifier: the low byte of the next word
abbrev pub identifier : ChaCha → ℕ
identifier g = word_ahead 0 g % 2 ^ 8

-- the challenge: the four words after it
abbrev pub challenge_bytes : ChaCha → List ℕ
challenge_bytes g = four_words (word_ahead 1 g) (word_ahead 2 g) (word_ahead 3 g) (word_ahead 4 g)
