-- Y, from which the card key is made (01, The card's keys and cryptograms).
use Rattle.std.specs.Prelude.{Bool, List, ◌++◌, map, ℕ, ◌-◌, leb, length, drop, replicate}
use Rattle.lent.specs.Characters.{digit_value}
use Rattle.lent.specs.Words.{from_base, to_base}

-- a card sequence is 0 to 99
abbrev pub sequence_range : ℕ → Bool
sequence_range sequence = leb sequence 99

-- the digits of the card number, then two of the sequence
unfoldable pub card_digits : List ℕ → ℕ → List ℕ
card_digits card sequence = map digit_value card ++ to_base 10 2 sequence

-- the rightmost n of s; zeros are put on the left if it is short
unfoldable pub rightmost : ℕ → List ℕ → List ℕ
rightmost n s = replicate (n - length s) 0 ++ drop (length s - n) s

-- Y, as the word of its sixteen half-bytes
unfoldable pub derivation_word : List ℕ → ℕ → ℕ
derivation_word card sequence = from_base 16 16 (rightmost 16 (card_digits card sequence))
