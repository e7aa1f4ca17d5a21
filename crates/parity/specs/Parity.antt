-- Odd parity: an odd number of ones in every byte of a key, made by changing low bits alone (02, M-103).
use Rattle.std.specs.Prelude.{Bool, List, map, ℕ, ◌/◌, ◌%◌, eqb}
use Rattle.std.specs.Int.Bits.{bit_xor}
use Rattle.std.specs.Int.Count.{ones}
use Rattle.lent.specs.Choice.{all, pick}

-- a byte has odd parity: the number of its ones is odd
abbrev pub odd_byte : ℕ → Bool
odd_byte b = eqb (ones b % 2) 1

-- a key has odd parity: each of its bytes has
abbrev pub odd_parity : List ℕ → Bool
odd_parity key = all odd_byte key

-- a byte adjusted to odd parity: its low bit is turned if the number of its ones is even
unfoldable pub adjusted_byte : ℕ → ℕ
adjusted_byte b = pick (odd_byte b) b (bit_xor b 1)

-- a key adjusted to odd parity: each of its bytes is
unfoldable pub adjusted : List ℕ → List ℕ
adjusted key = map adjusted_byte key

-- a key without the low bit of each byte
abbrev pub without_low_bits : List ℕ → List ℕ
without_low_bits key = map (λ (b : ℕ). b / 2) key
