-- Cipher block chaining over DES, from zero, as ISO/IEC 9797-1 has it: H(i) is block i exclusive-or H(i - 1), encrypted.
use Rattle.std.specs.Prelude.{List, ℕ, zero, suc, ◌+◌, ◌*◌, ◌/◌, length, drop}
use Rattle.std.specs.Int.Bits.{bit_xor}
use Rattle.lent.specs.Words.{word}
use Rattle.cipher.specs.Des.{encrypted}

-- how many blocks of eight bytes hold s
unfoldable pub blocks : List ℕ → ℕ
blocks s = (length s + 7) / 8

-- the chain after the first n blocks of s; past the end of s stand zeros
unfoldable pub chained_to : ℕ → List ℕ → ℕ → ℕ
chained_to key s zero = 0
chained_to key s (suc n) = encrypted key (bit_xor (chained_to key s n) (word (drop (8 * n) s)))

-- the chain after all blocks of s, the last filled with zeros
unfoldable pub chained : ℕ → List ℕ → ℕ
chained key s = chained_to key s (blocks s)
