-- The MAC of ISO/IEC 9797-1, algorithm 3, over DES.
use Rattle.std.specs.Prelude.{List, ℕ}
use Rattle.cipher.specs.Des.{encrypted, decrypted}
use Rattle.chaining.specs.Chain.{chained}

-- the chain over the blocks of s under the left key; then decrypt with the right key and encrypt with the left
unfoldable pub mac_algorithm3 : ℕ → ℕ → List ℕ → ℕ
mac_algorithm3 left right s = encrypted left (decrypted right (chained left s))
