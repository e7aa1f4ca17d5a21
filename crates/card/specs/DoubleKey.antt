-- Keys of 16 bytes, and those that triple DES under them gives (01, The card's keys and cryptograms).
use Rattle.std.specs.Prelude.{Bool, List, ◌++◌, ℕ, eqb, length}
use Rattle.lent.specs.Words.{left, right, word_bytes}
use Rattle.cipher.specs.Triple.{triple_encrypted}

-- a key has 16 bytes
abbrev pub double_size : List ℕ → Bool
double_size key = eqb (length key) 16

-- the key that two blocks give: triple DES of the first, then of the second
abbrev pub derived_key : List ℕ → ℕ → ℕ → List ℕ
derived_key key first second =
    word_bytes (triple_encrypted (left key) (right key) first) ++ word_bytes (triple_encrypted (left key) (right key) second)
