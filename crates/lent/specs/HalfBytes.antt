-- Characters put together as half-bytes of a word: two digits a byte.
use Rattle.std.specs.Prelude.{List, ℕ, ◌%◌, ◌^◌, length}
use Rattle.lent.specs.Words.{from_base}

-- the low half-byte of a character: a digit's is its value
abbrev pub low_half : ℕ → ℕ
low_half x = x % 16

-- the word of half-bytes: of the last sixteen, if there are more
unfoldable pub word_of : List ℕ → ℕ
word_of halfBytes = from_base 16 (length halfBytes) halfBytes % 2 ^ 64
