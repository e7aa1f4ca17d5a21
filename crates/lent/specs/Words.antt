-- Numbers and their digits to a base, the highest first: 256 for bytes, 16 for half-bytes.
use Rattle.std.specs.Prelude.{ℕ, zero, suc, ◌+◌, ◌*◌, ◌/◌, ◌%◌, ◌^◌, Bool, List, [], ◌∷◌, ltb, get_or, drop}

-- a byte is a number below 256
abbrev pub byte : ℕ → Bool
byte x = ltb x 256

-- the number whose digits to the base are the first n of s; past the end of s stand zeros
unfoldable pub from_base : ℕ → ℕ → List ℕ → ℕ
from_base base zero s = 0
from_base base (suc n) s = from_base base n s * base + get_or s n 0

-- the n lowest digits of x to the base, the highest of them first
unfoldable pub to_base : ℕ → ℕ → ℕ → List ℕ
to_base base zero x = []
to_base base (suc n) x = x / base ^ n % base ∷ to_base base n x

-- the word that the first eight bytes of s stand for
abbrev pub word : List ℕ → ℕ
word s = from_base 256 8 s

-- the left half of a key of sixteen bytes, or a key of eight
abbrev pub left : List ℕ → ℕ
left key = word key

-- the right half of a key of sixteen bytes
abbrev pub right : List ℕ → ℕ
right key = word (drop 8 key)

-- the eight bytes of a word
abbrev pub word_bytes : ℕ → List ℕ
word_bytes x = to_base 256 8 x
