-- A text between its length and a fill: a password's block, and a VIP number's in hexadecimal digits (02, M-102).
use Rattle.std.specs.Prelude.{List, ◌++◌, ℕ, ◌+◌, ◌-◌, ◌*◌, length, get_or, take, drop, replicate}
use Rattle.lent.specs.Characters.{two_digits}
use Rattle.lent.specs.HalfBytes.{low_half}

-- two decimal digits of length, the text, then the fill up to n characters
unfoldable pub framed : ℕ → ℕ → List ℕ → List ℕ
framed n fill text = two_digits (length text) ++ text ++ replicate (n - 2 - length text) fill

-- the length that the first two characters say: a digit's low half-byte is its value
abbrev pub said_length : List ℕ → ℕ
said_length s = low_half (get_or s 0 0) * 10 + low_half (get_or s 1 0)

-- what stands after the length, as many characters as it says
unfoldable pub framed_text : List ℕ → List ℕ
framed_text s = take (said_length s) (drop 2 s)
