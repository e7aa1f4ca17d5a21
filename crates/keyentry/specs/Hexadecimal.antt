-- Hexadecimal digits, with letters of either case (01, Digits and bytes).
use Rattle.std.specs.Prelude.{List, [], ◌∷◌, ℕ, ◌+◌, ◌-◌, ◌*◌, ◌/◌, ◌%◌, ltb}
use Rattle.lent.specs.Choice.{pick}
use Rattle.lent.specs.Characters.{digit, digit_value, digit_of, capitalized}

-- the value of a hexadecimal digit
unfoldable pub value_of : ℕ → ℕ
value_of x = pick (digit x) (digit_value x) (capitalized x - 55)

-- the digit of a value below 16, with the letters from `letter` on: 65 for capitals, 97 for small letters
unfoldable pub hexadecimal_digit : ℕ → ℕ → ℕ
hexadecimal_digit letter n = pick (ltb n 10) (digit_of n) (letter + (n - 10))

-- the hexadecimal text of bytes: two digits for each
unfoldable pub text_of : ℕ → List ℕ → List ℕ
text_of letter [] = []
text_of letter (b ∷ s) = hexadecimal_digit letter (b / 16) ∷ hexadecimal_digit letter (b % 16) ∷ text_of letter s

-- the bytes of a hexadecimal text: one for each two digits
unfoldable pub bytes_of : List ℕ → List ℕ
bytes_of (high ∷ low ∷ s) = (value_of high * 16 + value_of low) ∷ bytes_of s
bytes_of (high ∷ []) = []
bytes_of [] = []
