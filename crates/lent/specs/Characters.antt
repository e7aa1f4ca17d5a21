-- The characters of a text, as bytes of ASCII.
use Rattle.std.specs.Prelude.{Bool, List, map, ℕ, ◌+◌, ◌-◌}
use Rattle.lent.specs.Choice.{between, either, pick}
use Rattle.lent.specs.Words.{to_base}
use Rattle.lent.specs.declared.characters.Kind.{Kind}
use Rattle.lent.specs.declared.characters.Kind.TheVariants.{Digits, HexadecimalDigits, LettersOrDigits, Printable, Graphic}

-- 0 to 9
abbrev pub digit : ℕ → Bool
digit x = between 48 57 x

-- the value of a digit
abbrev pub digit_value : ℕ → ℕ
digit_value x = x - 48

-- the digit of a value below 10
abbrev pub digit_of : ℕ → ℕ
digit_of x = x + 48

-- A to Z
abbrev pub capital : ℕ → Bool
capital x = between 65 90 x

-- a to z
abbrev pub small : ℕ → Bool
small x = between 97 122 x

-- a small letter's capital; any other character is its own
unfoldable pub capitalized : ℕ → ℕ
capitalized x = pick (small x) (x - 32) x

-- 20 to 7E hex
abbrev pub printable : ℕ → Bool
printable x = between 32 126 x

-- 21 to 7E hex
abbrev pub graphic : ℕ → Bool
graphic x = between 33 126 x

-- a letter of either case, or a digit
unfoldable pub letter_or_digit : ℕ → Bool
letter_or_digit x = either (capital x) (either (small x) (digit x))

-- 0 to 9, A to F, a to f
unfoldable pub hexadecimal : ℕ → Bool
hexadecimal x = either (digit x) (between 65 70 (capitalized x))

-- the characters of each kind
abbrev pub of_kind : Kind → ℕ → Bool
of_kind Digits = digit
of_kind HexadecimalDigits = hexadecimal
of_kind LettersOrDigits = letter_or_digit
of_kind Printable = printable
of_kind Graphic = graphic

-- the last two decimal digits of a number
abbrev pub two_digits : ℕ → List ℕ
two_digits n = map digit_of (to_base 10 2 n)
