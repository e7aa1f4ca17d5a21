-- What the program writes for the bytes that it read: eight bytes of MAC key, then one message (01, The job and its edge).
use Rattle.std.specs.Prelude.{List, [], ◌∷◌, ◌++◌, ℕ, zero, suc, ◌/◌, ◌%◌, leb, ltb, length, take, drop}
use Rattle.lent.specs.Choice.{pick}
use Rattle.lent.specs.Characters.{digit_of}
use Rattle.lent.specs.Refusals.{size, number_of}
use Rattle.lent.specs.Result.{Result, done, refused, require}
use Rattle.keyentry.specs.Hexadecimal.{text_of}
use Rattle.cleaning.specs.Cleaning.{space}
use Rattle.cleaning.specs.Counts.{dropped_from, spaces_out_of, count_of}
use Rattle.message.specs.Text.{joined_text}
use Rattle.mac.specs.Mac.{message_text_and_mac}

-- a line: a text, and the line feed that ends it
abbrev pub line : List ℕ → List ℕ
line text = text ++ 10 ∷ []

-- a number in decimal, in at most k digits: below 10 its digit, any other the digits of a tenth of it and then its last digit
unfoldable pub decimal_in : ℕ → ℕ → List ℕ
decimal_in zero n = []
decimal_in (suc k) n = pick (ltb n 10) (digit_of n ∷ []) (decimal_in k (n / 10) ++ digit_of (n % 10) ∷ [])

-- a number in decimal, without leading zeros; 20 digits are enough for one of 64 bits
unfoldable pub decimal : ℕ → List ℕ
decimal n = decimal_in 20 n

-- `refused ` in ASCII
abbrev pub refused_word : List ℕ
refused_word = 114 ∷ 101 ∷ 102 ∷ 117 ∷ 115 ∷ 101 ∷ 100 ∷ 32 ∷ []

-- the text, the MAC in capital hexadecimal digits, and how many bytes were dropped and spaces went out of the text before cleaning, each on a line;
-- or the refusal on one line
unfoldable pub lines : Result (List ℕ) → Result (List ℕ × List ℕ) → List ℕ
lines raw (done (text, mac)) =
    line text ++ line (text_of 65 mac) ++ line (decimal (count_of dropped_from raw) ++ space ∷ decimal (count_of spaces_out_of raw))
lines raw (refused why) = line (refused_word ++ decimal (number_of why))

-- the MAC text and the MAC of the message after the key: 6 if there are fewer than eight bytes, then the message's own refusals
unfoldable pub answer : List ℕ → Result (List ℕ × List ℕ)
answer input = require (leb 8 (length input)) size (message_text_and_mac (take 8 input) (drop 8 input))

-- what is written
abbrev pub output : List ℕ → List ℕ
output input = lines (joined_text (drop 8 input)) (answer input)
