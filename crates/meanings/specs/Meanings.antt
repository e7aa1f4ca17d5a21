-- What the numbers that an operator sees mean (01, Numbers an operator sees).
use Rattle.std.specs.Prelude.{List, [], ◌∷◌, ℕ, ltb, length, get_or}
use Prim.Native.String.{String}
use Rattle.lent.specs.Refusals.{size}
use Rattle.lent.specs.Result.{Result, done, require}
use Rattle.meanings.specs.Ascii.{ascii}

-- of each number, from 0 on
abbrev pub meanings : List String
meanings =
    "done"
    ∷ "message empty, or a record is cut short"
    ∷ "first field is not 0, a field number is above 192, or not above the one before"
    ∷ "message type does not start with 01, 02, 04 or 05"
    ∷ "a listed field has the wrong length or characters"
    ∷ "MAC asked over a text that is empty after cleaning"
    ∷ "a length or size is outside its range"
    ∷ "a character is not a digit, hexadecimal or a password's, where one is asked"
    ∷ "a block comes from no permitted PIN, password or VIP number"
    ∷ "the two halves of a derivation key agree without the low bit of each byte"
    ∷ "host counter is 0 or has more than ten one bits"
    ∷ "terminal state does not hang together"
    ∷ "terminal exhausted"
    ∷ "lent buffer shorter than the result"
    ∷ []

-- the meaning of a number: 6 if it is none
abbrev pub meaning : ℕ → Result (List ℕ)
meaning number = require (ltb number (length meanings)) size (done (ascii (get_or meanings number "")))
