-- Reading a block: the permitted PIN whose block it is, if there is one (01, PIN blocks).
use Rattle.std.specs.Prelude.{List, map, ℕ, eqb, get_or, take, drop}
use Rattle.lent.specs.Characters.{digit_of}
use Rattle.lent.specs.Choice.{both}
use Rattle.lent.specs.Refusals.{bad_block}
use Rattle.lent.specs.Result.{Result, done, require}
use Rattle.lent.specs.Words.{to_base}
use Rattle.pinblock.specs.Pin.{permitted, pin_block}

-- what stands after the length, as many half-bytes as it says
unfoldable pub candidate : List ℕ → List ℕ
candidate halfBytes = map digit_of (take (get_or halfBytes 1 0) (drop 2 halfBytes))

-- a PIN, if it is permitted and its block is this one
unfoldable pub pin_if_made : List ℕ → ℕ → Result (List ℕ)
pin_if_made pin block = require (both (permitted pin) (eqb (pin_block pin) block)) bad_block (done pin)

-- the PIN of a block
unfoldable pub pin_of : ℕ → Result (List ℕ)
pin_of block = pin_if_made (candidate (to_base 16 16 block)) block
