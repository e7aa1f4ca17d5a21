-- The serial number, ten bytes that end in a counter of 21 bits (01, Terminal keys). Past the end of a short one stand zeros.
use Rattle.std.specs.Prelude.{List, [], ◌∷◌, ℕ, ◌+◌, ◌*◌, ◌/◌, ◌%◌, ◌^◌, get_or, drop}
use Rattle.lent.specs.Words.{word}

-- the counter: the low five bits of the eighth byte, and the last two bytes
unfoldable pub counter_of : List ℕ → ℕ
counter_of serial = get_or serial 7 0 % 32 * 2 ^ 16 + get_or serial 8 0 * 2 ^ 8 + get_or serial 9 0

-- the serial number with the counter's bits replaced by those of c
unfoldable pub with_counter : List ℕ → ℕ → List ℕ
with_counter serial c =
    get_or serial 0 0
    ∷ get_or serial 1 0
    ∷ get_or serial 2 0
    ∷ get_or serial 3 0
    ∷ get_or serial 4 0
    ∷ get_or serial 5 0
    ∷ get_or serial 6 0
    ∷ (get_or serial 7 0 / 32 * 32 + c / 2 ^ 16 % 32)
    ∷ c / 2 ^ 8 % 256
    ∷ c % 256
    ∷ []

-- its last eight bytes with the counter cleared
unfoldable pub cleared_tail : List ℕ → ℕ
cleared_tail serial = word (drop 2 (with_counter serial 0))

-- its first eight bytes with the low five bits cleared, so that the counter is not in them
unfoldable pub cleared_head : List ℕ → ℕ
cleared_head serial = word serial / 32 * 32
