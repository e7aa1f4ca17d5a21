-- Card numbers, and the block of a PIN with a card number (01, PIN blocks; ISO 9564-1, format 0).
use Rattle.std.specs.Prelude.{List, ◌++◌, map, ℕ, ◌-◌, length, take, drop, replicate}
use Rattle.std.specs.Int.Bits.{bit_xor}
use Rattle.lent.specs.Characters.{digit_value}
use Rattle.lent.specs.Words.{from_base}
use Rattle.pinblock.specs.Pin.{pin_block}

-- the twelve rightmost characters leaving out the last
abbrev pub rightmost_twelve : List ℕ → List ℕ
rightmost_twelve card = take 12 (drop (length card - 13) card)

-- 0000 and these twelve digits
unfoldable pub card_half_bytes : List ℕ → List ℕ
card_half_bytes card = replicate 4 0 ++ map digit_value (rightmost_twelve card)

-- a card number's part of the block: the word of these half-bytes
unfoldable pub card_part : List ℕ → ℕ
card_part card = from_base 16 16 (card_half_bytes card)

-- the block of a PIN with a card number
unfoldable pub pin_block_with_card : List ℕ → List ℕ → ℕ
pin_block_with_card pin card = bit_xor (pin_block pin) (card_part card)
