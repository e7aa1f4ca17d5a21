-- Permitted PINs, and the block of a PIN (01, PIN blocks; source document 000, figure 2).
use Rattle.std.specs.Prelude.{Bool, List, ◌∷◌, ◌++◌, map, ℕ, ◌-◌, length, replicate}
use Rattle.lent.specs.Choice.{both, between, all}
use Rattle.lent.specs.Characters.{digit, digit_value}
use Rattle.lent.specs.Words.{from_base}

-- a PIN has 4 to 12 characters
abbrev pub pin_size : List ℕ → Bool
pin_size pin = between 4 12 (length pin)

-- a permitted PIN has 4 to 12 digits
abbrev pub permitted : List ℕ → Bool
permitted pin = both (pin_size pin) (all digit pin)

-- 0, the length, the digits, then F up to sixteen
unfoldable pub pin_half_bytes : List ℕ → List ℕ
pin_half_bytes pin = 0 ∷ length pin ∷ map digit_value pin ++ replicate (14 - length pin) 15

-- the block of a PIN: the word of these half-bytes
unfoldable pub pin_block : List ℕ → ℕ
pin_block pin = from_base 16 16 (pin_half_bytes pin)
