-- Turning the bits of a number (01, The card's keys and cryptograms).
use Rattle.std.specs.Prelude.{ℕ, ◌-◌, ◌^◌}

-- a number of n bits with all bits turned
unfoldable pub turned : ℕ → ℕ → ℕ
turned n x = 2 ^ n - 1 - x
