-- A second exclusive-or takes the first back.
use mathlib.Core.Path.{◌≡◌}
use Prim.Native.Nat.{ℕ}
use lib.Bits.{bit_xor, xor_self, xor_zero_r}
use Rattle.std.specs.Int.Bits.{xor_assoc}

pub xor_cancel : (a b : ℕ) → bit_xor (bit_xor a b) b ≡ a
xor_cancel a b = rw (xor_assoc a b b, xor_self b, xor_zero_r a)
