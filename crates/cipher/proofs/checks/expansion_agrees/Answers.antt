use Prim.Native.Nat.{ℕ, ◌<◌, ◌*◌, ◌%◌, ◌^◌}
use native.Mathlib.Omega.{arith}
use lib.Pow.{pow-lt}
use Rattle.cipher.proofs.checks.expansion_agrees.Goals as goal

-- a bit of the right half
in_half : (n : ℕ) → n < 32 → 1 * 2 ^ n % 2 ^ 64 < 2 ^ 32
in_half n h = omega (arith, pow-lt {j = 32} h)

pub expand-word-requires : goal.expand-word-requires
expand-word-requires c = in_half c.args.n c.requires
