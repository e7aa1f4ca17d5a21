use Prim.Native.Nat.{◌-◌, ◌*◌, ◌^◌, ◌≤◌}
use native.Mathlib.Nat.{mul-le-mul_left}
use native.Mathlib.Omega.{arith}
use lib.Pow.{pow_mono, shr_le}
use Rattle.cipher.specs.Schedule.{rotated_left}
use Rattle.cipher.proofs.printed.rotate_left.Goals as goal

-- no bit leaves the word on the left
shifted : (c : goal.Start) → c.args.half * 2 ^ c.args.n ≤ c.args.half * 4
shifted c = mul-le-mul_left c.args.half (pow_mono c.requires.0)

pub overflow_add-result : goal.overflow_add-result
overflow_add-result c = omega (arith, shifted c, shr_le c.args.half (28 - c.args.n))

pub returns : goal.returns
unfolding rotated_left
returns c = omega (arith, shifted c)
