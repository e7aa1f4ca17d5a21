use native.Mathlib.Omega.{arith}
use lib.Count.{trailing_le}
use Rattle.registers.proofs.counters.lowest_place.Goals as goal

pub overflow_cast-result : goal.overflow_cast-result
overflow_cast-result c = omega (arith, trailing_le 32 c.args.c)
