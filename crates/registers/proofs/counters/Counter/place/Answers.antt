use native.Mathlib.Omega.{arith}
use Rattle.registers.proofs.Bits.{place_lt}
use Rattle.registers.proofs.counters.Counter.place.Goals as goal

pub returns-clause-bound : goal.returns-clause-bound
returns-clause-bound c =
    let k = c.args.self in
    omega (arith, c.lowest_place.ensures, place_lt k.value k.permitted.from_one k.permitted.fits)
