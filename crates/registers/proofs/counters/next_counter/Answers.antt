use mathlib.Core.Path.{◌≡◌, refl, ap}
use Prim.Native.Nat.{ℕ, zero, suc, ◌+◌, ◌*◌, ◌%◌, ◌^◌, ◌≤◌, ◌<◌}
use native.Mathlib.Nat.{zero-lt-suc}
use native.Mathlib.Omega.{arith}
use borrow.Author.Tests.{lt-ltb, le-ltb}
use lib.Dec.{lit≤}
use lib.Count.{ones}
use Rattle.registers.specs.Counters.{last_counter, lowest_place, next_after, next_counter}
use Rattle.registers.proofs.Bits.{one_shl, lowest, lowest_le, place_lt}
use Rattle.registers.proofs.counters.next_counter.Goals as goal

-- a number with one bits is not 0
some : (x : ℕ) → 10 ≤ ones x → 1 ≤ x
unfolding ones
some zero h = absurd (omega arith)
some (suc x) h = zero-lt-suc x

shifted : (x : ℕ) → 1 ≤ x → x < 2 ^ 21 → 1 * 2 ^ lowest_place x % 2 ^ 32 ≡ 2 ^ lowest_place x
shifted x p h = (one_shl 32 (lowest_place x) (lit≤ tt) (place_lt x p h)).0

pub returns-then-c-ge-LAST_COUNTER : goal.returns-then-c-ge-LAST_COUNTER
unfolding next_counter
returns-then-c-ge-LAST_COUNTER c = rw (le-ltb c.args.c last_counter (omega arith)) refl

pub returns-then-c-lt10 : goal.returns-then-c-lt10
unfolding next_counter next_after
returns-then-c-lt10 c = rw (lt-ltb c.args.c last_counter (omega arith), lt-ltb (ones c.args.c) 10 (omega arith)) refl

pub overflow_shl-result : goal.overflow_shl-result
overflow_shl-result c = omega (arith, place_lt c.args.c (some _ (omega arith)) (omega arith))

pub overflow_add-result-else-c-lt10 : goal.overflow_add-result-else-c-lt10
overflow_add-result-else-c-lt10 c =
    let x = c.args.c in
    let pos : 1 ≤ x = some x (omega arith) in
    omega (arith, shifted x pos (omega arith), lowest_le (lowest x pos (omega arith)))

pub returns-else-c-lt10 : goal.returns-else-c-lt10
unfolding next_counter next_after
returns-else-c-lt10 c =
    let x = c.args.c in
    rw (lt-ltb x last_counter (omega arith), le-ltb (ones x) 10 (omega arith)) (ap (λ (y : ℕ). x + y) (shifted x (some x (omega arith)) (omega arith)))
