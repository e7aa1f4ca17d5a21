use mathlib.Core.Path.{◌≡◌}
use mathlib.Core.List.{List}
use Prim.Native.Nat.{ℕ, ◌<◌, ◌^◌}
use native.Mathlib.Omega.{arith}
use borrow.Author.Rules.{rules}
use lib.ListN.{take}
use lib.Seq.{take_all}
use Rattle.cipher.specs.Bits.{permuted}
use Rattle.cipher.proofs.Permutation.{one_more, room}
use Rattle.cipher.proofs.Range.{entry_range}
use Rattle.cipher.proofs.bits.permute.Goals as goal

-- there is room for one more bit
room_left : (width : ℕ) (table : List ℕ) (x k r : ℕ) → r ≡ permuted width (take k table) x → k < 64 → r < 2 ^ 63
room_left width table x k r e h = rw e (room _ _ _ k h)

pub loop-i-init : goal.loop-i-init
unfolding permuted
loop-i-init c = search rules

pub overflow_mul-r : goal.overflow_mul-r
overflow_mul-r c =
    let l = c.loop-i in
    let w = c.requires.length_fits in
    omega (arith, room_left _ _ _ l.i-index l.r l.invariant (omega arith))

pub overflow_add-r : goal.overflow_add-r
overflow_add-r c =
    let l = c.loop-i in
    let w = c.requires.length_fits in
    omega (arith, room_left _ _ _ l.i-index l.r l.invariant (omega arith), c.bit.ensures.1)

pub bit-requires : goal.bit-requires
bit-requires c =
    let e = entry_range 1 c.args.width c.args.table.now c.requires.entries c.loop-i.i-index (omega arith) in
    (e.0, e.1, c.requires.width_fits)

pub loop-i-preserved : goal.loop-i-preserved
loop-i-preserved c =
    let l = c.loop-i in
    rw (l.invariant, c.bit.ensures.0) (one_more _ _ _ l.i-index (omega arith))

pub returns : goal.returns
returns c =
    let l = c.loop-i in
    rw (take_all l.i-index c.args.table.now (omega arith)) at l.invariant
