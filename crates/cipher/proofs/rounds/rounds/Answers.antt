use mathlib.Core.Path.{◌≡◌}
use Prim.Native.Nat.{◌*◌, ◌%◌, ◌^◌}
use native.Mathlib.Numerals.{add-one}
use native.Mathlib.Omega.{arith}
use lib.Bits.{xor_shifted}
use lib.ListN.{drop_of_length-le}
use lib.Seq.{drop-cons}
use Rattle.cipher.specs.Private.{LeadsTo}
use Rattle.cipher.specs.Rounds.{rounds}
use Rattle.cipher.proofs.Merged.{one_round}
use Rattle.cipher.proofs.rounds.rounds.Goals as goal

pub loop-key-preserved : goal.loop-key-preserved
loop-key-preserved c whole t =
    let l = c.loop-key in
    let keys = c.args.keys.now in
    let left : LeadsTo whole _ l.l l.r = rw (drop-cons keys l.key-index 0 (omega arith)) at (l.invariant whole t) in
    rw (add-one l.key-index, c.substituted.ensures) (one_round left)

pub returns : goal.returns
unfolding rounds
returns c whole h =
    let keys = c.args.keys.now in
    let t = rw (drop_of_length-le keys {i = c.loop-key.key-index} (omega arith)) at (c.loop-key.invariant whole h) in
    let r = c.pack.ensures t.r t.r_fits t.right_expanded in
    let l = c.pack-2.ensures t.l t.l_fits t.left_expanded in
    let whole_fits : t.r * 2 ^ 32 % 2 ^ 64 ≡ t.r * 2 ^ 32 = omega (arith, t.r_fits) in
    rw (r, l, whole_fits, xor_shifted t.r 32 t.l t.l_fits) t.leads
