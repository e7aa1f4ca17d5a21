use mathlib.Core.Path.{◌≡◌, sym}
use Prim.Native.Nat.{◌+◌, ◌^◌}
use native.Mathlib.Omega.{arith}
use Rattle.registers.specs.Machine.{stepped}
use Rattle.registers.proofs.Laws.{bit_moved, fill_none, fill_turn}
use Rattle.terminal.proofs.filling.filled_from.Goals as goal

pub loop-b-init : goal.loop-b-init
loop-b-init g c = sym (fill_none _ _)

pub loop-b-preserved : goal.loop-b-preserved
loop-b-preserved g c =
    let a = c.args in
    let l = c.loop-b in
    let device = g.K.RegisterKey.device in
    let bit = bit_moved l.b a.n a.c (omega arith) c.requires.n_bound c.requires.counter_bound in
    let bits : c.with_bits.result ≡ a.tail.word + (a.c + 2 ^ l.b) = omega (arith, c.with_bits.ensures, bit) in
    fill_turn l.b (stepped device a.key a.tail.word a.c) _ _ _ l.invariant (rw bits at c.one_way.ensures)
