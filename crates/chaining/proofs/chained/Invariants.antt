use mathlib.Core.Path.{◌≡◌}
use Prim.Native.Nat.{◌+◌, ◌*◌, ◌<◌}
use lib.ListN.{length, drop}
use Rattle.chaining.specs.Chain.{chained_to}
use Rattle.chaining.proofs.chained.Given as goal

abbrev pub invariant-loop-block : goal.invariant-loop-block
invariant-loop-block l = record {
  size : l.block-iterator.size ≡ 8;
  left : l.block-iterator.rest.now ≡ drop (8 * length l.yielded) l.s;
  begun : 8 * length l.yielded < length l.s + 8;
  so_far : l.h ≡ chained_to l.key l.s (length l.yielded);
}
