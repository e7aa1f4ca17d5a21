use mathlib.Core.Path.{◌≡◌}
use lib.ListN.{take}
use Rattle.cipher.specs.Bits.{permuted}
use Rattle.cipher.proofs.bits.permute.Given as goal

abbrev pub invariant-loop-i : goal.invariant-loop-i
invariant-loop-i l = l.r ≡ permuted l.width (take l.i-index l.table) l.x
