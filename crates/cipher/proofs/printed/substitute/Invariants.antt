use mathlib.Core.Path.{◌≡◌}
use Prim.Native.Nat.{◌+◌, ◌-◌, ◌*◌, ◌^◌}
use lib.ListN.{drop}
use Rattle.cipher.specs.Bits.{number_in}
use Rattle.cipher.proofs.Merged.{fours, s_boxes}
use Rattle.cipher.proofs.printed.substitute.Given as goal

-- with the four bits of each box that is left, y is the whole
abbrev pub invariant-loop-i : goal.invariant-loop-i
invariant-loop-i l = l.y * 16 ^ (8 - l.i) + number_in 16 (fours (drop l.i s_boxes) l.x) ≡ number_in 16 (fours s_boxes l.x)
