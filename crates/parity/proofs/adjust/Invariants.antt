use mathlib.Core.List.{◌++◌}
use mathlib.Core.Path.{◌≡◌}
use lib.ListN.{take, drop}
use Rattle.parity.specs.Parity.{adjusted}
use Rattle.parity.proofs.adjust.Given as goal

-- the first bytes are adjusted, and with the others adjusted too they are the whole key
abbrev pub invariant-loop-b : goal.invariant-loop-b
invariant-loop-b l = take l.b-index l.key ++ adjusted (drop l.b-index l.key) ≡ adjusted l.initial.key
