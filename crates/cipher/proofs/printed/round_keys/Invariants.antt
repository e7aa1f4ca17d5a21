use mathlib.Core.List.{◌++◌}
use mathlib.Core.Path.{◌≡◌}
use Prim.Native.Nat.{◌<◌, ◌^◌}
use lib.ListN.{length, take, drop}
use Rattle.cipher.specs.Schedule.{keys_from, round_keys}
use Rattle.cipher.specs.Tables.{left_shifts}
use Rattle.cipher.proofs.printed.round_keys.Given as goal

abbrev pub invariant-loop-i : goal.invariant-loop-i
invariant-loop-i l = record {
  c_fits : l.c < 2 ^ 28;
  d_fits : l.d < 2 ^ 28;
  size : length l.keys ≡ 16;
  so_far : take l.i l.keys ++ keys_from (drop l.i left_shifts) l.c l.d ≡ round_keys l.key;
}
