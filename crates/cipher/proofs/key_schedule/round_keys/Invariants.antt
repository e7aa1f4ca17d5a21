use mathlib.Core.List.{◌++◌, map}
use mathlib.Core.Path.{◌≡◌}
use lib.ListN.{length, take, drop}
use Rattle.cipher.specs.Private.{places, from_windows}
use Rattle.cipher.specs.Schedule.{round_keys}
use Rattle.cipher.proofs.key_schedule.round_keys.Given as goal

abbrev pub invariant-loop-i : goal.invariant-loop-i
invariant-loop-i l = (length l.keys ≡ 16) × (take l.i l.keys ++ map (from_windows l.words) (drop l.i places) ≡ round_keys l.key)
