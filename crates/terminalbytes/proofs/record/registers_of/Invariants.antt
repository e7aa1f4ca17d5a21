use mathlib.Core.Path.{◌≡◌}
use mathlib.Core.List.{◌++◌}
use Prim.Native.Nat.{◌-◌, ◌*◌, ◌≤◌}
use lib.ListN.{length, take, drop}
use Rattle.recordbytes.specs.RecordBytes.{registers_of}
use Rattle.terminalbytes.proofs.record.registers_of.Given as goal

abbrev pub invariant-loop-i : goal.invariant-loop-i
invariant-loop-i g l =
    let device = g.K.RegisterKey.device in
    (length l.keys ≡ 21) × (take l.i l.keys ++ registers_of device (21 - l.i) (drop (device.size * l.i) l.bytes) ≡ registers_of device 21 l.bytes)
