use mathlib.Core.Path.{◌≡◌}
use lib.ListN.{length, take}
use Rattle.lent.specs.Private.{Appends}
use Rattle.recordbytes.specs.RecordBytes.{register_bytes}
use Rattle.terminalbytes.proofs.record.put_registers.Given as goal

abbrev pub invariant-loop-key : goal.invariant-loop-key
invariant-loop-key g l =
    (length l.bytes ≡ length l.initial.bytes) × Appends (register_bytes g.K.RegisterKey.device (take l.key-index l.keys)) l.initial.bytes l.bytes 0 l.n
