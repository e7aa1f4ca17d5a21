use Rattle.std.proofs.Common.{◌≡◌, length, take}
use Rattle.lent.specs.Private.{Appends}
use Rattle.keyentry.specs.Hexadecimal.{text_of}
use Rattle.keyentry.proofs.encoding.put_text.Given as goal

abbrev pub invariant-loop-b : goal.invariant-loop-b
invariant-loop-b l = (length l.out ≡ length l.initial.out) × Appends (text_of 65 (take l.b-index l.bytes)) l.initial.out l.out l.n l.end
