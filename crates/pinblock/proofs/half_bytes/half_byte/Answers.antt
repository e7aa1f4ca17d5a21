use native.Mathlib.Nat.{mod-lt}
use lib.Dec.{lit<}
use Rattle.pinblock.proofs.HalfBytes.{half_byte_at}
use Rattle.pinblock.proofs.half_bytes.half_byte.Goals as goal

pub returns : goal.returns
returns c = (half_byte_at _ _ c.requires, mod-lt _ (lit< tt))
