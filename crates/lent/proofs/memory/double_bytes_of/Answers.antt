use Rattle.lent.specs.Words.{to_base}
use Rattle.lent.proofs.memory.double_bytes_of.Goals as goal

pub returns : goal.returns
unfolding to_base
returns c = rw (c.copy_from_slice.ensures.after, c.copy_from_slice-2.ensures.after, c.bytes_of.ensures, c.bytes_of-2.ensures)
