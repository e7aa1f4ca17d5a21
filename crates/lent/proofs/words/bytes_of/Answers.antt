use Rattle.std.proofs.Common.{div-one}
use Rattle.lent.specs.Words.{to_base}
use Rattle.lent.proofs.words.bytes_of.Goals as goal

pub returns : goal.returns
unfolding to_base
returns c = rw div-one c.to_be_bytes.ensures
