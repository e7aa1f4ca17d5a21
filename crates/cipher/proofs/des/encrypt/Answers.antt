use Rattle.cipher.specs.Des.{encrypted}
use Rattle.cipher.proofs.des.encrypt.Goals as goal

pub returns : goal.returns
unfolding encrypted
returns c = simp c.new.ensures at c.encrypt.ensures
