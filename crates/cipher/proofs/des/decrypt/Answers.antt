use Rattle.cipher.specs.Des.{decrypted}
use Rattle.cipher.proofs.des.decrypt.Goals as goal

pub returns : goal.returns
unfolding decrypted
returns c = simp c.new.ensures at c.decrypt.ensures
