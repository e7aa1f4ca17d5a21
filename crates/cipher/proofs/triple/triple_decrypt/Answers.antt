use Rattle.cipher.specs.Des.{encrypted, decrypted}
use Rattle.cipher.specs.Triple.{triple_decrypted}
use Rattle.cipher.proofs.triple.triple_decrypt.Goals as goal

pub returns : goal.returns
unfolding encrypted decrypted triple_decrypted
returns c =
    simp (c.encrypt.ensures, c.decrypt.ensures, c.new-inner.ensures, c.new-outer.ensures) at c.decrypt-2.ensures
