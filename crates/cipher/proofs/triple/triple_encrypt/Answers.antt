use Rattle.cipher.specs.Des.{encrypted, decrypted}
use Rattle.cipher.specs.Triple.{triple_encrypted}
use Rattle.cipher.proofs.triple.triple_encrypt.Goals as goal

pub returns : goal.returns
unfolding encrypted decrypted triple_encrypted
returns c =
    simp (c.decrypt.ensures, c.encrypt.ensures, c.new-inner.ensures, c.new-outer.ensures) at c.encrypt-2.ensures
