-- Only contracts of private functions cite these: a key, and what it makes of a word.
use Rattle.std.specs.Prelude.{List, ℕ, eqb, length}
use Rattle.lent.specs.Choice.{pick}
use Rattle.lent.specs.Words.{left, right}
use Rattle.cipher.specs.Des.{encrypted, decrypted}
use Rattle.cipher.specs.Triple.{triple_encrypted, triple_decrypted}
use Rattle.keyed.specs.declared.Key.{Key}
use Rattle.keyed.specs.declared.Key.TheVariants.{Single, Double}

-- the key that 8 or 16 bytes stand for
abbrev pub key_of : List ℕ → Key
key_of bytes = pick (eqb (length bytes) 8) (Single (left bytes)) (Double (left bytes) (right bytes))

-- a word encrypted
abbrev pub encrypted_by : Key → ℕ → ℕ
encrypted_by (Single key) x = encrypted key x
encrypted_by (Double left right) x = triple_encrypted left right x

-- a word decrypted
abbrev pub decrypted_by : Key → ℕ → ℕ
decrypted_by (Single key) x = decrypted key x
decrypted_by (Double left right) x = triple_decrypted left right x
