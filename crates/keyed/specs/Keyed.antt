-- The block cipher under the bytes of a key (01, The job and its edge; PIN blocks): DES under 8, triple DES under 16.
use Rattle.std.specs.Prelude.{Bool, List, ℕ, eqb, length}
use Rattle.lent.specs.Choice.{pick}
use Rattle.lent.specs.Keys.{key_sizes}
use Rattle.lent.specs.Refusals.{size}
use Rattle.lent.specs.Result.{Result, done, require}
use Rattle.lent.specs.Words.{word, left, right, word_bytes}
use Rattle.cipher.specs.Des.{encrypted, decrypted}
use Rattle.cipher.specs.Triple.{triple_encrypted, triple_decrypted}

-- a key has 8 or 16 bytes
abbrev pub key_size : List ℕ → Bool
key_size key = key_sizes (length key)

-- a block has 8 bytes
abbrev pub block_size : List ℕ → Bool
block_size block = eqb (length block) 8

-- a word encrypted under a key
unfoldable pub encrypted_under : List ℕ → ℕ → ℕ
encrypted_under key x = pick (eqb (length key) 8) (encrypted (left key) x) (triple_encrypted (left key) (right key) x)

-- a word decrypted under a key
unfoldable pub decrypted_under : List ℕ → ℕ → ℕ
decrypted_under key x = pick (eqb (length key) 8) (decrypted (left key) x) (triple_decrypted (left key) (right key) x)

-- a block whose word is changed under a key: 6 if one of them has another size
unfoldable pub changed_block : (List ℕ → ℕ → ℕ) → List ℕ → List ℕ → Result (List ℕ)
changed_block change key block =
    require (block_size block) size
    (require (key_size key) size
    (done (word_bytes (change key (word block)))))

-- a block encrypted under a key
abbrev pub encrypt_block : List ℕ → List ℕ → Result (List ℕ)
encrypt_block = changed_block encrypted_under

-- a block decrypted under a key
abbrev pub decrypt_block : List ℕ → List ℕ → Result (List ℕ)
decrypt_block = changed_block decrypted_under
