-- What callers cite: under a key, decrypting undoes encrypting and encrypting undoes decrypting.
use mathlib.Core.Path.{◌≡◌}
use mathlib.Core.Bool.{Bool, true, false}
use mathlib.Core.List.{List}
use Prim.Native.Nat.{ℕ, ◌^◌, ◌<◌}
use lib.Dec.{eqb}
use lib.ListN.{length}
use Rattle.lent.specs.Choice.{pick}
use Rattle.lent.specs.Words.{left, right}
use Rattle.cipher.specs.Des.{encrypted, decrypted}
use Rattle.cipher.specs.Triple.{triple_encrypted, triple_decrypted}
use Rattle.cipher.proofs.Laws.{encrypted_lt, decrypted_lt, decrypt_encrypt, encrypt_decrypt, triple_encrypted_lt, triple_decrypted_lt, triple_decrypt_encrypt, triple_encrypt_decrypt}
use Rattle.keyed.specs.Keyed.{encrypted_under, decrypted_under}

-- Two changes of words of 64 bits that undo each other.
pub record Inverse (forth back : ℕ → ℕ) : Type 0 where
  pub forth_lt : (x : ℕ) → x < 2 ^ 64 → forth x < 2 ^ 64
  pub back_lt : (x : ℕ) → x < 2 ^ 64 → back x < 2 ^ 64
  pub back_forth : (x : ℕ) → x < 2 ^ 64 → back (forth x) ≡ x
  pub forth_back : (x : ℕ) → x < 2 ^ 64 → forth (back x) ≡ x

-- under a key, whether it has 8 bytes
by_size : (single : Bool) (left right : ℕ)
    → Inverse (λ x. pick single (encrypted left x) (triple_encrypted left right x)) (λ x. pick single (decrypted left x) (triple_decrypted left right x))
by_size true left right =
    record {
      forth_lt = λ x h. encrypted_lt left x;
      back_lt = λ x h. decrypted_lt left x;
      back_forth = decrypt_encrypt left;
      forth_back = encrypt_decrypt left;
    }
by_size false left right =
    record {
      forth_lt = λ x h. triple_encrypted_lt left right x;
      back_lt = λ x h. triple_decrypted_lt left right x;
      back_forth = triple_decrypt_encrypt left right;
      forth_back = triple_encrypt_decrypt left right;
    }

pub decrypt_undoes_encrypt : (key : List ℕ) → Inverse (encrypted_under key) (decrypted_under key)
unfolding encrypted_under decrypted_under
decrypt_undoes_encrypt key = by_size (eqb (length key) 8) (left key) (right key)
