-- The terminal of single length (01, Terminal keys; 002): how its keys are derived. A key is a word; the low bits of its bytes count.
use Rattle.std.specs.Prelude.{List, ℕ}
use Rattle.std.proofs.Math.Decide.{ℕ_discrete}
use Rattle.std.specs.Int.Bits.{bit_xor}
use Rattle.lent.specs.Words.{word, left, right, word_bytes}
use Rattle.cipher.specs.Des.{encrypted}
use Rattle.cipher.specs.Triple.{triple_encrypted}
use Rattle.registers.specs.Device.{Device}

-- 002's step: exclusive-or with `mixed`, encrypt under the key, exclusive-or with `mixed` again
unfoldable pub step : ℕ → ℕ → ℕ → ℕ
step key mixed block = bit_xor (encrypted key (bit_xor block mixed)) mixed

-- the one-way step: the key itself is exclusive-or'd in and out
unfoldable pub one_way : ℕ → ℕ → ℕ
one_way key block = step key key block

-- the initial key: triple DES, under the derivation key's 16 bytes, of the serial number's first eight bytes with the low five bits cleared
unfoldable pub initial_word : List ℕ → ℕ → ℕ
initial_word derivation head = triple_encrypted (left derivation) (right derivation) head

-- the key given out: the register key with FF exclusive-or'd into its last byte
unfoldable pub given_out : ℕ → ℕ
given_out key = bit_xor key 0xFF

-- keys of eight bytes; an empty register is zero
abbrev pub single_length : Device ℕ
single_length = record {
  size = 8;
  bytes = word_bytes;
  read = word;
  empty = 0;
  empty? = λ key. ℕ_discrete key 0;
  initial = initial_word;
  one_way = one_way;
  variant = given_out;
}
