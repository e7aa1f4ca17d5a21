-- The terminal of double length (02, M-105; ANS X9.24-1): how its keys are derived. A key is two words; the low bits of its bytes count.
use Rattle.std.specs.Prelude.{List, ◌++◌, ℕ}
use Rattle.std.proofs.Common.{ap, ap₂}
use Rattle.std.proofs.Math.Logic.Dec
use Rattle.std.proofs.Math.Decide.{ℕ_discrete, map_dec}
use Rattle.std.specs.Int.Bits.{bit_xor}
use Rattle.lent.specs.Words.{left, right, word_bytes}
use Rattle.cipher.specs.Triple.{triple_encrypted}
use Rattle.registers.specs.Device.{Device}
use Rattle.host.specs.SingleLength as SingleLength
use Rattle.doublehost.specs.declared.keys.DoubleKey.{DoubleKey}

-- the key that sixteen bytes are, its bytes, and what an empty register holds
abbrev pub key_of : List ℕ → DoubleKey
key_of bytes = record { left = left bytes; right = right bytes }

abbrev pub key_bytes : DoubleKey → List ℕ
key_bytes key = word_bytes key.left ++ word_bytes key.right

abbrev pub no_key : DoubleKey
no_key = record { left = 0; right = 0 }

-- the mask, and a key with it exclusive-or'd into both halves
abbrev pub mask : ℕ
mask = 0xC0C0_C0C0_0000_0000

unfoldable pub masked : DoubleKey → DoubleKey
masked key = record { left = bit_xor key.left mask; right = bit_xor key.right mask }

-- triple DES of a block under the two halves of a key
abbrev pub tripled : DoubleKey → ℕ → ℕ
tripled key block = triple_encrypted key.left key.right block

-- the initial key: its left half is made under the derivation key, as for single length, its right half under the masked derivation key
unfoldable pub initial_pair : List ℕ → ℕ → DoubleKey
initial_pair derivation head = record { left = tripled (key_of derivation) head; right = tripled (masked (key_of derivation)) head }

-- 002's step under the left half, with the right half exclusive-or'd in and out
abbrev pub stepped : DoubleKey → ℕ → ℕ
stepped key block = SingleLength.step key.left key.right block

-- the one-way step: the right half comes from the unmasked key, the left from the masked one
unfoldable pub one_way : DoubleKey → ℕ → DoubleKey
one_way key block = record { left = stepped (masked key) block; right = stepped key block }

-- the key given out: the register key with FF exclusive-or'd into the last byte of each half
unfoldable pub given_out : DoubleKey → DoubleKey
given_out key = record { left = SingleLength.given_out key.left; right = SingleLength.given_out key.right }

-- keys of sixteen bytes
abbrev pub double_length : Device DoubleKey
double_length = record {
  size = 16;
  bytes = key_bytes;
  read = key_of;
  empty = no_key;
  empty? = λ key.
      map_dec (λ h. ap₂ (λ (l r : ℕ). record { left = l; right = r }) h.0 h.1)
      (λ e. (ap (λ (k : DoubleKey). k.left) e, ap (λ (k : DoubleKey). k.right) e))
      (Dec.and (ℕ_discrete key.left 0) (ℕ_discrete key.right 0));
  initial = initial_pair;
  one_way = one_way;
  variant = given_out;
}
