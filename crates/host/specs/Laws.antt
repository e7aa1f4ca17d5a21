-- The law of keys of eight bytes, so that demand 3 holds of the single-length terminal; and a step gives a word.
use mathlib.Core.Path.{◌∙◌}
use mathlib.Core.List.{[]}
use Prim.Native.Nat.{ℕ, ◌^◌, ◌<◌}
use native.Mathlib.Nat.{mod-eq_of_lt}
use native.Mathlib.Omega.{arith}
use lib.Bits.{xor_lt}
use lib.Dec.{lit<}
use Rattle.lent.specs.Words.{left, right}
use Rattle.lent.proofs.Bases.{to_length, from_lt}
use Rattle.lent.proofs.Parts.{word_read, word_reread}
use Rattle.cipher.proofs.Laws.{encrypted_lt, triple_encrypted_lt}
use Rattle.registers.proofs.Laws.{ReadBack, Lawful}
use Rattle.host.specs.SingleLength.{step, one_way, initial_word, single_length}

-- a key is read back from its bytes exactly if it is a word
back : {x : ℕ} → x < 2 ^ 64 → ReadBack single_length x
back {x} h rest = word_read x rest ∙ mod-eq_of_lt h

below : (x : ℕ) → ReadBack single_length x → x < 2 ^ 64
below x b = omega (arith, word_read x [], b [])

-- a step gives a word
pub step_lt : (key mixed block : ℕ) → mixed < 2 ^ 64 → step key mixed block < 2 ^ 64
unfolding step
step_lt key mixed block h = xor_lt 64 _ mixed (encrypted_lt key _) h

pub lawful : Lawful single_length
unfolding one_way initial_word
lawful = record {
  sized = to_length 256 8;
  empty_back = back (lit< tt);
  initial_back = λ derivation head. back (triple_encrypted_lt (left derivation) (right derivation) head);
  step_back = λ key x b. back (step_lt key key x (below key b));
  read_back = λ s digits. back (from_lt 256 8 s digits);
  bytes_back = word_reread;
}
