-- The law of keys of sixteen bytes, so that demand 3 holds of the double-length terminal; and the left half of the initial key is the
-- single-length one.
use mathlib.Core.Path.{◌≡◌, refl, sym, ap, ap₂, ◌∙◌}
use mathlib.Core.List.{List, [], ◌++◌, append_assoc}
use Prim.Native.Nat.{ℕ, ◌%◌, ◌^◌, ◌≤◌, ◌<◌}
use native.Mathlib.Nat.{mod-eq_of_lt}
use native.Mathlib.Omega.{arith}
use lib.Bits.{xor_lt}
use lib.Dec.{lit<}
use lib.ListN.{length, take, drop, length-append, length-drop}
use lib.Seq.{take-add, drop_at}
use Rattle.lent.specs.Words.{left, right, word, word_bytes}
use Rattle.lent.proofs.Bases.{Digits, digits_drop, to_length, from_lt}
use Rattle.lent.proofs.Parts.{word_read, word_reread}
use Rattle.cipher.proofs.Laws.{triple_encrypted_lt}
use Rattle.registers.proofs.Laws.{ReadBack, Lawful}
use Rattle.host.specs.SingleLength.{initial_word}
use Rattle.host.proofs.Laws.{step_lt}
use Rattle.doublehost.specs.DoubleLength.{key_bytes, key_of, mask, masked, initial_pair, one_way, double_length}
use Rattle.doublehost.specs.declared.keys.DoubleKey.{DoubleKey}

-- the halves that are read from a key's bytes
left_read : (key : DoubleKey) (rest : List ℕ) → left (key_bytes key ++ rest) ≡ key.left % 2 ^ 64
left_read key rest = ap word (append_assoc (word_bytes key.left) (word_bytes key.right) rest) ∙ word_read key.left _

right_read : (key : DoubleKey) (rest : List ℕ) → right (key_bytes key ++ rest) ≡ key.right % 2 ^ 64
right_read key rest =
    ap right (append_assoc (word_bytes key.left) (word_bytes key.right) rest)
    ∙ ap word (drop_at (word_bytes key.left) (word_bytes key.right ++ rest) 8 (to_length 256 8 key.left))
    ∙ word_read key.right rest

-- a key is read back from its bytes exactly if its halves are words
back : {key : DoubleKey} → key.left < 2 ^ 64 → key.right < 2 ^ 64 → ReadBack double_length key
back {key} l r rest =
    ap₂ (λ (x y : ℕ). record { left = x; right = y }) (left_read key rest ∙ mod-eq_of_lt l) (right_read key rest ∙ mod-eq_of_lt r)

right_below : (key : DoubleKey) → ReadBack double_length key → key.right < 2 ^ 64
right_below key b = omega (arith, right_read key [], ap (λ (k : DoubleKey). k.right) (b []))

-- the mask keeps words
masked_right : (key : DoubleKey) → key.right < 2 ^ 64 → (masked key).right < 2 ^ 64
unfolding masked
masked_right key h = xor_lt 64 key.right mask h (lit< tt)

-- the bytes of the key that bytes start with
reread : (s : List ℕ) → Digits 256 s → 16 ≤ length s → key_bytes (key_of s) ≡ take 16 s
reread s d h =
    ap₂ (λ (a b : List ℕ). a ++ b) (word_reread s d (omega arith)) (word_reread (drop 8 s) (digits_drop 256 8 s d) (rw length-drop (omega arith)))
    ∙ sym (take-add 8 8 s)

-- the left half of the initial key is the initial key of a single-length terminal
pub left_single : (derivation : List ℕ) (head : ℕ) → (initial_pair derivation head).left ≡ initial_word derivation head
unfolding initial_pair initial_word
left_single derivation head = refl

pub lawful : Lawful double_length
unfolding one_way initial_pair
lawful = record {
  sized = λ key. rw (length-append, to_length 256 8 key.left, to_length 256 8 key.right);
  empty_back = back (lit< tt) (lit< tt);
  initial_back = λ derivation head. back (triple_encrypted_lt _ _ head) (triple_encrypted_lt _ _ head);
  step_back = λ key x b. let h = right_below key b in back (step_lt _ _ x (masked_right key h)) (step_lt _ _ x h);
  read_back = λ s d. back (from_lt 256 8 s d) (from_lt 256 8 (drop 8 s) (digits_drop 256 8 s d));
  bytes_back = reread;
}
