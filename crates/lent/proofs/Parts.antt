-- Laws on the number of digits that stand in two parts, or before zeros, and on words among other bytes.
use mathlib.Core.Path.{◌≡◌, refl, sym, ap, ◌∙◌}
use mathlib.Core.List.{List, ◌++◌}
use Prim.Native.Nat.{ℕ, zero, suc, ◌+◌, ◌*◌, ◌%◌, ◌^◌, ◌≤◌}
use native.Mathlib.Nat.{add-zero, add-suc, add_assoc, add-mul, mul-one, mul_assoc, zero-mul, pow-zero, pow-suc}
use native.Mathlib.Omega.{arith}
use lib.Dec.{lit<}
use lib.ListN.{length, take, drop, replicate, take-append-drop, get_or-append}
use lib.Seq.{get_or-append-add, length-take-le}
use Rattle.lent.specs.Words.{from_base, word, word_bytes}
use Rattle.lent.proofs.Bases.{Digits, digits_take, to_length, from_to, to_from}
use Rattle.lent.proofs.Lists.{zeros_at, zeros_after}

module _ (b : ℕ) where
  -- the first n digits, with others after them
  pub from_front : (n : ℕ) (s t : List ℕ) → n ≤ length s → from_base b n (s ++ t) ≡ from_base b n s
  unfolding from_base
  from_front zero s t h = refl
  from_front (suc n) s t h = rw (from_front n s t (omega arith), get_or-append s t 0 n h)

  -- digits with zeros after them
  pub from_zeros_after : (n : ℕ) (s : List ℕ) (k : ℕ) → from_base b n (s ++ replicate k 0) ≡ from_base b n s
  unfolding from_base
  from_zeros_after zero s k = refl
  from_zeros_after (suc n) s k = rw (from_zeros_after n s k, zeros_after s k n)

  -- zeros alone
  pub from_zeros : (n k : ℕ) → from_base b n (replicate k 0) ≡ zero
  unfolding from_base
  from_zeros zero k = refl
  from_zeros (suc n) k = rw (from_zeros n k, zeros_at k n, zero-mul b)

  -- digits in two parts, the second of n digits
  pub from_append : (s t : List ℕ) (n : ℕ) → from_base b (length s + n) (s ++ t) ≡ from_base b (length s) s * b ^ n + from_base b n t
  unfolding from_base
  from_append s t zero = rw (add-zero (length s), pow-zero b, mul-one, add-zero) (from_front (length s) s t (omega arith))
  from_append s t (suc n) =
      rw (add-suc (length s) n, from_append s t n, get_or-append-add s t n 0, pow-suc b n, add-mul, mul_assoc, add_assoc)

-- ---- words among other bytes

-- a word from its bytes, whatever stands after them
pub word_read : (x : ℕ) (rest : List ℕ) → word (word_bytes x ++ rest) ≡ x % 2 ^ 64
word_read x rest = from_front 256 8 (word_bytes x) rest (omega (arith, to_length 256 8 x)) ∙ from_to 256 (lit< tt) 8 x

-- the bytes of the word that bytes start with
pub word_reread : (s : List ℕ) → Digits 256 s → 8 ≤ length s → word_bytes (word s) ≡ take 8 s
word_reread s digits long =
    let eight = length-take-le 8 s long in
    let read : word s ≡ word (take 8 s) = ap word (sym (take-append-drop 8 s)) ∙ from_front 256 8 (take 8 s) (drop 8 s) (omega arith) in
    ap word_bytes read ∙ to_from 256 8 (take 8 s) (digits_take 256 8 s digits) eight
