-- Laws on Y: its digits and its number.
use borrow.Author.Tests.{leb-true, leb-false, lt-ltb}
use mathlib.Core.Path.{◌≡◌, refl, sym, ap, ◌∙◌}
use mathlib.Core.Bool.{true}
use mathlib.Core.List.{List, ◌++◌, map}
use Prim.Native.Nat.{ℕ, ◌+◌, ◌-◌, ◌*◌, ◌/◌, ◌%◌, ◌^◌, ◌<◌, ◌≤◌}
use native.Mathlib.Nat.{zero-add, zero-mul, mod-eq_of_lt}
use native.Mathlib.Omega.{arith}
use lib.Arith.{digits_mod}
use lib.Dec.{leb, lit<}
use lib.ListN.{length, take, drop, replicate, length-replicate, take-append-drop}
use lib.Seq.{length-take-le}
use Rattle.lent.proofs.Parts.{from_append, from_zeros}
use Rattle.lent.proofs.HalfBytes.{half_byte, values_half_bytes, low_digits}
use Rattle.lent.proofs.Lists.{all_append, all_replicate, all_drop, elements_below}
use Rattle.lent.specs.Choice.{all}
use Rattle.lent.specs.Characters.{digit, digit_of, two_digits}
use Rattle.lent.specs.HalfBytes.{low_half, word_of}
use Rattle.lent.specs.Words.{from_base, to_base}
use Rattle.lent.proofs.Bases.{Digits, from_lt}
use Rattle.lent.proofs.Laws.{cases}
use Rattle.card.specs.Derivation.{card_digits, rightmost, derivation_word}

-- the digits of Y are half-bytes
half_bytes : (card : List ℕ) (sequence : ℕ) → all digit card ≡ true → Digits 16 (rightmost 16 (card_digits card sequence))
unfolding card_digits rightmost to_base
half_bytes card sequence e =
    let tens : sequence / 10 % 10 < 16 = omega arith in
    let units : sequence / 1 % 10 < 16 = omega arith in
    let s = card_digits card sequence in
    let all-half : all half_byte s ≡ true = rw (all_append half_byte, values_half_bytes card e, lt-ltb _ _ tens, lt-ltb _ _ units) in
    elements_below 16 (rightmost 16 s) (lit< tt)
    (rw (all_append half_byte, all_replicate half_byte (16 - length s) 0 refl, all_drop half_byte (length s - 16) s all-half))

-- ---- the number of the rightmost digits

module _ (b n : ℕ) (s : List ℕ) where
  -- of a number that is short, all
  short : length s ≤ n → from_base b n (rightmost n s) ≡ from_base b (length s) s
  unfolding rightmost
  short h =
      let zeros = replicate {A = ℕ} (n - length s) 0 in
      let e : n ≡ length zeros + length s = rw (length-replicate {A = ℕ} (n - length s) 0) (omega arith) in
      let z : length s - n ≡ 0 = omega arith in
      rw z
      (ap (λ (m : ℕ). from_base b m (zeros ++ s)) e
      ∙ from_append b zeros s (length s)
      ∙ rw (from_zeros b (length zeros) (n - length s), zero-mul, zero-add))

  -- of another, those after the first
  long : n < length s → from_base b (length s) s ≡ from_base b (length s - n) (take (length s - n) s) * b ^ n + from_base b n (rightmost n s)
  unfolding rightmost
  long h =
      let k = length s - n in
      let t : length (take k s) ≡ k = length-take-le k s (omega arith) in
      let e : length s ≡ length (take k s) + n = rw t (omega arith) in
      let z : n - length s ≡ 0 = omega arith in
      rw z
      (ap (λ (m : ℕ). from_base b m s) e
      ∙ ap (from_base b (length (take k s) + n)) (sym (take-append-drop k s))
      ∙ from_append b (take k s) (drop k s) n
      ∙ rw t)

  -- what is left of the number below the base to the power n
  rightmost_word : Digits b (rightmost n s) → from_base b n (rightmost n s) ≡ from_base b (length s) s % b ^ n
  rightmost_word d =
      let lt = from_lt b n (rightmost n s) d in
      cases (leb (length s) n)
      (λ h. rw (← short (leb-true _ _ h)) (sym (mod-eq_of_lt lt)))
      (λ h. rw (long (leb-false _ _ h)) (sym (digits_mod _ lt)))

-- Y is the word of the digits' half-bytes
pub derivation_value : (card : List ℕ) (sequence : ℕ) → all digit card ≡ true → derivation_word card sequence ≡ word_of (card_digits card sequence)
unfolding derivation_word word_of
derivation_value card sequence e = rightmost_word 16 16 (card_digits card sequence) (half_bytes card sequence e)

-- the low half-bytes of the digits of a sequence
low_two : (n : ℕ) → map low_half (two_digits n) ≡ to_base 10 2 n
unfolding to_base
low_two n =
    let tens : low_half (digit_of (n / 10 % 10)) ≡ n / 10 % 10 = omega arith in
    let units : low_half (digit_of (n / 1 % 10)) ≡ n / 1 % 10 = omega arith in
    rw (tens, units)

-- the card number's characters, then two of the sequence, by their low half-bytes
pub low_characters : (card : List ℕ) (sequence : ℕ) → all digit card ≡ true → map low_half card ++ map low_half (two_digits sequence) ≡ card_digits card sequence
unfolding card_digits
low_characters card sequence e = rw (low_digits card e, low_two sequence)
