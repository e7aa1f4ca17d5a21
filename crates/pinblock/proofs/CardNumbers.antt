-- Laws on a card number's part of a block.
use mathlib.Core.Path.{◌≡◌}
use mathlib.Core.Bool.{true}
use mathlib.Core.List.{List, [], ◌∷◌, ◌++◌, map}
use Prim.Native.Nat.{ℕ, ◌+◌, ◌-◌, ◌^◌, ◌<◌, ◌≤◌}
use native.Mathlib.Omega.{arith}
use lib.ListN.{length, take, drop, replicate, length-append, length-drop, length-map}
use lib.Seq.{length-take-le, take_at, drop-append-le}
use Rattle.lent.specs.CardNumbers.{card_size}
use Rattle.lent.specs.Choice.{all}
use Rattle.lent.specs.Characters.{digit, digit_value}
use Rattle.lent.specs.HalfBytes.{low_half, word_of}
use Rattle.lent.proofs.Laws.{between_true}
use Rattle.lent.proofs.HalfBytes.{half_byte, values_half_bytes, low_digits}
use Rattle.lent.proofs.Lists.{all_take, all_drop}
use Rattle.pinblock.specs.CardNumber.{rightmost_twelve, card_half_bytes, card_part}
use Rattle.pinblock.proofs.HalfBytes.{word_lt, word_from_half_bytes}

pub card_long : (card : List ℕ) → card_size card ≡ true → 13 ≤ length card
card_long card h = (between_true 13 19 (length card) h).0

module _ (card : List ℕ) (h : card_size card ≡ true) (d : all digit card ≡ true) where
  twelve_digits : all digit (rightmost_twelve card) ≡ true
  twelve_digits = all_take digit 12 (drop (length card - 13) card) (all_drop digit (length card - 13) card d)

  card_length : length (card_half_bytes card) ≡ 16
  unfolding card_half_bytes
  card_length =
      let long = card_long card h in
      let twelve = length-take-le 12 (drop (length card - 13) card) (omega (arith, length-drop (length card - 13) card)) in
      omega (arith, length-map (rightmost_twelve card) digit_value)

  card_all_half_bytes : all half_byte (card_half_bytes card) ≡ true
  unfolding card_half_bytes
  card_all_half_bytes = values_half_bytes (rightmost_twelve card) twelve_digits

  pub card_part_lt : card_part card < 2 ^ 64
  unfolding card_part
  card_part_lt = word_lt (card_half_bytes card) card_length card_all_half_bytes

  -- the word of 0000 and the twelve characters from their first on
  pub card_word : (start : ℕ) → start ≡ length card - 13
      → word_of (replicate 4 0 ++ map low_half (take (start + 12 - start) (drop start card))) ≡ card_part card
  unfolding card_part card_half_bytes
  card_word start e =
      let count : start + 12 - start ≡ 12 = omega arith in
      rw (count, e, low_digits (rightmost_twelve card) twelve_digits) (word_from_half_bytes (card_half_bytes card) card_length card_all_half_bytes)

-- a card number's twelve digits, by what stands before its last
last_left_out : (before : List ℕ) (x : ℕ) → 12 ≤ length before → rightmost_twelve (before ++ x ∷ []) ≡ drop (length before - 12) before
last_left_out before x h =
    let n = length before - 12 in
    let start : length (before ++ x ∷ []) - 13 ≡ n = omega (arith, length-append before (x ∷ [])) in
    let short : n ≤ length before = omega arith in
    rw (start, drop-append-le n before (x ∷ []) short) (take_at (drop n before) (x ∷ []) 12 (omega (arith, length-drop n before)))

-- the last digit has no effect
pub last_digit : (before : List ℕ) (x y : ℕ) → 12 ≤ length before → card_part (before ++ x ∷ []) ≡ card_part (before ++ y ∷ [])
unfolding card_part card_half_bytes
last_digit before x y h = rw (last_left_out before x h, last_left_out before y h)
