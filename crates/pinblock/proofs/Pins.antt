-- Laws on the half-bytes and the block of a permitted PIN.
use borrow.Author.Tests.{lt-ltb}
use mathlib.Core.Path.{◌≡◌, refl, sym, ap, ◌∙◌}
use mathlib.Core.Bool.{true}
use mathlib.Core.List.{List, [], ◌∷◌, ◌++◌, map, map-map, map-id}
use Prim.Native.Nat.{ℕ, zero, suc, ◌+◌, ◌-◌, ◌^◌, ◌<◌, ◌≤◌}
use native.Mathlib.Nat.{zero-add, mod-eq_of_lt}
use native.Mathlib.Omega.{arith}
use lib.ListN.{length, take, replicate, length-append, length-map, length-replicate}
use lib.Seq.{take_at}
use Rattle.lent.specs.Choice.{all}
use Rattle.lent.specs.Characters.{digit, digit_value, digit_of}
use Rattle.lent.specs.HalfBytes.{low_half, word_of}
use Rattle.lent.specs.Words.{from_base, to_base}
use Rattle.lent.proofs.Laws.{both_true, between_true}
use Rattle.lent.proofs.HalfBytes.{half_byte, values_half_bytes, map_digits, low_digits}
use Rattle.lent.proofs.Lists.{all_append, all_replicate, take_replicate}
use Rattle.pinblock.specs.Pin.{pin_size, permitted, pin_half_bytes, pin_block}
use Rattle.pinblock.specs.Reading.{candidate}
use Rattle.pinblock.proofs.HalfBytes.{word_lt, word_from_half_bytes, half_bytes_of}

-- ---- digits and their values

digit_of_value : (s : List ℕ) → all digit s ≡ true → map digit_of (map digit_value s) ≡ s
digit_of_value s e = map-map digit_of digit_value s ∙ map_digits (λ x. x - 48 + 48) (λ x. x) (λ x h k. omega arith) s e ∙ map-id s

low_fill : (n : ℕ) → map low_half (replicate n 15) ≡ replicate n 15
low_fill zero = refl
low_fill (suc n) = rw (low_fill n)

-- ---- permitted PINs

module _ (pin : List ℕ) (h : permitted pin ≡ true) where
  pub pin_short : (4 ≤ length pin) × (length pin ≤ 12)
  pin_short = between_true 4 12 (length pin) (both_true (pin_size pin) _ h).0

  pin_digits : all digit pin ≡ true
  pin_digits = (both_true (pin_size pin) (all digit pin) h).1

  pin_length : length (pin_half_bytes pin) ≡ 16
  unfolding pin_half_bytes
  pin_length = simp (length-append, length-map, length-replicate) (omega (arith, pin_short))

  pin_all_half_bytes : all half_byte (pin_half_bytes pin) ≡ true
  unfolding pin_half_bytes
  pin_all_half_bytes =
      simp (lt-ltb (length pin) 16 (omega (arith, pin_short)))
      (rw (all_append half_byte (map digit_value pin) (replicate (14 - length pin) 15), values_half_bytes pin pin_digits)
      (all_replicate half_byte (14 - length pin) 15 refl))

  pub pin_block_lt : pin_block pin < 2 ^ 64
  unfolding pin_block
  pin_block_lt = word_lt (pin_half_bytes pin) pin_length pin_all_half_bytes

  -- the block's half-bytes: 0 and the length, the digits, F up to sixteen
  pub start_word : length pin ≡ word_of (0 ∷ length pin ∷ [])
  unfolding word_of from_base
  start_word = sym (rw (zero-add (length pin)) (mod-eq_of_lt (omega (arith, pin_short))))

  pub pin_word : word_of ((0 ∷ length pin ∷ [] ++ map low_half pin) ++ map low_half (take (14 - length pin) (replicate 10 15))) ≡ pin_block pin
  unfolding pin_block pin_half_bytes
  pin_word =
      rw (low_digits pin pin_digits, take_replicate (14 - length pin) 10 15 (omega (arith, pin_short)), low_fill (14 - length pin))
      (word_from_half_bytes (pin_half_bytes pin) pin_length pin_all_half_bytes)

  -- the block has the PIN's half-bytes, and the PIN stands in them
  pub pin_candidate : candidate (to_base 16 16 (pin_block pin)) ≡ pin
  unfolding candidate pin_block pin_half_bytes
  pin_candidate =
      rw (half_bytes_of (pin_half_bytes pin) pin_length pin_all_half_bytes)
      (ap (map digit_of) (take_at (map digit_value pin) (replicate (14 - length pin) 15) (length pin) (length-map pin digit_value))
      ∙ digit_of_value pin pin_digits)
