-- Laws on half-bytes: those of a word, and the word of half-bytes.
use borrow.Author.Tests.{eqb-true}
use mathlib.Core.Path.{◌≡◌, refl, sym, ap, ◌∙◌}
use mathlib.Core.Bool.{Bool, true}
use mathlib.Core.List.{List, map}
use Prim.Native.Nat.{ℕ, suc, ◌+◌, ◌-◌, ◌*◌, ◌/◌, ◌%◌, ◌^◌, ◌<◌, ◌≤◌}
use native.Mathlib.Nat.{mod-eq_of_lt}
use native.Mathlib.Omega.{arith}
use lib.Dec.{eqb, lit<}
use lib.ListN.{length, get_or, take, drop, length-drop, length-map}
use lib.Seq.{length-take-le}
use Rattle.std.specs.List.{slice_range}
use Rattle.std.proofs.lemmas.List.{ext_get_or, get_or-map, get_or-take, get_or-drop, take-map, take-take}
use Rattle.lent.specs.Characters.{digit_of}
use Rattle.lent.specs.Choice.{all}
use Rattle.lent.specs.HalfBytes.{word_of}
use Rattle.lent.specs.Words.{from_base, to_base}
use Rattle.lent.proofs.Bases.{to_at, to_length, to_from, from_lt}
use Rattle.lent.proofs.Laws.{holds_from, holds_below}
use Rattle.lent.proofs.HalfBytes.{half_byte}
use Rattle.lent.proofs.Lists.{elements_below}
use Rattle.pinblock.specs.Reading.{candidate}

-- ---- the half-bytes of a word

-- the shift to a place, as a power of two and of sixteen
same_shift : ℕ → Bool
same_shift k = eqb (2 ^ (60 - 4 * k)) (16 ^ (16 - suc k))

shift_power : (k : ℕ) → k < 16 → 2 ^ (60 - 4 * k) ≡ 16 ^ (16 - suc k)
unfolding same_shift holds_from
shift_power k h = eqb-true _ _ (holds_below same_shift 16 refl k h)

pub half_byte_at : (x k : ℕ) → k < 16 → x / 2 ^ (60 - 4 * k) % 16 ≡ get_or (to_base 16 16 x) k 0
half_byte_at x k h = ap (λ (n : ℕ). x / n % 16) (shift_power k h) ∙ sym (to_at 16 16 x k h)

-- the text of the twelve half-bytes after a block's length
module _ (x : ℕ) where
  abbrev after_length : List ℕ
  after_length = take 12 (drop 2 (to_base 16 16 x))

  twelve_after : length after_length ≡ 12
  twelve_after = length-take-le 12 (drop 2 (to_base 16 16 x)) (omega (arith, length-drop 2 (to_base 16 16 x), to_length 16 16 x))

  pub text_length : length (map digit_of after_length) ≡ 12
  text_length = length-map after_length digit_of ∙ twelve_after

  pub text_from_half_bytes : (text : List ℕ) → length text ≡ 12 → ((i : ℕ) → i < 12 → get_or text i 0 ≡ digit_of (get_or (to_base 16 16 x) (2 + i) 0)) → text ≡ map digit_of after_length
  text_from_half_bytes text n at =
      ext_get_or 0 text (map digit_of after_length) (n ∙ sym text_length)
      (λ i h.
      let below : i < 12 = rw n at h in
      at i below ∙ sym (rw (get_or-map digit_of after_length i 0 0 (omega (arith, twelve_after)), get_or-take 12 (drop 2 (to_base 16 16 x)) i 0 below, get_or-drop 2 (to_base 16 16 x) i 0)))

  -- as many of its characters as the length says
  pub text_taken : (n : ℕ) → n ≤ 12 → n ≡ get_or (to_base 16 16 x) 1 0 → slice_range (map digit_of after_length) 0 n ≡ candidate (to_base 16 16 x)
  unfolding candidate
  text_taken n h e =
      let all : n - 0 ≡ n = omega arith in
      rw (all, take-map digit_of n after_length, take-take n 12 (drop 2 (to_base 16 16 x)) h, ← e)

-- ---- the word of half-bytes

-- Sixteen half-bytes are those of their word.
module _ (s : List ℕ) (n : length s ≡ 16) (h : all half_byte s ≡ true) where
  pub word_lt : from_base 16 16 s < 2 ^ 64
  word_lt = from_lt 16 16 s (elements_below 16 s (lit< tt) h)

  pub word_from_half_bytes : word_of s ≡ from_base 16 16 s
  unfolding word_of
  word_from_half_bytes = rw n (mod-eq_of_lt word_lt)

  pub half_bytes_of : to_base 16 16 (from_base 16 16 s) ≡ s
  half_bytes_of = to_from 16 16 s (elements_below 16 s (lit< tt) h) n
