-- The serial number with its counter replaced (01, Terminal keys).
use mathlib.Core.Path.{◌≡◌, refl, ap}
use mathlib.Core.List.{List}
use Prim.Native.Nat.{ℕ, ◌+◌, ◌*◌, ◌/◌, ◌%◌, ◌^◌, ◌<◌}
use native.Mathlib.Omega.{arith}
use lib.ListN.{length, get_or, drop}
use Rattle.lent.specs.Words.{word, from_base}
use Rattle.registers.specs.SerialNumber.{counter_of, with_counter, cleared_tail, cleared_head}

-- the bits of the counter are clear in the last eight bytes without it
pub tail_clear : (serial : List ℕ) → cleared_tail serial % 2 ^ 21 ≡ 0
unfolding cleared_tail with_counter from_base
tail_clear serial = omega arith

-- replacing it again forgets the first
pub with_with : (c : ℕ) (serial : List ℕ) (d : ℕ) → with_counter (with_counter serial d) c ≡ with_counter serial c
unfolding with_counter
with_with c serial d =
    let high : (get_or serial 7 0 / 32 * 32 + d / 2 ^ 16 % 32) / 32 * 32 ≡ get_or serial 7 0 / 32 * 32 = omega arith in
    rw high

module _ (serial : List ℕ) (c : ℕ) where
  -- it has ten bytes, and the counter c
  pub length_with : length (with_counter serial c) ≡ 10
  unfolding with_counter
  length_with = refl

  pub counter_with : c < 2 ^ 21 → counter_of (with_counter serial c) ≡ c
  unfolding counter_of with_counter
  counter_with h = omega arith

  -- what is left without the counter does not look at it
  pub tail_with : cleared_tail (with_counter serial c) ≡ cleared_tail serial
  unfolding cleared_tail
  tail_with = ap (λ (s : List ℕ). word (drop 2 s)) (with_with 0 serial c)

  pub head_with : cleared_head (with_counter serial c) ≡ cleared_head serial
  unfolding cleared_head with_counter from_base
  head_with = omega arith
