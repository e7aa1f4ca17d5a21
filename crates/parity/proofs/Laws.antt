-- Laws on odd parity: an adjusted key has it, agrees with the key but for low bits, and no other key does both.
use borrow.Author.Tests.{eqb-true, eqb-false, eq-eqb}
use mathlib.Core.Bool.{true}
use mathlib.Core.List.{List, [], ◌∷◌}
use mathlib.Core.Path.{◌≡◌, refl, sym, ap, ap₂, ◌∙◌}
use Prim.Native.Nat.{ℕ, zero, suc, ◌+◌, ◌-◌, ◌*◌, ◌/◌, ◌%◌, ◌<◌}
use native.Mathlib.Omega.{arith}
use lib.Bits.{bit_xor, differ, xor_step, xor_zero_r}
use lib.Count.{ones, ones_step}
use lib.ListN.{length, get_or, drop}
use Rattle.lent.proofs.Laws.{cases, both_true}
use Rattle.parity.specs.Parity.{odd_byte, odd_parity, adjusted_byte, adjusted, without_low_bits}

-- ---- of a byte

-- a byte with its low bit turned
turned : (b : ℕ) → bit_xor b 1 ≡ b / 2 * 2 + (1 - b % 2)
turned b = xor_step b 1 ∙ ap₂ (λ (x y : ℕ). x * 2 + y) (xor_zero_r (b / 2)) (low (b % 2) (omega arith))
  where
    low : (x : ℕ) → x < 2 → differ x 1 ≡ 1 - x
    low zero h = refl
    low (suc zero) h = refl
    low (suc (suc x)) h = absurd (omega arith)

adjusted_half : (b : ℕ) → adjusted_byte b / 2 ≡ b / 2
unfolding adjusted_byte
adjusted_half b = cases (odd_byte b) (λ e. rw e) (λ e. rw e (omega (arith, turned b)))

adjusted_odd : (b : ℕ) → odd_byte (adjusted_byte b) ≡ true
unfolding adjusted_byte
adjusted_odd b =
    let c = bit_xor b 1 in
    let half : c / 2 ≡ b / 2 = omega (arith, turned b) in
    cases (odd_byte b) (λ e. rw e e)
    (λ e. rw e (eq-eqb (ones c % 2) 1 (omega (arith, turned b, ones_step b, ones_step c, ap ones half, eqb-false (ones b % 2) 1 e))))

-- two bytes with odd parity that agree but for the low bit
one_odd : (b c : ℕ) → odd_byte b ≡ true → odd_byte c ≡ true → b / 2 ≡ c / 2 → b ≡ c
one_odd b c p q e = omega (arith, e, ap ones e, ones_step b, ones_step c, eqb-true (ones b % 2) 1 p, eqb-true (ones c % 2) 1 q)

-- ---- of a key

-- every byte of an adjusted key has an odd number of ones
pub adjusted_has_parity : (key : List ℕ) → odd_parity (adjusted key) ≡ true
unfolding adjusted
adjusted_has_parity [] = refl
adjusted_has_parity (b ∷ key) = rw (adjusted_odd b) (adjusted_has_parity key)

-- it agrees with the key but for low bits
pub low_bits_alone : (key : List ℕ) → without_low_bits (adjusted key) ≡ without_low_bits key
unfolding adjusted
low_bits_alone [] = refl
low_bits_alone (b ∷ key) = ap₂ (λ (x : ℕ) (s : List ℕ). x ∷ s) (adjusted_half b) (low_bits_alone key)

-- no other key does both
pub no_other : (key other : List ℕ) → odd_parity other ≡ true → without_low_bits other ≡ without_low_bits key → other ≡ adjusted key
unfolding adjusted
no_other [] [] p e = refl
no_other [] (c ∷ other) p e = absurd (omega (arith, ap length e))
no_other (b ∷ key) [] p e = absurd (omega (arith, ap length e))
no_other (b ∷ key) (c ∷ other) p e =
    let odd = both_true _ _ p in
    let half : c / 2 ≡ b / 2 = ap (λ (s : List ℕ). get_or s 0 0) e in
    ap₂ (λ (x : ℕ) (s : List ℕ). x ∷ s) (one_odd c (adjusted_byte b) odd.0 (adjusted_odd b) (half ∙ sym (adjusted_half b)))
    (no_other key other odd.1 (ap (drop 1) e))
