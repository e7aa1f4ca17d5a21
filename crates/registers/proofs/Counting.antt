-- Counting the numbers that pass a test, and the n-th of them.
use mathlib.Core.Path.{◌≡◌, refl, ◌∙◌}
use mathlib.Core.Logic.{by_cases}
use mathlib.Core.Bool.{Bool, true, false}
use Prim.Native.Nat.{ℕ, zero, suc, ◌≤◌, ◌<◌}
use native.Mathlib.Nat.{not-suc-le-zero, add-zero, le_refl}
use native.Mathlib.Decide.{dec_le, dec_lt, le_ind}
use native.Mathlib.Numerals.{add-one}
use native.Mathlib.Omega.{arith}
use Rattle.lent.proofs.Laws.{cases}
use Rattle.registers.specs.Counters.{count_to}

module _ (test : ℕ → Bool) where
  -- a number that passes is counted, any other is not
  pub count_hit : (x : ℕ) → test (suc x) ≡ true → count_to test (suc x) ≡ suc (count_to test x)
  unfolding count_to
  count_hit x e = rw e (add-one (count_to test x))

  pub count_miss : (x : ℕ) → test (suc x) ≡ false → count_to test (suc x) ≡ count_to test x
  unfolding count_to
  count_miss x e = rw e (add-zero (count_to test x))

  -- where none passes after a and up to b, the count stays
  pub count_gap : (a b : ℕ) → a ≤ b → ((x : ℕ) → a < x → x ≤ b → test x ≡ false) → count_to test b ≡ count_to test a
  count_gap a = le_ind (λ (b : ℕ). ((x : ℕ) → a < x → x ≤ b → test x ≡ false) → count_to test b ≡ count_to test a) (λ none. refl)
      (λ b h ih none. count_miss b (none (suc b) (omega arith) (le_refl (suc b))) ∙ ih (λ x p q. none x p (omega arith)))

  -- the count never falls
  pub count_mono : (a b : ℕ) → a ≤ b → count_to test a ≤ count_to test b
  unfolding count_to
  count_mono a = le_ind (λ (b : ℕ). count_to test a ≤ count_to test b) (le_refl (count_to test a)) (λ b h ih. omega arith)

  -- any number below one that passes has a lower count
  pub count_lt : (a b : ℕ) → a < b → test b ≡ true → count_to test a < count_to test b
  count_lt a zero h e = absurd (not-suc-le-zero h)
  count_lt a (suc b) h e = omega (arith, count_hit b e, count_mono a b (omega arith))

  -- at most one number that passes has the count n
  pub count_unique : (c d : ℕ) → test c ≡ true → test d ≡ true → count_to test c ≡ count_to test d → c ≡ d
  count_unique c d x y e =
      by_cases (dec_lt c d) (λ h. absurd (omega (arith, count_lt c d h y)))
      (λ h. by_cases (dec_lt d c) (λ q. absurd (omega (arith, count_lt d c q x))) (λ q. omega arith))

  -- the count grows by ones, so it comes by each number
  pub some_counted : (x n : ℕ) → 1 ≤ n → n ≤ count_to test x → (c : ℕ) × (test c ≡ true) × (count_to test c ≡ n)
  unfolding count_to
  some_counted zero n p q = absurd (omega arith)
  some_counted (suc x) n p q =
      by_cases (dec_le n (count_to test x)) (λ h. some_counted x n p h)
      (λ h. cases (test (suc x)) (λ e. (suc x, e, omega (arith, count_hit x e))) (λ e. absurd (omega (arith, count_miss x e))))
