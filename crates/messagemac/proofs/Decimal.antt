-- A number in decimal is what `console::decimal` writes.
use borrow.Author.Tests.{lt-ltb, le-ltb, leb-true, leb-false}
use mathlib.Core.Path.{◌≡◌}
use Prim.Native.Nat.{ℕ, zero, suc, ◌-◌, ◌*◌, ◌/◌, ◌%◌, ◌^◌, ◌≤◌, ◌<◌}
use native.Mathlib.Nat.{add_comm, one-le-pow, pow-suc, pow-le-pow_right, mod-eq_of_lt}
use native.Mathlib.Numerals.{unary_clauses}
use native.Mathlib.Omega.{arith}
use lib.Dec.{leb, ltb}
use lib.ListN.{length, length-append}
use Rattle.console.specs.Digits.{last_digits, IsDigitCount}
use Rattle.lent.proofs.Laws.{cases}
use Rattle.messagemac.specs.Output.{decimal_in, decimal}

digits_are : (k room n : ℕ) → IsDigitCount n k → k ≤ room → last_digits k n ≡ decimal_in room n
unfolding decimal_in
digits_are zero room n w h = absurd (omega (arith, w.0))
digits_are (suc k) zero n w h = absurd (omega arith)
digits_are (suc zero) (suc room) n w h =
    let small : n < 10 = w.1 in
    simp (lt-ltb n 10 small, mod-eq_of_lt small, add_comm 48 n)
digits_are (suc (suc k)) (suc room) n w h =
    let least : 10 ^ k * 10 ≤ n = simp unary_clauses at (w.2 (omega arith)) in
    let large : 10 ≤ n = omega (arith, least, one-le-pow k 10 (omega arith)) in
    let tenth : IsDigitCount (n / 10) (suc k) =
    (omega arith, omega (arith, w.1, pow-suc 10 (suc k)), λ o. simp unary_clauses (omega (arith, least))) in
    simp (le-ltb n 10 large, digits_are (suc k) room (n / 10) tenth (omega arith), add_comm 48 (n % 10))

-- 20 digits are enough for a number of 64 bits
fewest_short : (k n : ℕ) → IsDigitCount n k → n < 18446744073709551616 → k ≤ 20
fewest_short k n w h =
    cases (leb k 20) (λ t. leb-true k 20 t)
    (λ f.
    let long : 20 < k = leb-false k 20 f in
    let power : 10 ^ 20 ≤ 10 ^ (k - 1) = pow-le-pow_right (omega arith) {i = 20} {j = k - 1} (omega arith) in
    absurd (omega (arith, power, w.2 (omega arith))))

pub decimal_digits : (k n : ℕ) → IsDigitCount n k → n < 18446744073709551616 → last_digits k n ≡ decimal n
unfolding decimal
decimal_digits k n w h = digits_are k 20 n w (fewest_short k n w h)

within : (k n : ℕ) → length (decimal_in k n) ≤ k
unfolding decimal_in
within zero n = omega arith
within (suc k) n = cases (ltb n 10) (λ t. simp t (omega arith)) (λ f. simp (f, length-append) (omega (arith, within k (n / 10))))

-- a number takes at most 20 digits
pub decimal_short : (n : ℕ) → length (decimal n) ≤ 20
unfolding decimal
decimal_short n = within 20 n
