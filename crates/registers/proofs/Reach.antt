-- Which numbers lie under the filled registers when the counter c is next: under register b those that have a one bit there, where c - 1 has
-- none, and agree with c - 1 above it.
use mathlib.Core.Path.{◌≡◌, refl, sym, ap, ◌∙◌, subst}
use mathlib.Core.Logic.{◌↔◌, by_cases}
use mathlib.Core.Bool.{false}
use Prim.Native.Nat.{ℕ, zero, suc, ◌+◌, ◌-◌, ◌*◌, ◌/◌, ◌%◌, ◌^◌, ◌≤◌, ◌<◌}
use native.Mathlib.Nat.{not-suc-le-zero, zero-lt-suc, pow-suc, mul_assoc, mul-one, div-one}
use native.Mathlib.Decide.{dec_le, dec_lt}
use native.Mathlib.Omega.{arith}
use lib.Pow.{shl-shr, shr_mono}
use lib.Count.{count_trailing_zeros}
use Rattle.registers.specs.Counters.{bit, Permitted, lowest_place}
use Rattle.registers.specs.Device.{Device}
use Rattle.registers.specs.Machine.{State}
use Rattle.registers.specs.Rule.{Filled, label, Fills, Valid}
use Rattle.registers.specs.Deciding.{fills?}
use Rattle.registers.specs.Reach.{Under, UnderFilled, UnderOne}
use Rattle.registers.proofs.Bits.{shr_on, shr_suc, shr_half, bit_suc}
use Rattle.registers.proofs.Places.{Says, is_filled, is_bare, says, label_odd}
use Rattle.registers.proofs.Validity.{runs_counted}

-- ---- the lowest one bit of register b's label is bit b

-- an odd number with b zeros below, in k bits
trailing_odd : (k b u : ℕ) → b < k → count_trailing_zeros k ((u * 2 + 1) * 2 ^ b) ≡ b
unfolding count_trailing_zeros
trailing_odd zero b u h = absurd (not-suc-le-zero h)
trailing_odd (suc k) zero u h =
    let odd : (u * 2 + 1) * 2 ^ 0 % 2 ≡ 1 = omega (arith, mul-one (u * 2 + 1)) in
    rw odd refl
trailing_odd (suc k) (suc b) u h =
    let n = (u * 2 + 1) * 2 ^ suc b in
    let twice : n ≡ (u * 2 + 1) * 2 ^ b * 2 = ap (λ (y : ℕ). (u * 2 + 1) * y) (pow-suc 2 b) ∙ sym (mul_assoc (u * 2 + 1) (2 ^ b) 2) in
    let even : n % 2 ≡ 0 = omega arith in
    let half : n / 2 ≡ (u * 2 + 1) * 2 ^ b = omega arith in
    rw (even, half) (ap suc (trailing_odd k b u (omega arith)))

pub label_place : (c b : ℕ) → b < 21 → lowest_place (label c b) ≡ b
label_place c b h = ap (count_trailing_zeros 32) (label_odd c b) ∙ trailing_odd 32 b (c / 2 ^ suc b) (omega arith)

-- so the numbers under it are those with the label's bits from bit b up
under_bits : (x c b : ℕ) → b < 21 → Under x (label c b) ↔ (x / 2 ^ b ≡ c / 2 ^ suc b * 2 + 1)
under_bits x c b h =
    rw (label_place c b h) (
      λ e. omega (arith, shl-shr (x / 2 ^ b) b, ap (λ (y : ℕ). y / 2 ^ b) (e ∙ label_odd c b), shl-shr (c / 2 ^ suc b * 2 + 1) b),
      λ e. omega (arith, ap (λ (y : ℕ). y * 2 ^ b) e, label_odd c b),
    )

-- ---- the highest bit in which two numbers differ

-- from bit b on x is one more than p, which has a 0 there
abbrev Above : ℕ → ℕ → ℕ → Type 0
Above p x b = (bit p b ≡ 0) × (x / 2 ^ b ≡ suc (p / 2 ^ b))

-- a larger number has such a bit
differ : (n p x : ℕ) → p < x → x < 2 ^ n → (b : ℕ) × (b < n) × Above p x b
differ zero p x h l = absurd (omega arith)
differ (suc n) p x h l =
    by_cases (dec_lt (p / 2) (x / 2))
    (λ q.
    let (b, k, (z, e)) = differ n (p / 2) (x / 2) q (omega (arith, pow-suc 2 n)) in
    (suc b, omega arith, (bit_suc p b ∙ z, shr_half x b ∙ e ∙ ap suc (sym (shr_half p b)))))
    (λ q. (0, zero-lt-suc n, (omega (arith, div-one p), omega (arith, div-one p, div-one x))))

-- and only one, since above it they agree
apart : (p x b d : ℕ) → Above p x b → Above p x d → ¬ (b < d)
apart p x b d (z, e) (y, f) h =
    let agree : x / 2 ^ suc b ≡ p / 2 ^ suc b = omega (arith, shr_suc x b, shr_suc p b) in
    omega (arith, shr_on x (suc b) d h, ap (λ (y : ℕ). y / 2 ^ (d - suc b)) agree, shr_on p (suc b) d h)

one_bit : (p x b d : ℕ) → Above p x b → Above p x d → b ≡ d
one_bit p x b d r q =
    by_cases (dec_lt b d) (λ h. absurd (apart p x b d r q h)) (λ h. by_cases (dec_lt d b) (λ k. absurd (apart p x d b q r k)) (λ k. omega arith))

-- ---- with the next counter c

-- register b is filled, and x lies under it, exactly if b is the highest bit in which c - 1 and x differ, and x has it
filled_above : (c : ℕ) → Permitted c → (x b : ℕ) → b < 21 → (Filled c b × Under x (label c b)) ↔ Above (c - 1) x b
filled_above c ok x b h = go (says c ok.from_one ok.fits b)
  where
    go : Says c b → (Filled c b × Under x (label c b)) ↔ Above (c - 1) x b
    go (is_bare f e) = (λ (g, u). absurd (f g), λ (z, up). absurd (omega arith))
    go (is_filled f e t) = (
      λ (g, u). (e, omega (arith, (under_bits x (c - 1) b h).0 (subst (Under x) t u), shr_suc (c - 1) b)),
      λ (z, up). (f, subst (Under x) (sym t) ((under_bits x (c - 1) b h).1 (omega (arith, shr_suc (c - 1) b)))),
    )

-- ---- of a state that hangs together

module _ {K : Type 0} (device : Device K) (s : State K) (valid : Valid device s) where
  -- the rule fills the register
  pub under_fills : (x b : ℕ) → UnderFilled s x b → Fills device s b
  under_fills x b lies =
      by_cases (fills? device s b) (λ f. f) (λ f. absurd (omega (arith, lies.filled, (valid.bare b lies.register f).unfilled)))

  under_above : (x b : ℕ) → UnderFilled s x b → Above (s.counter - 1) x b
  under_above x b lies =
      let (runs, f) = under_fills x b lies in
      (filled_above s.counter (runs_counted valid.counted runs) x b lies.register).0 (f, lies.under)

  -- where a number lies under a filled register, there is a next counter, and the number is not below it
  pub under_later : (x b : ℕ) → UnderFilled s x b → (s.exhausted ≡ false) × (s.counter ≤ x)
  under_later x b lies = (
    (under_fills x b lies).0,
    by_cases (dec_le s.counter x) (λ h. h)
        (λ h. absurd (omega (arith, (under_above x b lies).1, shr_mono {a = x} {b = s.counter - 1} b (omega arith)))),
  )

  -- and each number from the next counter on lies under exactly one
  pub later_under : (x : ℕ) → s.exhausted ≡ false → s.counter ≤ x → x < 2 ^ 21 → UnderOne s x
  later_under x runs h l =
      let ok = runs_counted valid.counted runs in
      let (b, k, e) = differ 21 (s.counter - 1) x (omega (arith, ok.from_one)) l in
      let (f, u) = (filled_above s.counter ok x b k).1 e in
      record {
        register = b;
        lies = record { register = k; filled = valid.full b k (runs, f); under = u };
        only = λ d lies. one_bit (s.counter - 1) x d b (under_above x d lies) e;
      }
