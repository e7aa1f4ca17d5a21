-- Register keys from one another: that of a counter with one more bit, below all its others, is one step from the counter's, and that of any
-- counter some steps from that of its highest bits.
use mathlib.Core.Path.{◌≡◌, refl, sym, ap, ◌∙◌, subst}
use mathlib.Core.Logic.{◌⊎◌, inl, inr}
use Prim.Native.Nat.{ℕ, zero, suc, ◌+◌, ◌-◌, ◌*◌, ◌/◌, ◌%◌, ◌^◌, ◌≤◌, ◌<◌}
use native.Mathlib.Nat.{le_of_suc-le-suc, eq-or-lt_of_le, not-suc-le-zero, mul-div_cancel, add-zero, add-mul, one-mul, zero-mul}
use native.Mathlib.Decide.{le_ind}
use native.Mathlib.Omega.{arith}
use lib.Dec.{eqb, lit<}
use lib.Pow.{pow_pos, shl-shr}
use Rattle.lent.specs.Choice.{pick}
use Rattle.registers.specs.Counters.{bits_from}
use Rattle.registers.specs.RegisterKey.{derive, register_key}
use Rattle.registers.proofs.Bits.{shr_on, above_place, twice}

module _ {K : Type 0} (F : K → ℕ → K) (tail : ℕ) where
  -- a multiple of 2 ^ b: nothing is left to do below place b
  derive_at : (b z : ℕ) (k : K) → ((j : K) → derive F tail b j (z * 2 ^ b) ≡ j)
      → derive F tail (suc b) k (z * 2 ^ b) ≡ pick (eqb (z % 2) 1) (F k (tail + z * 2 ^ b)) k
  unfolding derive
  derive_at b z k rest = rest _ ∙ ap (λ (x : ℕ). pick (eqb (x % 2) 1) (F k (tail + x * 2 ^ b)) k) (mul-div_cancel z (pow_pos b))

  derive_rest : (b y : ℕ) (k : K) → derive F tail b k (y * 2 ^ b) ≡ k
  unfolding derive
  derive_rest zero y k = refl
  derive_rest (suc b) y k =
      let even : y * 2 % 2 ≡ 0 = omega arith in
      ap (derive F tail (suc b) k) (twice y b) ∙ derive_at b (y * 2) k (λ j. derive_rest b (y * 2) j)
      ∙ ap (λ (d : ℕ). pick (eqb d 1) (F k (tail + y * 2 * 2 ^ b)) k) even

  derive_step : (w b y : ℕ) → b < w → (k : K)
      → derive F tail w k ((y * 2 + 1) * 2 ^ b) ≡ F (derive F tail w k (y * 2 * 2 ^ b)) (tail + (y * 2 + 1) * 2 ^ b)
  unfolding derive
  derive_step zero b y h k = absurd (not-suc-le-zero h)
  derive_step (suc w) b y h k = go (eq-or-lt_of_le (le_of_suc-le-suc h)) (λ q j. derive_step w b y q j)
    where
      Goal : ℕ → K → Type 0
      Goal v j = derive F tail v j ((y * 2 + 1) * 2 ^ b) ≡ F (derive F tail v j (y * 2 * 2 ^ b)) (tail + (y * 2 + 1) * 2 ^ b)

      go : (b ≡ w) ⊎ (b < w) → (b < w → (j : K) → Goal w j) → Goal (suc w) k
      go (inl e) ih =
          let odd : (y * 2 + 1) % 2 ≡ 1 = omega arith in
          let here : Goal (suc b) k =
          derive_at b (y * 2 + 1) k (λ j. derive_rest b (y * 2 + 1) j)
          ∙ ap (λ (d : ℕ). pick (eqb d 1) (F k (tail + (y * 2 + 1) * 2 ^ b)) k) odd
          ∙ ap (λ (j : K). F j (tail + (y * 2 + 1) * 2 ^ b)) (sym (ap (derive F tail (suc b) k) (sym (twice y b)) ∙ derive_rest (suc b) y k)) in
          subst (λ (v : ℕ). Goal (suc v) k) e here
      go (inr q) ih =
          let same : (d : ℕ) → d < 2 → (y * 2 + d) * 2 ^ b / 2 ^ w ≡ y / 2 ^ (w - suc b) =
          λ d l. ap (λ (x : ℕ). x / 2 ^ w) (sym (add-zero ((y * 2 + d) * 2 ^ b))) ∙ above_place b y d 0 w l (pow_pos b) q in
          let e : (y * 2 + 1) * 2 ^ b / 2 ^ w ≡ y * 2 * 2 ^ b / 2 ^ w =
          same 1 (lit< tt) ∙ sym (ap (λ (x : ℕ). x * 2 ^ b / 2 ^ w) (sym (add-zero (y * 2))) ∙ same 0 (lit< tt)) in
          rw e (ih q _)

  -- the places of x from b up are those of its bits from b up, and after them come the places below
  derive_cut : (b x w : ℕ) → b ≤ w → (k : K) → derive F tail w k x ≡ derive F tail b (derive F tail w k (bits_from b x)) x
  unfolding derive
  derive_cut b x = le_ind (λ (w : ℕ). (k : K) → derive F tail w k x ≡ derive F tail b (derive F tail w k (bits_from b x)) x)
      (λ k. ap (λ (j : K). derive F tail b j x) (sym (derive_rest b (x / 2 ^ b) k)))
      (λ w h ih k.
      let same : bits_from b x / 2 ^ w ≡ x / 2 ^ w =
      shr_on (bits_from b x) b w h ∙ ap (λ (y : ℕ). y / 2 ^ (w - b)) (shl-shr (x / 2 ^ b) b) ∙ sym (shr_on x b w h) in
      rw same (ih _))

module _ {K : Type 0} (F : K → ℕ → K) (initial : K) (tail : ℕ) where
  -- c is a multiple of 2 ^ (b + 1)
  pub key_step : (c b y : ℕ) → b < 21 → c ≡ y * 2 ^ suc b
      → register_key F initial tail (c + 2 ^ b) ≡ F (register_key F initial tail c) (tail + (c + 2 ^ b))
  unfolding register_key
  key_step c b y h e =
      let even : c ≡ y * 2 * 2 ^ b = e ∙ twice y b in
      let odd : c + 2 ^ b ≡ (y * 2 + 1) * 2 ^ b = omega (arith, add-mul (y * 2) 1 (2 ^ b), one-mul (2 ^ b)) in
      rw (odd, even) (derive_step F tail 21 b y h initial)

  pub key_zero : register_key F initial tail 0 ≡ initial
  unfolding register_key
  key_zero = ap (derive F tail 21 initial) (sym (zero-mul (2 ^ 21))) ∙ derive_rest F tail 21 0 initial

  -- the key of a counter, from that of its bits from b up
  pub key_under : (x b : ℕ) → b ≤ 21 → register_key F initial tail x ≡ derive F tail b (register_key F initial tail (bits_from b x)) x
  unfolding register_key
  key_under x b h = derive_cut F tail b x 21 h initial
