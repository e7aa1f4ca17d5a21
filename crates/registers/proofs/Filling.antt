-- Registers that are filled from the first on.
use mathlib.Core.Path.{◌≡◌, refl, sym, ap, ap₂, ◌∙◌}
use mathlib.Core.List.{List, [], ◌∷◌}
use Prim.Native.Nat.{ℕ, zero, suc, ◌+◌, ◌≤◌, ◌<◌}
use native.Mathlib.Nat.{le_of_suc-le-suc, not-suc-le-zero}
use native.Mathlib.Numerals.{add-one}
use lib.ListN.{length, get_or, set}
use Rattle.registers.specs.Machine.{fill}

module _ {K : Type 0} where
  -- before the first turn of a loop that fills them
  pub fill_none : (f : ℕ → K) (keys : List K) → fill 0 f keys ≡ keys
  unfolding fill
  fill_none f keys = refl

  -- their number stays, the first n are new, the others are kept
  pub length_fill : (n : ℕ) (f : ℕ → K) (keys : List K) → length (fill n f keys) ≡ length keys
  unfolding fill
  length_fill zero f keys = refl
  length_fill (suc n) f [] = refl
  length_fill (suc n) f (key ∷ keys) = ap suc (length_fill n (λ b. f (suc b)) keys)

  pub fill_below : (n : ℕ) (f : ℕ → K) (keys : List K) (b : ℕ) (d : K) → b < n → b < length keys → get_or (fill n f keys) b d ≡ f b
  unfolding fill
  fill_below zero f keys b d h l = absurd (not-suc-le-zero h)
  fill_below (suc n) f [] b d h l = absurd (not-suc-le-zero l)
  fill_below (suc n) f (key ∷ keys) zero d h l = refl
  fill_below (suc n) f (key ∷ keys) (suc b) d h l = fill_below n (λ i. f (suc i)) keys b d (le_of_suc-le-suc h) (le_of_suc-le-suc l)

  pub fill_above : (n : ℕ) (f : ℕ → K) (keys : List K) (b : ℕ) (d : K) → n ≤ b → get_or (fill n f keys) b d ≡ get_or keys b d
  unfolding fill
  fill_above zero f keys b d h = refl
  fill_above (suc n) f [] b d h = refl
  fill_above (suc n) f (key ∷ keys) zero d h = absurd (not-suc-le-zero h)
  fill_above (suc n) f (key ∷ keys) (suc b) d h = fill_above n (λ i. f (suc i)) keys b d (le_of_suc-le-suc h)

  fill_more : (n : ℕ) (f : ℕ → K) (keys : List K) → set (fill n f keys) n (f n) ≡ fill (suc n) f keys
  unfolding fill
  fill_more zero f [] = refl
  fill_more zero f (key ∷ keys) = refl
  fill_more (suc n) f [] = refl
  fill_more (suc n) f (key ∷ keys) = ap (λ (rest : List K). f 0 ∷ rest) (fill_more n (λ b. f (suc b)) keys)

  -- a turn of a loop that fills them
  pub fill_turn : (n : ℕ) (f : ℕ → K) (keys now : List K) (v : K) → now ≡ fill n f keys → v ≡ f n → set now n v ≡ fill (n + 1) f keys
  fill_turn n f keys now v e q = ap₂ (λ (k : List K) (x : K). set k n x) e q ∙ fill_more n f keys ∙ ap (λ (m : ℕ). fill m f keys) (sym (add-one n))
