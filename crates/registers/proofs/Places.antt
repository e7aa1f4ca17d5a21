-- Which registers are filled, by the bits of the number before the next counter c: register b is filled exactly if bit b of c - 1 is 0.
-- And how these bits change from a counter to the next.
use mathlib.Core.Path.{◌≡◌, refl, sym, ap, ◌∙◌, subst}
use mathlib.Core.Logic.{◌⊎◌, inl, inr, by_cases}
use Prim.Native.Nat.{ℕ, suc, ◌+◌, ◌-◌, ◌*◌, ◌/◌, ◌%◌, ◌^◌, ◌≤◌, ◌<◌}
use native.Mathlib.Nat.{add-zero, add-mul, mul_assoc, mul-div_cancel, zero-div, le_refl, zero-lt-suc, mod-lt, pow-suc, one-mul}
use native.Mathlib.Decide.{dec_lt, ℕ_discrete}
use native.Mathlib.Omega.{arith}
use borrow.Author.Tests.{ne_eqb}
use lib.Dec.{lit<}
use lib.Arith.{digits_lt}
use lib.Pow.{pow_pos, pow-lt, pow-add, ones_lt, shl-shr, shr_lt, split}
use lib.Count.{ones, ones_cat}
use Rattle.registers.specs.Counters.{bit, Permitted, lowest_place, next_after}
use Rattle.registers.specs.Machine.{filled_mask}
use Rattle.registers.specs.Rule.{Filled, label}
use Rattle.registers.proofs.Bits.{shr_suc, bit_cases, turned, bit_ones, below_place, at_place, above_place, twice, Lowest, lowest, ones_pos, ones_odd, ones_shl}
use Rattle.registers.proofs.Order.{next_few, next_full}

-- how the place b lies to l
data Place (b l : ℕ) : Type 0 where
  is_below : b < l → Place b l
  is_at : b ≡ l → Place b l
  is_above : l < b → Place b l

place : (b l : ℕ) → Place b l
place b l = by_cases (dec_lt b l) (λ h. is_below h) (λ h. by_cases (ℕ_discrete b l) (λ e. is_at e) (λ e. is_above (omega arith)))

-- register b's label is an odd number with b zeros below
pub label_odd : (c b : ℕ) → label c b ≡ (c / 2 ^ suc b * 2 + 1) * 2 ^ b
label_odd c b = omega (arith, twice (c / 2 ^ suc b) b, add-mul (c / 2 ^ suc b * 2) 1 (2 ^ b), one-mul (2 ^ b))

-- a register is filled or not, as bit b of c - 1 says; if it is, that number gives its label too
pub data Says (c b : ℕ) : Type 0 where
  is_filled : Filled c b → bit (c - 1) b ≡ 0 → label c b ≡ label (c - 1) b → Says c b
  is_bare : ¬ Filled c b → bit (c - 1) b ≡ 1 → Says c b

-- the bits at register b, from c - 1 to the number before the next counter
pub data Change (c b : ℕ) : Type 0 where
  new_key : b < lowest_place c → ones c < 10 → bit (next_after c - 1) b ≡ 0 → (y : ℕ) → c ≡ y * 2 ^ suc b
      → label (next_after c - 1) b ≡ c + 2 ^ b → Change c b
  stays_empty : b < lowest_place c → 10 ≤ ones c → bit (next_after c - 1) b ≡ 1 → bit (c - 1) b ≡ 1 → Change c b
  goes_empty : b ≡ lowest_place c → bit (next_after c - 1) b ≡ 1 → Change c b
  keeps : lowest_place c < b → bit (next_after c - 1) b ≡ bit (c - 1) b → label (next_after c - 1) b ≡ label (c - 1) b → Change c b

module _ (c : ℕ) (from_one : 1 ≤ c) (fits : c < 2 ^ 21) where
  abbrev l : ℕ
  l = lowest_place c

  low : Lowest c l
  low = lowest c from_one fits

  abbrev a : ℕ
  a = low.above

  -- c and c - 1 by their bits above, at and below l
  c_shape : c ≡ (a * 2 + 1) * 2 ^ l + 0
  c_shape = low.shape ∙ sym (add-zero ((a * 2 + 1) * 2 ^ l))

  before_shape : c - 1 ≡ (a * 2 + 0) * 2 ^ l + (2 ^ l - 1)
  before_shape = omega (arith, low.shape, pow_pos l, add-mul (a * 2) 1 (2 ^ l), ap (λ (x : ℕ). x * 2 ^ l) (add-zero (a * 2)))

  -- a number that has a from place l + 1 up, like c - 1
  above : (x d r b : ℕ) → d < 2 → r < 2 ^ l → x ≡ (a * 2 + d) * 2 ^ l + r → l < b → x / 2 ^ b ≡ (c - 1) / 2 ^ b
  above x d r b h q e p =
      ap (λ (z : ℕ). z / 2 ^ b) e ∙ above_place l a d r b h q p
      ∙ sym (ap (λ (z : ℕ). z / 2 ^ b) before_shape ∙ above_place l a 0 (2 ^ l - 1) b (lit< tt) (ones_lt l) p)

  -- so its labels from l on are those of c - 1
  labelled : (x d r b : ℕ) → d < 2 → r < 2 ^ l → x ≡ (a * 2 + d) * 2 ^ l + r → l < suc b → label x b ≡ label (c - 1) b
  labelled x d r b h q e p = rw (above x d r (suc b) h q e p)

  -- the bits of c - 1 below l are ones, and bit l is 0
  ones_below : (b : ℕ) → b < l → bit (c - 1) b ≡ 1
  ones_below b q = ap (λ (x : ℕ). bit x b) before_shape ∙ below_place l (a * 2 + 0) (2 ^ l - 1) b q ∙ bit_ones l b q

  zero_at : bit (c - 1) l ≡ 0
  zero_at = ap (λ (x : ℕ). bit x l) before_shape ∙ at_place l a 0 (2 ^ l - 1) (lit< tt) (ones_lt l)

  pub says : (b : ℕ) → Says c b
  says b = go (place b l)
    where
      same_label : l < suc b → label c b ≡ label (c - 1) b
      same_label = labelled c 1 0 b (lit< tt) (pow_pos l) c_shape

      go : Place b l → Says c b
      go (is_below q) = is_bare never (ones_below b q)
        where
          never : Filled c b → ⊥
          never (inl e) = omega arith
          never (inr f) = omega arith
      go (is_at q) = is_filled (inl q) (ap (λ (k : ℕ). bit (c - 1) k) q ∙ zero_at) (same_label (omega arith))
      go (is_above q) = pass (bit_cases c b)
        where
          same : bit c b ≡ bit (c - 1) b
          same = ap (λ (x : ℕ). x % 2) (above c 1 0 b (lit< tt) (pow_pos l) c_shape q)

          never : bit c b ≡ 1 → Filled c b → ⊥
          never e (inl f) = omega arith
          never e (inr f) = omega arith

          pass : (bit c b ≡ 0) ⊎ (bit c b ≡ 1) → Says c b
          pass (inl e) = is_filled (inr (q, e)) (sym same ∙ e) (same_label (omega arith))
          pass (inr e) = is_bare (never e) (sym same ∙ e)

  -- ---- the next counter

  pub change : (b : ℕ) → Change c b
  change b = by_cases (dec_lt (ones c) 10) (λ h. few h (next_few c h) (place b l)) (λ h. many (omega arith) (place b l))
    where
      p : ℕ
      p = next_after c - 1

      at_or_above : (r : ℕ) → r < 2 ^ l → p ≡ (a * 2 + 1) * 2 ^ l + r → (b ≡ l) ⊎ (l < b) → Change c b
      at_or_above r h e (inl q) = goes_empty q (ap (λ (k : ℕ). bit p k) q ∙ ap (λ (x : ℕ). bit x l) e ∙ at_place l a 1 r (lit< tt) h)
      at_or_above r h e (inr q) = keeps q (ap (λ (x : ℕ). x % 2) (above p 1 r b (lit< tt) h e q)) (labelled p 1 r b (lit< tt) h e (omega arith))

      few : ones c < 10 → next_after c ≡ suc c → Place b l → Change c b
      few h e (is_below q) =
          let same : p ≡ c = omega arith in
          let y = (a * 2 + 1) * 2 ^ (l - suc b) in
          let split : l ≡ l - suc b + suc b = omega arith in
          let power : 2 ^ l ≡ 2 ^ (l - suc b) * 2 ^ suc b = ap (λ (k : ℕ). 2 ^ k) split ∙ pow-add 2 (l - suc b) (suc b) in
          let multiple : c ≡ y * 2 ^ suc b = low.shape ∙ ap (λ (x : ℕ). (a * 2 + 1) * x) power ∙ sym (mul_assoc (a * 2 + 1) (2 ^ (l - suc b)) (2 ^ suc b)) in
          let high : c / 2 ^ suc b ≡ y = ap (λ (x : ℕ). x / 2 ^ suc b) multiple ∙ mul-div_cancel y (pow_pos (suc b)) in
          let low_bit : bit c b ≡ 0 = ap (λ (x : ℕ). bit x b) c_shape ∙ below_place l (a * 2 + 1) 0 b q ∙ ap (λ (x : ℕ). x % 2) (zero-div (2 ^ b)) in
          let labelled-c : label c b ≡ c + 2 ^ b = ap (λ (x : ℕ). x * 2 ^ suc b + 2 ^ b) high ∙ ap (λ (x : ℕ). x + 2 ^ b) (sym multiple) in
          new_key q h (ap (λ (x : ℕ). bit x b) same ∙ low_bit) y multiple (ap (λ (x : ℕ). label x b) same ∙ labelled-c)
      few h e (is_at q) = at_or_above 0 (pow_pos l) (omega (arith, c_shape)) (inl q)
      few h e (is_above q) = at_or_above 0 (pow_pos l) (omega (arith, c_shape)) (inr q)

      full : 10 ≤ ones c → p ≡ (a * 2 + 1) * 2 ^ l + (2 ^ l - 1)
      full h = omega (arith, next_full c h, low.shape, pow_pos l)

      many : 10 ≤ ones c → Place b l → Change c b
      many h (is_below q) =
          let still : bit p b ≡ 1 = ap (λ (x : ℕ). bit x b) (full h) ∙ below_place l (a * 2 + 1) (2 ^ l - 1) b q ∙ bit_ones l b q in
          stays_empty q h still (ones_below b q)
      many h (is_at q) = at_or_above (2 ^ l - 1) (ones_lt l) (full h) (inl q)
      many h (is_above q) = at_or_above (2 ^ l - 1) (ones_lt l) (full h) (inr q)

  -- ---- the mask

  -- the mask is 2 ^ 21 - c, and its bits are those of c - 1 turned
  pub mask_is : filled_mask c ≡ 2 ^ 21 - c
  unfolding filled_mask
  mask_is = rw (ne_eqb c 0 (λ e. omega arith)) refl

  pub mask_bit : (b : ℕ) → b < 21 → bit (filled_mask c) b ≡ 1 - bit (c - 1) b
  mask_bit b h =
      let e : suc (c - 1) ≡ c = omega arith in
      ap (λ (x : ℕ). bit x b) (mask_is ∙ ap (λ (x : ℕ). 2 ^ 21 - x) (sym e)) ∙ turned 21 (c - 1) b h (omega arith)

  -- ---- labels

  -- the register of the counter's lowest one bit belongs to the counter itself
  pub label_own : label c l ≡ c
  label_own =
      let up : c / 2 ^ suc l ≡ a = omega (arith, shr_suc c l, ap (λ (x : ℕ). x / 2 ^ l) low.shape, shl-shr (a * 2 + 1) l) in
      label_odd c l ∙ ap (λ (x : ℕ). (x * 2 + 1) * 2 ^ l) up ∙ sym low.shape

  -- a filled register's label is a counter not below c, with no more one bits
  pub label_later : ones c ≤ 10 → (b : ℕ) → b < 21 → Filled c b → Permitted (label c b) × (c ≤ label c b)
  label_later few b h f = go (says b)
    where
      Good : ℕ → Type 0
      Good d = Permitted d × (c ≤ d)

      go : Says c b → Good (label c b)
      go (is_bare g e) = absurd (g f)
      go (is_filled g e t) = subst Good (sym t) (record { from_one = omega (arith, pow_pos b); fits = fits_label; few = few_label }, omega (arith, up, small))
        where
          u : ℕ
          u = (c - 1) / 2 ^ suc b

          r : ℕ
          r = (c - 1) % 2 ^ b

          small : r < 2 ^ b
          small = mod-lt (c - 1) (pow_pos b)

          some_low : suc r < 2 ^ suc b
          some_low = omega (arith, small, pow-suc 2 b, pow_pos b)

          half : (c - 1) / 2 ^ b ≡ u * 2
          half = omega (arith, shr_suc (c - 1) b)

          up : c ≡ u * 2 ^ suc b + suc r
          up = omega (arith, split (c - 1) b, ap (λ (x : ℕ). x * 2 ^ b) half, twice u b)

          wide : ◌≡◌ {A = ℕ} 21 (20 - b + suc b)
          wide = omega arith

          fits_label : label (c - 1) b < 2 ^ 21
          fits_label =
              let narrow : u < 2 ^ (20 - b) = shr_lt {n = c - 1} (20 - b) (suc b) (subst (λ (k : ℕ). c - 1 < 2 ^ k) wide (omega arith)) in
              rw (ap (λ (k : ℕ). 2 ^ k) wide ∙ pow-add 2 (20 - b) (suc b)) (digits_lt narrow (pow-lt (le_refl (suc b))))

          few_label : ones (label (c - 1) b) ≤ 10
          few_label =
              let counted = ones_cat (suc b) u (suc r) some_low in
              omega (arith, ap ones (label_odd (c - 1) b), ones_shl (u * 2 + 1) b, ones_odd u, ap ones up, ones_pos (suc r) (zero-lt-suc r))
