-- Bits of a number, its lowest one bit, and how many of its bits are one.
use mathlib.Core.Path.{◌≡◌, refl, sym, ap, ◌∙◌}
use mathlib.Core.Logic.{◌⊎◌, inl, inr, by_cases}
use Prim.Native.Nat.{ℕ, zero, suc, ◌+◌, ◌-◌, ◌*◌, ◌/◌, ◌%◌, ◌^◌, ◌≤◌, ◌<◌}
use native.Mathlib.Nat.{le_refl, not-suc-le-zero, zero-lt-suc, pow-suc, mod-lt, mul_assoc, mul-one, add-mul, eq-zero-or-pos, add-zero, pow-succ', mul-le-mul_right, one-mul}
use native.Mathlib.Decide.{dec_lt, ℕ_discrete}
use native.Mathlib.Numerals.{add-one, one-add}
use native.Mathlib.Omega.{arith}
use lib.Dec.{lit<}
use lib.Arith.{bin_ind}
use lib.Pow.{pow_pos, pow_mono, pow-add, shl_exact, shr-shr, high}
use lib.Count.{ones, ones_step, ones_cat, count_trailing_zeros, under}
use lib.Bits.{block_half, block_odd}
use Rattle.registers.specs.Counters.{bit, Permitted, lowest_place}

-- ---- bits

-- shifted right by w: by b and the rest; by b and 1; by 1 and b
pub shr_on : (x b w : ℕ) → b ≤ w → x / 2 ^ w ≡ x / 2 ^ b / 2 ^ (w - b)
shr_on x b w h = let e : b + (w - b) ≡ w = omega arith in ap (λ (k : ℕ). x / 2 ^ k) (sym e) ∙ sym (shr-shr x b (w - b))

pub shr_suc : (x b : ℕ) → x / 2 ^ suc b ≡ x / 2 ^ b / 2
shr_suc x b = ap (λ (k : ℕ). x / 2 ^ k) (sym (add-one b)) ∙ sym (shr-shr x b 1)

pub shr_half : (x b : ℕ) → x / 2 ^ suc b ≡ x / 2 / 2 ^ b
shr_half x b = ap (λ (k : ℕ). x / 2 ^ k) (sym (one-add b)) ∙ sym (shr-shr x 1 b)

-- bit b + 1 is bit b of the half
pub bit_suc : (x b : ℕ) → bit x (suc b) ≡ bit (x / 2) b
bit_suc x b = ap (λ (y : ℕ). y % 2) (shr_half x b)

-- a bit is 0 or 1
pub bit_cases : (x b : ℕ) → (bit x b ≡ 0) ⊎ (bit x b ≡ 1)
bit_cases x b = by_cases (ℕ_discrete (bit x b) 0) (λ e. inl e) (λ e. inr (omega (arith, mod-lt (x / 2 ^ b) {m = 2} (lit< tt))))

-- numbers below 2 ^ n with the same bits are equal
pub same_bits : (n x y : ℕ) → x < 2 ^ n → y < 2 ^ n → ((b : ℕ) → b < n → bit x b ≡ bit y b) → x ≡ y
same_bits zero x y p q h = omega arith
same_bits (suc n) x y p q h =
    let e : x / 2 ≡ y / 2 = same_bits n (x / 2) (y / 2) (omega (arith, pow-suc 2 n)) (omega (arith, pow-suc 2 n))
    (λ b l. sym (bit_suc x b) ∙ h (suc b) (omega arith) ∙ bit_suc y b) in
    omega (arith, h 0 (zero-lt-suc n))

-- the bits of 2 ^ n - 1 - p are those of p turned
pub turned : (n p b : ℕ) → b < n → p < 2 ^ n → bit (2 ^ n - suc p) b ≡ 1 - bit p b
turned zero p b h l = absurd (not-suc-le-zero h)
turned (suc n) p zero h l = omega (arith, pow-suc 2 n)
turned (suc n) p (suc b) h l =
    let half : (2 ^ suc n - suc p) / 2 ≡ 2 ^ n - suc (p / 2) = omega (arith, pow-suc 2 n) in
    bit_suc (2 ^ suc n - suc p) b ∙ ap (λ (x : ℕ). bit x b) half
    ∙ turned n (p / 2) b (omega arith) (omega (arith, pow-suc 2 n)) ∙ ap (λ (x : ℕ). 1 - x) (sym (bit_suc p b))

-- the number 2 ^ l - 1 has every bit below l
pub bit_ones : (l b : ℕ) → b < l → bit (2 ^ l - 1) b ≡ 1
bit_ones zero b h = absurd (not-suc-le-zero h)
bit_ones (suc l) zero h = omega (arith, pow-suc 2 l, pow_pos l)
bit_ones (suc l) (suc b) h =
    let half : (2 ^ suc l - 1) / 2 ≡ 2 ^ l - 1 = omega (arith, pow-suc 2 l) in
    bit_suc (2 ^ suc l - 1) b ∙ ap (λ (x : ℕ). bit x b) half ∙ bit_ones l b (omega arith)

-- ---- a number by its bits above, at and below place l: (2 a + d) 2 ^ l + r

pub below_place : (l y r b : ℕ) → b < l → bit (y * 2 ^ l + r) b ≡ bit r b
below_place zero y r b h = absurd (not-suc-le-zero h)
below_place (suc l) y r zero h = omega (arith, block_odd y l r)
below_place (suc l) y r (suc b) h =
    bit_suc (y * 2 ^ suc l + r) b ∙ ap (λ (x : ℕ). bit x b) (block_half y l r)
    ∙ below_place l y (r / 2) b (omega arith) ∙ sym (bit_suc r b)

pub at_place : (l a d r : ℕ) → d < 2 → r < 2 ^ l → bit ((a * 2 + d) * 2 ^ l + r) l ≡ d
at_place l a d r h q = ap (λ (x : ℕ). x % 2) (high (a * 2 + d) l q) ∙ omega arith

pub above_place : (l a d r b : ℕ) → d < 2 → r < 2 ^ l → l < b → ((a * 2 + d) * 2 ^ l + r) / 2 ^ b ≡ a / 2 ^ (b - suc l)
above_place l a d r b h q p =
    let x = (a * 2 + d) * 2 ^ l + r in
    let up : x / 2 ^ suc l ≡ a = omega (arith, shr_suc x l, high (a * 2 + d) l q) in
    shr_on x (suc l) b p ∙ ap (λ (y : ℕ). y / 2 ^ (b - suc l)) up

-- a multiple of 2 ^ (b + 1) is an even multiple of 2 ^ b
pub twice : (y b : ℕ) → y * 2 ^ suc b ≡ y * 2 * 2 ^ b
twice y b = ap (λ (z : ℕ). y * z) (pow-succ' 2 b) ∙ sym (mul_assoc y 2 (2 ^ b))

-- `1 << b` in a word of w bits, for a place b of a counter
pub one_shl : (w b : ℕ) → 21 ≤ w → b < 21 → (1 * 2 ^ b % 2 ^ w ≡ 2 ^ b) × (2 ^ b ≤ 2 ^ 20)
one_shl w b h l = (shl_exact {a = 1} 1 b w (lit< tt) (omega arith) ∙ one-mul (2 ^ b), pow_mono {i = b} {j = 20} (omega arith))

-- ---- the lowest one bit

-- c is an odd number with l zeros below
pub record Lowest (c l : ℕ) : Type 0 where
  pub above : ℕ
  pub shape : c ≡ (above * 2 + 1) * 2 ^ l

-- in k bits, and in the 32 of `lowest_place`
lowest_in : (k c : ℕ) → 1 ≤ c → c < 2 ^ k → Lowest c (count_trailing_zeros k c)
unfolding count_trailing_zeros
lowest_in zero c p h = absurd (omega arith)
lowest_in (suc k) c p h = go (c % 2) refl (λ q. lowest_in k (c / 2) q (omega (arith, pow-suc 2 k)))
  where
    go : (d : ℕ) → c % 2 ≡ d → (1 ≤ c / 2 → Lowest (c / 2) (count_trailing_zeros k (c / 2))) → Lowest c (under d (count_trailing_zeros k (c / 2)))
    go zero e rest =
        let low = rest (omega arith) in
        let l = count_trailing_zeros k (c / 2) in
        let odd = low.above * 2 + 1 in
        let x : c ≡ c / 2 * 2 = omega arith in
        record {
          above = low.above;
          shape = x ∙ ap (λ (y : ℕ). y * 2) low.shape ∙ mul_assoc odd (2 ^ l) 2 ∙ ap (λ (y : ℕ). odd * y) (sym (pow-suc 2 l));
        }
    go (suc d) e rest =
        let x : c ≡ c / 2 * 2 + 1 = omega (arith, mod-lt c {m = 2} (lit< tt)) in
        record { above = c / 2; shape = x ∙ sym (mul-one (c / 2 * 2 + 1)) }

pub lowest : (c : ℕ) → 1 ≤ c → c < 2 ^ 21 → Lowest c (lowest_place c)
lowest c p h = lowest_in 32 c p (omega arith)

-- a number's lowest one bit is no more than the number
pub lowest_le : {c l : ℕ} → Lowest c l → 2 ^ l ≤ c
lowest_le {c} {l} low =
    omega (arith, low.shape, mul-le-mul_right {m = 1} {n = low.above * 2 + 1} (2 ^ l) (omega arith), one-mul (2 ^ l))

-- so its place is one of a counter's 21 places
pub place_lt : (c : ℕ) → 1 ≤ c → c < 2 ^ 21 → lowest_place c < 21
place_lt c p h =
    by_cases (dec_lt (lowest_place c) 21) (λ q. q)
    (λ q. absurd (omega (arith, lowest_le (lowest c p h), pow_mono {i = 21} {j = lowest_place c} (omega arith))))

-- a permitted counter and its lowest one bit add up to at most 2 ^ 21
pub place_room : (c : ℕ) → Permitted c → c + 2 ^ lowest_place c ≤ 2 ^ 21
place_room c ok =
    let low = lowest c ok.from_one ok.fits in
    let l = lowest_place c in
    let odd = low.above * 2 + 1 in
    let k = 20 - l in
    let place = place_lt c ok.from_one ok.fits in
    let places : 21 ≡ k + 1 + l = omega arith in
    let whole : 2 ^ 21 ≡ 2 ^ k * 2 * 2 ^ l =
    ap (λ (n : ℕ). 2 ^ n) places ∙ pow-add 2 (k + 1) l ∙ ap (λ (x : ℕ). x * 2 ^ l) (pow-add 2 k 1) in
    let next : c + 2 ^ l ≡ (odd + 1) * 2 ^ l = omega (arith, low.shape, add-mul odd 1 (2 ^ l), one-mul (2 ^ l)) in
    by_cases (dec_lt odd (2 ^ k * 2))
    (λ h. omega (arith, mul-le-mul_right {m = odd + 1} {n = 2 ^ k * 2} (2 ^ l) (omega arith)))
    (λ h. absurd (omega (arith, ok.fits, low.shape, mul-le-mul_right {m = 2 ^ k * 2} {n = odd} (2 ^ l) (omega arith))))

-- ---- one bits

-- a number that is not 0 has a one bit
pub ones_pos : (n : ℕ) → 1 ≤ n → 1 ≤ ones n
ones_pos = bin_ind (λ (n : ℕ). 1 ≤ n → 1 ≤ ones n) (λ h. absurd (not-suc-le-zero h)) (λ n ih h. go n ih h (eq-zero-or-pos (n / 2)))
  where
    go : (n : ℕ) → (1 ≤ n / 2 → 1 ≤ ones (n / 2)) → 1 ≤ n → (n / 2 ≡ zero) ⊎ (zero < n / 2) → 1 ≤ ones n
    go n ih h (inl e) = omega (arith, ones_step n)
    go n ih h (inr q) = omega (arith, ones_step n, ih q)

-- an odd number has one more than its half
pub ones_odd : (a : ℕ) → ones (a * 2 + 1) ≡ ones a + 1
unfolding ones
ones_odd a = ones_cat 1 a 1 (lit< tt)

-- zeros below add none
pub ones_shl : (a k : ℕ) → ones (a * 2 ^ k) ≡ ones a
unfolding ones
ones_shl a k = ap ones (sym (add-zero (a * 2 ^ k))) ∙ ones_cat k a zero (pow_pos k) ∙ add-zero (ones a)

-- adding 1 adds at most one
pub ones_suc : (n : ℕ) → ones (suc n) ≤ ones n + 1
unfolding ones
ones_suc = bin_ind (λ (n : ℕ). ones (suc n) ≤ ones n + 1) (le_refl 1) (λ n ih. go n ih (eq-zero-or-pos (n % 2)))
  where
    go : (n : ℕ) → ones (suc (n / 2)) ≤ ones (n / 2) + 1 → (n % 2 ≡ zero) ⊎ (zero < n % 2) → ones (suc n) ≤ ones n + 1
    go n ih (inl e) =
        let h : suc n / 2 ≡ n / 2 = omega arith in
        omega (arith, ones_step n, ones_step (suc n), ap ones h)
    go n ih (inr q) =
        let h : suc n / 2 ≡ suc (n / 2) = omega arith in
        omega (arith, ones_step n, ones_step (suc n), ap ones h)
