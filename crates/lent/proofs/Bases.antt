-- Laws on the digits of a number: from a number to its digits and back.
use borrow.Author.Tests.{lt-ltb}
use mathlib.Core.Path.{◌≡◌, refl, sym, ap, ap₂, ◌∙◌}
use mathlib.Core.Bool.{true}
use mathlib.Core.Logic.{by_cases}
use mathlib.Core.List.{List}
use Prim.Native.Nat.{ℕ, zero, suc, ◌+◌, ◌-◌, ◌*◌, ◌/◌, ◌%◌, ◌^◌, ◌<◌, ◌≤◌}
use native.Mathlib.Nat.{add-zero, add-suc, suc-add, pow-zero, pow-suc, pow-succ', mod-one, div-one, div-div-eq-div-mul, not-suc-le-zero, le_of_suc-le-suc, one-le-pow, add-sub_cancel_left, suc-sub-suc, sub-zero, add-sub_of_le, mod-lt, mod-eq_of_lt, le_refl}
use native.Mathlib.Decide.{dec_lt}
use native.Mathlib.Omega.{arith}
use lib.Arith.{digits_div, digits_mod, digits_lt, mod-mul}
use lib.Dec.{lit<}
use lib.ListN.{length, get_or, take, drop, length-take, get_or-eq_default}
use lib.Seq.{ext_get_or, get_or-drop, get_or-take}
use Rattle.lent.specs.Choice.{all}
use Rattle.lent.specs.Words.{byte, from_base, to_base, word, word_bytes}

-- n digits are n
pub to_length : (b n x : ℕ) → length (to_base b n x) ≡ n
unfolding to_base
to_length b zero x = refl
to_length b (suc n) x = ap suc (to_length b n x)

-- the digit at place k
pub to_at : (b n x k : ℕ) → k < n → get_or (to_base b n x) k 0 ≡ x / b ^ (n - suc k) % b
unfolding to_base
to_at b zero x k h = absurd (not-suc-le-zero h)
to_at b (suc n) x zero h = ap (λ (m : ℕ). x / b ^ m % b) (sym (suc-sub-suc n 0 ∙ sub-zero n))
to_at b (suc n) x (suc k) h = to_at b n x k (le_of_suc-le-suc h) ∙ ap (λ (m : ℕ). x / b ^ m % b) (sym (suc-sub-suc n (suc k)))

module _ (b : ℕ) where
  -- each digit of s is below the base
  abbrev pub Digits : List ℕ → Type 0
  Digits s = (k : ℕ) → get_or s k 0 < b

  -- so is each after the first k
  pub digits_drop : (k : ℕ) (s : List ℕ) → Digits s → Digits (drop k s)
  digits_drop k s d i = rw (get_or-drop k s i 0) (d (k + i))

  -- and each of the first k
  pub digits_take : (k : ℕ) (s : List ℕ) → Digits s → Digits (take k s)
  digits_take k s d i =
      by_cases (dec_lt i k) (λ h. rw (get_or-take k s i 0 h) (d i))
      (λ h.
      rw (get_or-eq_default (take k s) 0 {n = i} (rw length-take (omega arith)))
      (rw (get_or-eq_default s 0 {n = length s} (le_refl (length s))) at (d (length s))))

  -- n digits are a number below the base to the power n
  pub from_lt : (n : ℕ) (s : List ℕ) → Digits s → from_base b n s < b ^ n
  unfolding from_base
  from_lt zero s d = rw (pow-zero b) (lit< tt)
  from_lt (suc n) s d = rw (pow-suc b n) (digits_lt (from_lt n s d) (d n))

  -- a number without its last j digits
  from_div : (m j : ℕ) (s : List ℕ) → Digits s → from_base b (m + j) s / b ^ j ≡ from_base b m s
  unfolding from_base
  from_div m zero s d = simp (add-zero, pow-zero, div-one)
  from_div m (suc j) s d =
      rw (add-suc m j, pow-succ' b j, ← div-div-eq-div-mul)
      (ap (λ (x : ℕ). x / b ^ j) (digits_div (from_base b (m + j) s) (d (m + j))) ∙ from_div m j s d)

  from_digit : (n k : ℕ) (s : List ℕ) → Digits s → suc k ≤ n → from_base b n s / b ^ (n - suc k) % b ≡ get_or s k 0
  unfolding from_base
  from_digit n k s d h =
      ap (λ (m : ℕ). from_base b m s / b ^ (n - suc k) % b) (sym (add-sub_of_le h))
      ∙ ap (λ (x : ℕ). x % b) (from_div (suc k) (n - suc k) s d)
      ∙ digits_mod (from_base b k s) (d k)

  -- the digits of the number of digits are those
  pub to_from : (n : ℕ) (s : List ℕ) → Digits s → length s ≡ n → to_base b n (from_base b n s) ≡ s
  to_from n s d e =
      let v = from_base b n s in
      ext_get_or 0 (to_base b n v) s (to_length b n v ∙ sym e)
      (λ k h. let below = rw (to_length b n v) at h in to_at b n v k below ∙ from_digit n k s d below)

  from_first : zero < b → (k j x : ℕ) → from_base b k (to_base b (k + j) x) ≡ x / b ^ j % b ^ k
  unfolding from_base
  from_first p zero j x = rw (pow-zero b) (sym (mod-one (x / b ^ j)))
  from_first p (suc k) j x =
      let y = x / b ^ j in
      let higher : from_base b k (to_base b (suc k + j) x) ≡ y / b % b ^ k =
      ap (λ (m : ℕ). from_base b k (to_base b m x)) (suc-add k j ∙ sym (add-suc k j))
      ∙ from_first p k (suc j) x
      ∙ ap (λ (m : ℕ). m % b ^ k) (rw (pow-suc b j, ← div-div-eq-div-mul)) in
      let last : get_or (to_base b (suc k + j) x) k 0 ≡ y % b =
      to_at b (suc k + j) x k (omega (arith, suc-add k j))
      ∙ ap (λ (m : ℕ). x / b ^ m % b) (add-sub_cancel_left (suc k) j) in
      ap₂ (λ (m n : ℕ). m * b + n) higher last
      ∙ sym (mod-mul y (one-le-pow k b p) p)
      ∙ ap (λ (m : ℕ). y % m) (sym (pow-suc b k))

  -- the number of the n lowest digits of x
  pub from_to : zero < b → (n x : ℕ) → from_base b n (to_base b n x) ≡ x % b ^ n
  from_to p n x =
      ap (λ (m : ℕ). from_base b n (to_base b m x)) (sym (add-zero n))
      ∙ from_first p n zero x
      ∙ ap (λ (y : ℕ). y % b ^ n) (rw (pow-zero b) (div-one x))

-- ---- words and their bytes

-- the digits to the base 256 are bytes
pub to_bytes : (n x : ℕ) → all byte (to_base 256 n x) ≡ true
unfolding to_base
to_bytes zero x = refl
to_bytes (suc n) x = simp (lt-ltb (x / 256 ^ n % 256) 256 (mod-lt (x / 256 ^ n) (lit< tt)), to_bytes n x)

-- a word from its bytes
pub word_back : (x : ℕ) → x < 2 ^ 64 → word (word_bytes x) ≡ x
word_back x h = from_to 256 (lit< tt) 8 x ∙ mod-eq_of_lt h
