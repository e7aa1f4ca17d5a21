-- How many numbers have few one bits, by Pascal's rule, and so how many counters are permitted.
use borrow.Author.Tests.{lt-ltb, le-ltb}
use mathlib.Core.Path.{◌≡◌, refl, sym, ap, ap₂, ◌∙◌}
use mathlib.Core.Logic.{by_cases}
use mathlib.Core.Bool.{Bool, false}
use Prim.Native.Nat.{ℕ, zero, suc, ◌+◌, ◌-◌, ◌^◌, ◌≤◌, ◌<◌, zero-le}
use native.Mathlib.Nat.{zero-lt-suc, le_refl, pow-suc, add-zero, add-suc, one-mul}
use native.Mathlib.Decide.{dec_lt}
use native.Mathlib.Numerals.{one-add}
use native.Mathlib.Omega.{arith}
use lib.Dec.{ltb, leb-suc-suc, lit<, lit≤}
use lib.Pow.{suc_ones}
use lib.Count.{ones, ones_cat}
use Rattle.lent.specs.Choice.{pick}
use Rattle.registers.specs.Counters.{Permitted, counter_permitted, count_to, permitted_to, last_counter, counter_total}
use Rattle.registers.proofs.Counting.{count_hit, count_miss, count_gap, count_mono}
use Rattle.registers.proofs.Order.{passes, fails, permitted_le}

-- ---- the numbers from 0 on

-- how many of 0, .., x - 1 pass the test
unfoldable pub count_below : (ℕ → Bool) → ℕ → ℕ
count_below test zero = 0
count_below test (suc x) = count_below test x + pick (test x) 1 0

pub below_same : (p q : ℕ → Bool) (n : ℕ) → ((y : ℕ) → y < n → p y ≡ q y) → count_below p n ≡ count_below q n
unfolding count_below
below_same p q zero h = refl
below_same p q (suc n) h =
    ap₂ (λ (x : ℕ) (t : Bool). x + pick t 1 0) (below_same p q n (λ y l. h y (omega arith))) (h n (le_refl (suc n)))

pub below_none : (p : ℕ → Bool) (n : ℕ) → ((y : ℕ) → y < n → p y ≡ false) → count_below p n ≡ 0
unfolding count_below
below_none p zero h = refl
below_none p (suc n) h = rw (h n (le_refl (suc n)), below_none p n (λ y l. h y (omega arith)))

pub below_split : (p : ℕ → Bool) (a n : ℕ) → count_below p (a + n) ≡ count_below p a + count_below (λ y. p (a + y)) n
unfolding count_below
below_split p a zero = ap (count_below p) (add-zero a) ∙ sym (add-zero (count_below p a))
below_split p a (suc n) = ap (count_below p) (add-suc a n) ∙ omega (arith, below_split p a n)

-- ---- few one bits

-- x has fewer than m one bits
abbrev pub few_ones : ℕ → ℕ → Bool
few_ones m x = ltb (ones x) m

-- how many numbers below 2 ^ w have fewer than m one bits, by Pascal's rule
unfoldable pub few_in : ℕ → ℕ → ℕ
few_in w zero = 0
few_in zero (suc m) = 1
few_in (suc w) (suc m) = few_in w (suc m) + few_in w m

-- bit w takes one from m
pub few_above : (w m n : ℕ) → n ≤ 2 ^ w → count_below (λ y. few_ones (suc m) (2 ^ w + y)) n ≡ count_below (few_ones m) n
unfolding ones
few_above w m n h =
    below_same _ _ n
    (λ y l.
    let top : ones (2 ^ w + y) ≡ suc (ones y) = ap (λ (x : ℕ). ones (x + y)) (sym (one-mul (2 ^ w))) ∙ ones_cat w 1 y (omega arith) ∙ one-add (ones y) in
    ap (λ (x : ℕ). ltb x (suc m)) top ∙ leb-suc-suc (suc (ones y)) m)

few_one : (m : ℕ) → count_below (few_ones (suc m)) 1 ≡ 1
unfolding count_below ones
few_one m = rw (lt-ltb 0 (suc m) (zero-lt-suc m)) refl

pub few_counted : (w m : ℕ) → count_below (few_ones m) (2 ^ w) ≡ few_in w m
unfolding few_in
few_counted w zero = below_none (few_ones 0) (2 ^ w) (λ y l. le-ltb (ones y) 0 zero-le)
few_counted zero (suc m) = few_one m
few_counted (suc w) (suc m) =
    let double : 2 ^ suc w ≡ 2 ^ w + 2 ^ w = omega (arith, pow-suc 2 w) in
    ap (count_below (few_ones (suc m))) double ∙ below_split (few_ones (suc m)) (2 ^ w) (2 ^ w)
    ∙ ap₂ (λ (x y : ℕ). x + y) (few_counted w (suc m)) (few_above w m (2 ^ w) (le_refl (2 ^ w)) ∙ few_counted w m)

-- ---- permitted counters

-- 0 has no one bit and is not permitted
count_few : (c : ℕ) → c < 2 ^ 21 → suc (permitted_to c) ≡ count_below (few_ones 11) (suc c)
unfolding count_to count_below ones
count_few zero h = refl
count_few (suc c) h =
    by_cases (dec_lt (ones (suc c)) 11)
    (λ q.
    let ok : Permitted (suc c) = record { from_one = zero-lt-suc c; fits = h; few = omega arith } in
    rw (lt-ltb (ones (suc c)) 11 q) (omega (arith, count_few c (omega arith), count_hit counter_permitted c (passes ok))))
    (λ q.
    rw (le-ltb (ones (suc c)) 11 (omega arith))
    (omega (arith, count_few c (omega arith), count_miss counter_permitted c (fails (λ ok. omega (arith, ok.few))))))

all_few : few_in 21 11 ≡ 1_048_576
unfolding few_in
all_few = refl

-- none is permitted above the last counter
pub total : permitted_to last_counter ≡ counter_total
total =
    let last : permitted_to (2 ^ 21 - 1) ≡ permitted_to last_counter =
    count_gap counter_permitted last_counter (2 ^ 21 - 1) (lit≤ tt) (λ x p q. fails (λ ok. omega (arith, permitted_le x ok))) in
    omega (arith, count_few (2 ^ 21 - 1) (lit< tt), ap (count_below (few_ones 11)) (suc_ones 21), few_counted 21 11, all_few)

-- a permitted counter's number is at most that
pub count_most : (c : ℕ) → Permitted c → permitted_to c ≤ counter_total
count_most c ok = omega (arith, count_mono counter_permitted c last_counter (permitted_le c ok), total)
