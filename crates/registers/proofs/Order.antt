-- The permitted counters in order: their count, the next one, the last one, the n-th smallest.
use mathlib.Core.Path.{◌≡◌, refl, sym, ap, ◌∙◌, subst}
use mathlib.Core.Logic.{◌↔◌, if_pos, if_neg, by_cases}
use mathlib.Core.Bool.{true, false, false≢true}
use Prim.Native.Nat.{ℕ, suc, ◌+◌, ◌-◌, ◌*◌, ◌/◌, ◌^◌, ◌≤◌, ◌<◌}
use native.Mathlib.Nat.{zero-lt-suc, add-mul, le_refl}
use native.Mathlib.Decide.{dec_le, dec_lt}
use native.Mathlib.Numerals.{add-one}
use native.Mathlib.Omega.{arith}
use borrow.Author.Tests.{lt-ltb, le-ltb}
use lib.Dec.{lit<, lit≤}
use lib.Pow.{pow_pos, pow_mono, shr_lt, shl-shr}
use lib.Count.{ones, ones_cat, ones-ones, ones-le}
use Rattle.registers.specs.Counters.{Permitted, permitted?, counter_permitted, count_to, permitted_to, Nth, last_counter, lowest_place, next_after, next_counter}
use Rattle.registers.proofs.Counting.{count_hit, count_gap, count_mono, count_lt, count_unique, some_counted}
use Rattle.registers.proofs.Bits.{Lowest, lowest, place_lt, ones_pos, ones_odd, ones_shl, ones_suc, twice}

-- ---- the count

-- a permitted counter passes the test, any other number does not
pub passes : {c : ℕ} → Permitted c → counter_permitted c ≡ true
passes {c} ok = if_pos (permitted? c) ok true false

pub fails : {c : ℕ} → ¬ Permitted c → counter_permitted c ≡ false
fails {c} bad = if_neg (permitted? c) bad true false

passed : (c : ℕ) → counter_permitted c ≡ true → Permitted c
passed c e = by_cases (permitted? c) (λ ok. ok) (λ bad. absurd (false≢true (sym (fails bad) ∙ e)))

-- a permitted counter's number is from 1 on
pub count_least : (c : ℕ) → Permitted c → 1 ≤ permitted_to c
unfolding count_to
count_least c ok = omega (arith, count_lt counter_permitted 0 c ok.from_one (passes ok))

-- there is at most one n-th smallest
pub nth_unique : (n c d : ℕ) → Nth n c → Nth n d → c ≡ d
nth_unique n c d x y = count_unique counter_permitted c d (passes x.permitted) (passes y.permitted) (x.number ∙ sym y.number)

-- the numbers below it are those with a lower count
pub nth_before : (n c x : ℕ) → Nth (suc n) c → (permitted_to x ≤ n) ↔ (x < c)
nth_before n c x nth = (
  λ h. by_cases (dec_lt x c) (λ q. q) (λ q. absurd (omega (arith, nth.number, count_mono counter_permitted c x (omega arith)))),
  λ h. omega (arith, nth.number, count_lt counter_permitted x c h (passes nth.permitted)),
)

-- each n up to the count of x has one
pub nth_below : (x n : ℕ) → 1 ≤ n → n ≤ permitted_to x → (c : ℕ) × Nth n c
nth_below x n p q = let h = some_counted counter_permitted x n p q in (h.0, record { permitted = passed h.0 h.1; number = h.2 })

-- ---- the first and the last counter

pub one_permitted : Permitted 1
unfolding ones
one_permitted = record { from_one = le_refl 1; fits = lit< tt; few = lit≤ tt }

-- it has the ten highest of the 21 bits; a larger number of 21 bits has all of these and one more
pub permitted_le : (c : ℕ) → Permitted c → c ≤ last_counter
permitted_le c ok = by_cases (dec_le c last_counter) (λ h. h) (λ h. absurd (over (omega arith)))
  where
    over : last_counter < c → ⊥
    over h =
        let r = c - last_counter in
        let parts : c ≡ (2 ^ 10 - 1) * 2 ^ 11 + r = omega (arith, ok.fits) in
        let apart = ones_cat 11 (2 ^ 10 - 1) r (omega (arith, ok.fits)) in
        omega (arith, ok.few, ap ones parts, ones-ones 10, ones_pos r (omega arith))

-- ---- the next counter

-- d is the smallest permitted counter above c
pub record SmallestAbove (c d : ℕ) : Type 0 where
  pub permitted : Permitted d
  pub above : c < d
  pub none_between : (x : ℕ) → c < x → x < d → ¬ Permitted x

-- the rule's two cases
pub next_few : (c : ℕ) → ones c < 10 → next_after c ≡ suc c
unfolding next_after
next_few c h = rw (lt-ltb (ones c) 10 h) (omega arith)

pub next_full : (c : ℕ) → 10 ≤ ones c → next_after c ≡ c + 2 ^ lowest_place c
unfolding next_after
next_full c h = rw (le-ltb (ones c) 10 h) (omega arith)

-- at ten one bits
full_next : (c : ℕ) → Permitted c → c < last_counter → 10 ≤ ones c → SmallestAbove c (c + 2 ^ lowest_place c)
full_next c ok h many = record {
  permitted = record { from_one = omega (arith, ok.from_one); fits = fits; few = few };
  above = omega (arith, pow_pos l);
  none_between = λ x p q. between x p q;
}
  where
    l : ℕ
    l = lowest_place c

    low : Lowest c l
    low = lowest c ok.from_one ok.fits

    a : ℕ
    a = low.above

    all : ones (a * 2 + 1) ≡ 10
    all = omega (arith, ones_shl (a * 2 + 1) l, ap ones low.shape, ok.few)

    next : c + 2 ^ l ≡ (a + 1) * 2 ^ suc l
    next = omega (arith, low.shape, twice (a + 1) l, add-mul (a * 2) 1 (2 ^ l), add-mul (a * 2) 2 (2 ^ l))

    few : ones (c + 2 ^ l) ≤ 10
    few = omega (arith, ap ones next, ones_shl (a + 1) (suc l), ones_suc a, ones_odd a, ap ones (add-one a), all)

    -- were there no room for it, l would be above 11, and the bits of c from l up too few for ten ones
    fits : c + 2 ^ l < 2 ^ 21
    fits =
        by_cases (dec_lt (c + 2 ^ l) (2 ^ 21)) (λ q. q)
        (λ q. absurd (by_cases (dec_lt 11 l) (λ p. short p) (λ p. omega (arith, pow_mono {i = l} {j = 11} (omega arith)))))
      where
        short : 11 < l → ⊥
        short p =
            let wide : ◌≡◌ {A = ℕ} 21 (21 - l + l) = omega (arith, place_lt c ok.from_one ok.fits) in
            let bits : c / 2 ^ l ≡ a * 2 + 1 = ap (λ (x : ℕ). x / 2 ^ l) low.shape ∙ shl-shr (a * 2 + 1) l in
            let narrow : a * 2 + 1 < 2 ^ (21 - l) = omega (arith, shr_lt {n = c} (21 - l) l (subst (λ (x : ℕ). c < 2 ^ x) wide ok.fits)) in
            omega (arith, all, ones-le (21 - l) (a * 2 + 1) narrow)

    between : (x : ℕ) → c < x → x < c + 2 ^ l → ¬ Permitted x
    between x p q bad =
        let r = x - c in
        let parts : x ≡ (a * 2 + 1) * 2 ^ l + r = omega (arith, low.shape) in
        omega (arith, all, bad.few, ap ones parts, ones_cat l (a * 2 + 1) r (omega arith), ones_pos r (omega arith))

-- below the last counter, the rule gives the next permitted one
pub next_permitted : (c : ℕ) → Permitted c → c < last_counter → SmallestAbove c (next_after c)
next_permitted c ok h =
    by_cases (dec_lt (ones c) 10)
    (λ few. subst (λ (d : ℕ). SmallestAbove c d) (sym (next_few c few)) (record {
      permitted = record { from_one = zero-lt-suc c; fits = omega arith; few = omega (arith, ones_suc c) };
      above = le_refl (suc c);
      none_between = λ x p q. absurd (omega arith);
    }))
    (λ many. subst (λ (d : ℕ). SmallestAbove c d) (sym (next_full c (omega arith))) (full_next c ok h (omega arith)))

-- and it has the next number
pub next_count : (c : ℕ) → Permitted c → c < last_counter → permitted_to (next_after c) ≡ suc (permitted_to c)
next_count c ok h =
    let n = next_permitted c ok h in
    let d = next_after c in
    let e : suc (d - 1) ≡ d = omega (arith, n.above) in
    ap permitted_to (sym e) ∙ count_hit counter_permitted (d - 1) (passes (subst Permitted (sym e) n.permitted))
    ∙ ap suc (count_gap counter_permitted c (d - 1) (omega (arith, n.above)) (λ x p q. fails (n.none_between x p (omega (arith, n.above)))))

-- up to the last counter the next one is the rule's, and after it there is none
pub next_on : (c : ℕ) → c < last_counter → next_counter c ≡ next_after c
unfolding next_counter
next_on c h = rw (lt-ltb c last_counter h) refl

pub next_none : (c : ℕ) → last_counter ≤ c → next_counter c ≡ 0
unfolding next_counter
next_none c h = rw (le-ltb c last_counter h) refl
