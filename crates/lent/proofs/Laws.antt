-- Laws on choices, tests and lists that several crates cite.
use borrow.Author.Tests.{leb-true, le-leb, lt-leb}
use mathlib.Core.Path.{◌≡◌, refl}
use mathlib.Core.Bool.{Bool, true, false}
use mathlib.Core.List.{List, [], ◌∷◌}
use Prim.Native.Nat.{ℕ, zero, suc, ◌+◌, ◌<◌, ◌≤◌}
use native.Mathlib.Nat.{add-zero, zero-add, add-suc, suc-add, not-suc-le-zero, le_of_suc-le-suc}
use native.Mathlib.Numerals.{add-one}
use native.Mathlib.Omega.{arith}
use lib.Dec.{leb}
use lib.ListN.{length, get_or, drop}
use lib.Seq.{drop-cons}
use Rattle.lent.specs.Choice.{both, either, between, all}

-- by cases on a test, whose answer each case knows
pub cases : {C : Type 0} (b : Bool) → (b ≡ true → C) → (b ≡ false → C) → C
cases true t f = t refl
cases false t f = f refl

-- from 0 and 1 being the same follows anything
pub never : {C : Type 0} → ◌≡◌ {A = ℕ} 0 1 → C
never e = absurd (omega arith)

-- two tests that both hold
pub both_true : (a b : Bool) → both a b ≡ true → (a ≡ true) × (b ≡ true)
both_true true b e = (refl, e)
both_true false b e = (e, cc)

-- a test, or one that does not hold
pub either_false : (b : Bool) → either b false ≡ b
either_false true = refl
either_false false = refl

-- a number between two
pub between_true : (lo hi x : ℕ) → between lo hi x ≡ true → (lo ≤ x) × (x ≤ hi)
between_true lo hi x e = let h = both_true (leb lo x) (leb x hi) e in (leb-true lo x h.0, leb-true x hi h.1)

-- a number in a range, below it and above it
module _ (lo hi x : ℕ) where
  pub within : lo ≤ x → x ≤ hi → between lo hi x ≡ true
  within h i = simp (le-leb lo x h, le-leb x hi i)

  pub below : x < lo → between lo hi x ≡ false
  below h = simp (lt-leb lo x h)

  pub above : hi < x → between lo hi x ≡ false
  above h = cases (leb lo x) (λ e. simp (e, lt-leb x hi h)) (λ e. simp e)

-- a list from place i on: its element there, then the rest
pub drop_next : (s : List ℕ) (i : ℕ) → i < length s → drop i s ≡ get_or s i 0 ∷ drop (i + 1) s
drop_next s i h = rw (add-one i) (drop-cons s i 0 h)

-- a test that every element passes, at place i
pub all_at : (p : ℕ → Bool) (s : List ℕ) (i : ℕ) → all p s ≡ true → i < length s → p (get_or s i 0) ≡ true
all_at p [] i e h = absurd (not-suc-le-zero h)
all_at p (x ∷ s) zero e h = (both_true (p x) (all p s) e).0
all_at p (x ∷ s) (suc i) e h = all_at p s i (both_true (p x) (all p s) e).1 (le_of_suc-le-suc h)

-- the test holds of every number from k on, n of them
unfoldable pub holds_from : (ℕ → Bool) → ℕ → ℕ → Bool
holds_from p k zero = true
holds_from p k (suc n) = both (p k) (holds_from p (suc k) n)

holds_at : (p : ℕ → Bool) (k n : ℕ) → holds_from p k n ≡ true → (j : ℕ) → j < n → p (k + j) ≡ true
unfolding holds_from
holds_at p k zero e j h = absurd (not-suc-le-zero h)
holds_at p k (suc n) e zero h = rw (add-zero k) (both_true (p k) (holds_from p (suc k) n) e).0
holds_at p k (suc n) e (suc j) h =
    rw (add-suc k j, ← suc-add k j)
    (holds_at p (suc k) n (both_true (p k) (holds_from p (suc k) n) e).1 j (le_of_suc-le-suc h))

-- a test that was computed for every number below n holds of each
pub holds_below : (p : ℕ → Bool) (n : ℕ) → holds_from p 0 n ≡ true → (j : ℕ) → j < n → p j ≡ true
holds_below p n e j h = rw zero-add at (holds_at p 0 n e j h)
