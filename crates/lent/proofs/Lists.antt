-- Laws on lists: parts, repeated elements, and tests that every element passes.
use borrow.Author.Tests.{ltb-true, ltb-false}
use mathlib.Core.Path.{◌≡◌, refl}
use mathlib.Core.Bool.{Bool, true}
use mathlib.Core.List.{List, [], ◌∷◌, ◌++◌, map, map-id}
use Prim.Native.Nat.{ℕ, zero, suc, ◌-◌, ◌<◌, ◌≤◌}
use native.Mathlib.Nat.{sub-zero, zero-sub, suc-sub-suc, le_of_suc-le-suc}
use native.Mathlib.Omega.{arith}
use lib.Dec.{ltb}
use lib.ListN.{length, get_or, take, drop, replicate, length-drop, get_or-eq_default}
use lib.Seq.{take_all}
use Rattle.lent.specs.Choice.{both, all}
use Rattle.lent.proofs.Laws.{cases, both_true, all_at}
use Rattle.lent.proofs.Bases.{Digits}

-- ---- parts

-- a part that goes up to the end
pub part_rest : (n : ℕ) (s : List ℕ) → take (length s - n) (drop n s) ≡ drop n s
part_rest n s = take_all (length s - n) (drop n s) (rw (length-drop n s) (omega arith))

-- a part that ends before the end
pub part_within : (from to : ℕ) (s : List ℕ) → take (to - from) (drop from s) ≡ drop from (take to s)
part_within zero to s = rw (sub-zero to)
part_within (suc from) zero s = rw (zero-sub (suc from))
part_within (suc from) (suc to) [] = take_all (suc to - suc from) [] (omega arith)
part_within (suc from) (suc to) (x ∷ s) = rw (suc-sub-suc to from) (part_within from to s)

-- ---- repeated elements

-- zeros, at any place
pub zeros_at : (n i : ℕ) → get_or (replicate n 0) i 0 ≡ zero
zeros_at zero i = refl
zeros_at (suc n) zero = refl
zeros_at (suc n) (suc i) = zeros_at n i

-- zeros after a list add nothing to what stands at a place
pub zeros_after : (s : List ℕ) (n i : ℕ) → get_or (s ++ replicate n 0) i 0 ≡ get_or s i 0
zeros_after [] n i = zeros_at n i
zeros_after (x ∷ s) n zero = refl
zeros_after (x ∷ s) n (suc i) = zeros_after s n i

-- without the first k
pub drop_replicate : (k n x : ℕ) → drop k (replicate n x) ≡ replicate (n - k) x
drop_replicate zero n x = rw (sub-zero n)
drop_replicate (suc k) zero x = rw (zero-sub (suc k))
drop_replicate (suc k) (suc n) x = rw (suc-sub-suc n k) (drop_replicate k n x)

-- the first k
pub take_replicate : (k n x : ℕ) → k ≤ n → take k (replicate n x) ≡ replicate k x
take_replicate zero n x h = refl
take_replicate (suc k) zero x h = absurd (omega arith)
take_replicate (suc k) (suc n) x h = rw (take_replicate k n x (le_of_suc-le-suc h))

-- ---- a test that every element passes

-- what passes a test passes another once it is changed
pub all_map : (p q : ℕ → Bool) (f : ℕ → ℕ) → ((x : ℕ) → p x ≡ true → q (f x) ≡ true) → (s : List ℕ) → all p s ≡ true → all q (map f s) ≡ true
all_map p q f h [] e = refl
all_map p q f h (x ∷ s) e = let b = both_true (p x) (all p s) e in simp (h x b.0, all_map p q f h s b.1)

-- two changes that agree on what passes a test
pub map_all : (p : ℕ → Bool) (f g : ℕ → ℕ) → ((x : ℕ) → p x ≡ true → f x ≡ g x) → (s : List ℕ) → all p s ≡ true → map f s ≡ map g s
map_all p f g h [] e = refl
map_all p f g h (x ∷ s) e = let b = both_true (p x) (all p s) e in rw (h x b.0, map_all p f g h s b.1)

-- what passes a test passes a weaker one
pub all_weaker : (p q : ℕ → Bool) → ((x : ℕ) → p x ≡ true → q x ≡ true) → (s : List ℕ) → all p s ≡ true → all q s ≡ true
all_weaker p q h s e = rw (map-id s) at (all_map p q (λ x. x) h s e)

module _ (p : ℕ → Bool) where
  pub all_append : (s t : List ℕ) → all p (s ++ t) ≡ both (all p s) (all p t)
  all_append [] t = refl
  all_append (x ∷ s) t = cases (p x) (λ e. rw (e, all_append s t)) (λ e. rw e)

  pub all_replicate : (n x : ℕ) → p x ≡ true → all p (replicate n x) ≡ true
  all_replicate zero x e = refl
  all_replicate (suc n) x e = rw e (all_replicate n x e)

  pub all_take : (n : ℕ) (s : List ℕ) → all p s ≡ true → all p (take n s) ≡ true
  all_take zero s e = refl
  all_take (suc n) [] e = refl
  all_take (suc n) (x ∷ s) e = let b = both_true (p x) (all p s) e in simp (b.0, all_take n s b.1)

  pub all_drop : (n : ℕ) (s : List ℕ) → all p s ≡ true → all p (drop n s) ≡ true
  all_drop zero s e = e
  all_drop (suc n) [] e = refl
  all_drop (suc n) (x ∷ s) e = all_drop n s (both_true (p x) (all p s) e).1

-- numbers below a bound, at every place; past their end stands 0
pub elements_below : (b : ℕ) (s : List ℕ) → 0 < b → all (λ (x : ℕ). ltb x b) s ≡ true → Digits b s
elements_below b s p e k =
    cases (ltb k (length s)) (λ h. ltb-true _ _ (all_at (λ (x : ℕ). ltb x b) s k e (ltb-true k (length s) h)))
    (λ h. let past : length s ≤ k = ltb-false k (length s) h in rw (get_or-eq_default s 0 past) p)
