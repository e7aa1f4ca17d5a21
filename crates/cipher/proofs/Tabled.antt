-- From the computed test of a table against a function to each of its entries.
use mathlib.Core.List.{List, [], ◌∷◌}
use mathlib.Core.Path.{◌≡◌, sym, ap, ◌∙◌}
use Prim.Native.Nat.{ℕ, zero, suc, ◌+◌, ◌<◌}
use native.Mathlib.Nat.{add-suc, add-zero, le_of_suc-le-suc, not-suc-le-zero, suc-add, zero-add}
use lib.Dec.{when, eqb, eqb→eq}
use lib.ListN.{length, get_or}
use Rattle.cipher.proofs.Range.{passed}

-- the table has what f gives for k, k + 1, .., and the rest holds: a test that computes
unfoldable pub Tabled : (ℕ → ℕ) → ℕ → List ℕ → Type 0 → Type 0
Tabled f k [] rest = rest
Tabled f k (word ∷ table) rest = when (eqb word (f k)) (Tabled f (suc k) table rest)

entry_from : (f : ℕ → ℕ) (k : ℕ) (table : List ℕ) (rest : Type 0) → Tabled f k table rest → (j : ℕ) → j < length table
    → get_or table j 0 ≡ f (j + k)
unfolding Tabled
entry_from f k [] rest t j h = absurd (not-suc-le-zero h)
entry_from f k (word ∷ table) rest t zero h = rw (zero-add k) (eqb→eq word (f k) (passed (eqb word (f k)) t).0)
entry_from f k (word ∷ table) rest t (suc j) h =
    entry_from f (suc k) table rest (passed (eqb word (f k)) t).1 j (le_of_suc-le-suc h) ∙ ap f (add-suc j k ∙ sym (suc-add j k))

-- an entry
pub entry : (f : ℕ → ℕ) (table : List ℕ) (rest : Type 0) → Tabled f 0 table rest → (j : ℕ) → j < length table → get_or table j 0 ≡ f j
entry f table rest t j h = entry_from f 0 table rest t j h ∙ ap f (add-zero j)

-- the rest of the test
pub remaining : (f : ℕ → ℕ) (k : ℕ) (table : List ℕ) (rest : Type 0) → Tabled f k table rest → rest
unfolding Tabled
remaining f k [] rest t = t
remaining f k (word ∷ table) rest t = remaining f (suc k) table rest (passed (eqb word (f k)) t).1
