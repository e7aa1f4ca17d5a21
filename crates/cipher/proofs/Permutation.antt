-- Permutations by table: one entry more, and the size of the result.
use mathlib.Core.List.{List, [], ◌∷◌, ◌++◌}
use mathlib.Core.Path.{◌≡◌}
use Prim.Native.Nat.{ℕ, ◌+◌, ◌*◌, ◌^◌, ◌<◌}
use native.Mathlib.Nat.{lt_of_lt_of_le, mod-lt, pow-suc, pow-succ'}
use native.Mathlib.Numerals.{add-one}
use native.Mathlib.Omega.{arith}
use lib.Arith.{digits_lt}
use lib.Dec.{lit<}
use lib.ListN.{length, get_or, take, length-append, length-map, length-take}
use lib.Pow.{pow_mono}
use lib.Seq.{take-suc}
use Rattle.cipher.specs.Bits.{bit, permuted}

module _ (w x : ℕ) where
  pub permuted_cons : (i : ℕ) (table : List ℕ) → permuted w (i ∷ table) x ≡ bit w x i * 2 ^ length table + permuted w table x
  unfolding permuted
  permuted_cons i table = rw (length-map table (bit w x))

  -- as many bits as the table has entries
  pub permuted_lt : (table : List ℕ) → permuted w table x < 2 ^ length table
  unfolding permuted
  permuted_lt [] = lit< tt
  permuted_lt (i ∷ table) = rw (permuted_cons i table, pow-succ' 2 (length table)) (digits_lt (mod-lt _ (lit< tt)) (permuted_lt table))

  -- ---- the loop

  permuted_snoc : (table : List ℕ) (i : ℕ) → permuted w table x * 2 + bit w x i ≡ permuted w (table ++ (i ∷ [])) x
  unfolding permuted
  permuted_snoc [] i = omega arith
  permuted_snoc (j ∷ table) i =
      rw (permuted_cons j table, permuted_cons j (table ++ (i ∷ [])), length-append table (i ∷ []), add-one (length table), pow-suc 2 (length table), ← permuted_snoc table i)
      (omega arith)

  pub one_more : (table : List ℕ) (k : ℕ) → k < length table
      → permuted w (take k table) x * 2 + bit w x (get_or table k 0) ≡ permuted w (take (k + 1) table) x
  one_more table k h = rw (add-one k, take-suc table k 0 h) (permuted_snoc (take k table) _)

  -- below 64 bits there is room for one more in a word
  pub room : (table : List ℕ) (k : ℕ) → k < 64 → permuted w (take k table) x < 2 ^ 63
  room table k h = lt_of_lt_of_le (permuted_lt (take k table)) (pow_mono {j = 63} (omega (arith, length-take k table)))
