-- Whether a text stands at the start of another, and whether it is the other.
use borrow.Author.Tests.{eqb-true, eq-eqb}
use mathlib.Core.Path.{◌≡◌, refl}
use mathlib.Core.Bool.{true}
use mathlib.Core.List.{List, [], ◌∷◌}
use Prim.Native.Nat.{ℕ, ◌≤◌}
use native.Mathlib.Omega.{arith}
use lib.Dec.{eqb}
use lib.ListN.{length}
use Rattle.lent.proofs.Laws.{both_true, never}
use Rattle.lent.specs.Texts.{starts_with, same}

-- what starts with a text is as long as that, or longer
pub starts_length : (text s : List ℕ) → starts_with text s ≡ true → length text ≤ length s
unfolding starts_with
starts_length [] s h = omega arith
starts_length (x ∷ text) [] h = never (cc)
starts_length (x ∷ text) (y ∷ s) h = omega (arith, starts_length text s (both_true (eqb y x) (starts_with text s) h).1)

-- ---- texts that are the same

same_starts : (text s : List ℕ) → length s ≡ length text → starts_with text s ≡ true → text ≡ s
unfolding starts_with
same_starts [] [] e h = refl
same_starts [] (y ∷ s) e h = absurd (omega arith)
same_starts (x ∷ text) [] e h = absurd (omega arith)
same_starts (x ∷ text) (y ∷ s) e h =
    let b = both_true (eqb y x) (starts_with text s) h in
    rw (eqb-true y x b.0, same_starts text s (omega arith) b.1)

-- a text that passes the test is the other
pub same_true : (text s : List ℕ) → same text s ≡ true → text ≡ s
unfolding same
same_true text s h =
    let b = both_true (eqb (length s) (length text)) (starts_with text s) h in
    same_starts text s (eqb-true (length s) (length text) b.0) b.1

starts_self : (s : List ℕ) → starts_with s s ≡ true
unfolding starts_with
starts_self [] = refl
starts_self (x ∷ s) = rw (eq-eqb x x refl) (starts_self s)

-- every text passes it with itself
pub same_self : (s : List ℕ) → same s s ≡ true
unfolding same
same_self s = rw (eq-eqb (length s) (length s) refl) (starts_self s)
