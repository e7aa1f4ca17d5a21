-- Which message types are known, by their first two characters.
use borrow.Author.Tests.{le-leb}
use mathlib.Core.Path.{◌≡◌, refl, ap}
use mathlib.Core.Bool.{Bool, true, false, not}
use mathlib.Core.List.{List, [], ◌∷◌}
use Prim.Native.Nat.{ℕ}
use native.Mathlib.Omega.{arith}
use lib.Dec.{eqb, leb}
use lib.ListN.{length, get_or}
use Rattle.lent.specs.Choice.{both, either}
use Rattle.lent.specs.Texts.{starts_with}
use Rattle.lent.specs.Words.{to_base}
use Rattle.lent.proofs.Laws.{cases}
use Rattle.message.specs.Records.{known_type}

-- 0, and then 1, 2, 4 or 5
abbrev pub type_digits : ℕ → ℕ → Bool
type_digits x y = both (eqb x 48) (either (eqb y 49) (either (eqb y 50) (either (eqb y 52) (eqb y 53))))

-- what is left of the four starts where the first character is 0
four : (a b c d : Bool) → either (both a true) (either (both b true) (either (both c true) (either (both d true) false))) ≡ either a (either b (either c d))
four true b c d = refl
four false true c d = refl
four false false true d = refl
four false false false true = refl
four false false false false = refl

pub type_is : (n : ℕ) (s : List ℕ)
    → known_type n s ≡ either (not (eqb n 0)) (both (leb 2 (length s)) (type_digits (get_or s 0 0) (get_or s 1 0)))
unfolding known_type starts_with to_base
type_is n [] = refl
type_is n (x ∷ []) = cases (eqb x 48) (λ t. simp t) (λ f. simp f)
type_is n (x ∷ y ∷ s) =
    cases (eqb x 48) (λ t. simp (t, le-leb 2 (length (x ∷ y ∷ s)) (omega arith)) (ap (either (not (eqb n 0))) (four (eqb y 49) (eqb y 50) (eqb y 52) (eqb y 53)))) (λ f. simp (f, le-leb 2 (length (x ∷ y ∷ s)) (omega arith)))
