-- The one pass of the program, and that it does the four steps of the definition.
use borrow.Author.Tests.{eqb-true, eq-eqb, ne_eqb}
use mathlib.Core.Path.{◌≡◌, refl, sym, ap, ◌∙◌}
use mathlib.Core.Bool.{Bool, true, false}
use mathlib.Core.List.{List, [], ◌∷◌, ◌++◌, reverse, reverse-cons, reverse-append}
use Prim.Native.Nat.{ℕ, ◌≤◌}
use native.Mathlib.Omega.{arith}
use lib.Dec.{eqb}
use lib.ListN.{length}
use Rattle.lent.specs.Choice.{pick}
use Rattle.lent.specs.Characters.{capitalized}
use Rattle.lent.proofs.Laws.{cases}
use Rattle.cleaning.specs.Cleaning.{kept, capitals, kept_only, trimmed_start, trimmed_end, trimmed, closed_up, cleaned, unless_double}

-- a space where one is owed
abbrev pub space_if : Bool → List ℕ
space_if true = 32 ∷ []
space_if false = []

pub at_most_one : (owed : Bool) → length (space_if owed) ≤ 1
at_most_one true = omega arith
at_most_one false = omega arith

-- what is written for the rest of a text: whether a character was written before it, and whether a space is owed
unfoldable pub pass : Bool → Bool → List ℕ → List ℕ
pass started owed [] = []
pass started owed (x ∷ s) =
    pick (eqb (capitalized x) 32) (pass started started s)
    (pick (kept (capitalized x)) (space_if owed ++ capitalized x ∷ pass true false s) (pass started owed s))

-- the same of a text after the first two steps
unfoldable spacing : Bool → Bool → List ℕ → List ℕ
spacing started owed [] = []
spacing started owed (x ∷ s) = pick (eqb x 32) (spacing started started s) (space_if owed ++ x ∷ spacing true false s)

pub space_kept : (x : ℕ) → eqb x 32 ≡ true → kept x ≡ true
unfolding kept
space_kept x e = rw (eqb-true x 32 e)

pass_spacing : (s : List ℕ) (started owed : Bool) → pass started owed s ≡ spacing started owed (kept_only (capitals s))
unfolding pass spacing kept_only capitals
pass_spacing [] started owed = refl
pass_spacing (x ∷ s) started owed =
    let y = capitalized x in
    cases (eqb y 32) (λ e. simp (e, space_kept y e, pass_spacing s started started))
    (λ n.
    cases (kept y) (λ k. simp (n, k, pass_spacing s true false)) (λ k. simp (n, k, pass_spacing s started owed)))

-- a character before a text: a space before nothing goes
abbrev unless_last : ℕ → List ℕ → List ℕ
unless_last x [] = pick (eqb x 32) [] (x ∷ [])
unless_last x (y ∷ s) = x ∷ y ∷ s

before_some : (x y : ℕ) (s : List ℕ) → unless_last x (s ++ (y ∷ [])) ≡ x ∷ s ++ (y ∷ [])
before_some x y [] = refl
before_some x y (z ∷ s) = refl

reversed_end : (s : List ℕ) (x : ℕ) → reverse (trimmed_start (s ++ (x ∷ []))) ≡ unless_last x (reverse (trimmed_start s))
unfolding trimmed_start
reversed_end [] x = cases (eqb x 32) (λ e. simp e) (λ n. simp n)
reversed_end (y ∷ s) x =
    cases (eqb y 32) (λ e. simp e (reversed_end s x))
    (λ n. simp n (reverse-append (y ∷ s) (x ∷ []) ∙ rw (reverse-cons y s) (sym (before_some x y (reverse s)))))

-- spaces at the end go, from the first character on
unfoldable without_end : List ℕ → List ℕ
without_end [] = []
without_end (x ∷ s) = unless_last x (without_end s)

end_is : (s : List ℕ) → trimmed_end s ≡ without_end s
unfolding trimmed_end without_end trimmed_start
end_is [] = refl
end_is (x ∷ s) = rw (reverse-cons x s) (reversed_end (reverse s) x ∙ ap (unless_last x) (end_is s))

last_stays : (x : ℕ) (s : List ℕ) → eqb x 32 ≡ false → unless_last x s ≡ x ∷ s
last_stays x [] n = simp n
last_stays x (y ∷ s) n = refl

single_stays : (x : ℕ) (s : List ℕ) → eqb x 32 ≡ false → unless_double x s ≡ x ∷ s
single_stays x [] n = refl
single_stays x (y ∷ s) n = simp n

double : (s : List ℕ) → unless_double 32 (unless_double 32 s) ≡ unless_double 32 s
double [] = refl
double (x ∷ s) = cases (eqb x 32) (λ e. simp e) (λ n. simp n)

two_spaces : (s : List ℕ) → closed_up (unless_last 32 (unless_last 32 s)) ≡ closed_up (unless_last 32 s)
unfolding closed_up
two_spaces [] = refl
two_spaces (x ∷ s) = double (unless_double x (closed_up s))

mutual
  unfolding spacing closed_up without_end

  none_owed : (s : List ℕ) → spacing true false s ≡ closed_up (without_end s)
  none_owed [] = refl
  none_owed (x ∷ s) =
      cases (eqb x 32)
      (λ e. simp e (one_owed s ∙ ap (λ (y : ℕ). closed_up (unless_last y (without_end s))) (sym (eqb-true x 32 e))))
      (λ n. simp (n, last_stays x (without_end s) n, single_stays x (closed_up (without_end s)) n, none_owed s))

  one_owed : (s : List ℕ) → spacing true true s ≡ closed_up (without_end (32 ∷ s))
  one_owed [] = refl
  one_owed (x ∷ s) =
      cases (eqb x 32)
      (λ e.
      simp e
      (one_owed s
      ∙ sym (two_spaces (without_end s))
      ∙ ap (λ (y : ℕ). closed_up (unless_last 32 (unless_last y (without_end s)))) (sym (eqb-true x 32 e))))
      (λ n. simp (n, last_stays x (without_end s) n, single_stays x (closed_up (without_end s)) n, none_owed s))

from_start : (s : List ℕ) → spacing false false s ≡ closed_up (without_end (trimmed_start s))
unfolding spacing trimmed_start closed_up without_end
from_start [] = refl
from_start (x ∷ s) =
    cases (eqb x 32) (λ e. simp e (from_start s))
    (λ n. simp (n, last_stays x (without_end s) n, single_stays x (closed_up (without_end s)) n, none_owed s))

-- the pass does the four steps
pub cleaned_pass : (s : List ℕ) → cleaned s ≡ pass false false s
unfolding cleaned trimmed
cleaned_pass s =
    let k = kept_only (capitals s) in
    ap closed_up (end_is (trimmed_start k)) ∙ sym (pass_spacing s false false ∙ from_start k)

-- a turn of the pass at a space
pub pass_space : (x : ℕ) (s : List ℕ) (started owed : Bool) → capitalized x ≡ 32 → pass started owed (x ∷ s) ≡ pass started started s
unfolding pass
pass_space x s started owed e = simp (eq-eqb _ _ e)

module _ (x : ℕ) (s : List ℕ) (started owed : Bool) (no_space : capitalized x ≡ 32 → ⊥) where
  -- a turn at another character that stays
  pub pass_kept : kept (capitalized x) ≡ true → pass started owed (x ∷ s) ≡ space_if owed ++ capitalized x ∷ pass true false s
  unfolding pass
  pass_kept k = simp (ne_eqb _ _ no_space, k)

  -- a turn at a character that goes
  pub pass_dropped : kept (capitalized x) ≡ false → pass started owed (x ∷ s) ≡ pass started owed s
  unfolding pass
  pass_dropped k = simp (ne_eqb _ _ no_space, k)
