-- Laws on cleaned texts that other crates cite.
use borrow.Author.Tests.{le-leb, lt-leb, leb-true}
use mathlib.Core.Path.{◌≡◌, refl}
use mathlib.Core.Bool.{Bool, true, false}
use mathlib.Core.List.{List, [], ◌∷◌, ◌++◌}
use Prim.Native.Nat.{ℕ, ◌-◌, ◌<◌, ◌≤◌}
use native.Mathlib.Omega.{arith}
use lib.Dec.{leb, eqb}
use lib.ListN.{length, length-append}
use Rattle.lent.specs.Characters.{digit, small, capitalized}
use Rattle.lent.specs.Result.{done, lend}
use Rattle.lent.proofs.Laws.{cases, between_true}
use Rattle.cleaning.specs.Cleaning.{kept, cleaned, clean_text}
use Rattle.cleaning.proofs.Pass.{space_if, pass, cleaned_pass, pass_kept}
use Rattle.cleaning.proofs.Counting.{sizes}

capitalized_again : (x : ℕ) → capitalized (capitalized x) ≡ capitalized x
unfolding capitalized
capitalized_again x =
    cases (small x)
    (λ t. let h = between_true 97 122 x t in simp (t, lt-leb 97 (x - 32) (omega arith)))
    (λ f. simp f)

again : (s : List ℕ) (started owed : Bool) → (owed ≡ true → started ≡ true) → pass started false (pass started owed s) ≡ pass started owed s
unfolding pass capitalized
again [] started owed g = refl
again (x ∷ s) started owed g =
    cases (eqb (capitalized x) 32) (λ e. simp e (again s started started (λ t. t)))
    (λ n. cases (kept (capitalized x)) (λ k. simp (n, k) (written n k (again s true false (λ t. refl)) started owed g)) (λ k. simp (n, k) (again s started owed g)))
  where
    written : eqb (capitalized x) 32 ≡ false → kept (capitalized x) ≡ true → pass true false (pass true false s) ≡ pass true false s → (started owed : Bool) → (owed ≡ true → started ≡ true)
        → pass started false (space_if owed ++ capitalized x ∷ pass true false s) ≡ space_if owed ++ capitalized x ∷ pass true false s
    written n k r started false g = simp (capitalized_again x, n, k, r)
    written n k r started true g = rw (g refl) (simp (capitalized_again x, n, k, r))

-- cleaning a cleaned text changes nothing
pub cleaned_again : (s : List ℕ) → cleaned (cleaned s) ≡ cleaned s
cleaned_again s = simp cleaned_pass (again s false false (λ t. t))

-- a cleaned text is at most as long as the text
pub cleaned_short : (s : List ℕ) → length (cleaned s) ≤ length s
cleaned_short s = omega (arith, sizes s)

module _ (x : ℕ) (s : List ℕ) (no_space : capitalized x ≡ 32 → ⊥) (stays : kept (capitalized x) ≡ true) where
  pass_some : (p : List ℕ) (started owed : Bool) → 0 < length (pass started owed (p ++ x ∷ s))
  unfolding pass
  pass_some [] started owed = rw (pass_kept x s started owed no_space stays, length-append) (omega arith)
  pass_some (y ∷ p) started owed =
      cases (eqb (capitalized y) 32) (λ e. simp e (pass_some p started started))
      (λ n.
      cases (kept (capitalized y))
      (λ k. simp (n, k, length-append) (omega arith))
      (λ k. simp (n, k) (pass_some p started owed)))

  -- a text with a character that stays and is no space has a cleaned text that is not empty
  cleaned_some : (p : List ℕ) → 0 < length (cleaned (p ++ x ∷ s))
  cleaned_some p = rw cleaned_pass (pass_some p false false)

-- so has a text with a digit
pub cleaned_digit : (x : ℕ) (s p : List ℕ) → digit x ≡ true → 0 < length (cleaned (p ++ x ∷ s))
unfolding capitalized kept
cleaned_digit x s p d =
    let h = between_true 48 57 x d in
    let same : capitalized x ≡ x = simp (lt-leb 97 x (omega arith)) in
    cleaned_some x s (λ z. omega arith) (rw same (simp (lt-leb 65 x (omega arith), d))) p

-- a text of at most 1,024 bytes is cleaned
pub clean_done : (s : List ℕ) → length s ≤ 1024 → clean_text s ≡ done (cleaned s)
unfolding clean_text
clean_done s h = simp (le-leb _ _ h)

-- every cleaned text has room in 1,024 bytes
pub clean_fits : (s : List ℕ) → lend 1024 (clean_text s) ≡ clean_text s
unfolding clean_text
clean_fits s =
    cases (leb (length s) 1024)
    (λ t.
    let h : length s ≤ 1024 = leb-true _ _ t in
    simp (t, le-leb (length (cleaned s)) 1024 (omega (arith, cleaned_short s))))
    (λ f. simp f)
