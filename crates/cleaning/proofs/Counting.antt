-- Laws on what cleaning throws away.
use borrow.Author.Tests.{ne_eqb}
use mathlib.Core.Path.{◌≡◌, refl, ◌∙◌}
use mathlib.Core.Bool.{Bool, true, false}
use mathlib.Core.List.{List, [], ◌∷◌, ◌++◌}
use Prim.Native.Nat.{ℕ, ◌+◌, ◌-◌, ◌≤◌}
use native.Mathlib.Omega.{arith}
use lib.Dec.{eqb}
use lib.ListN.{length, length-append}
use Rattle.lent.specs.Characters.{small, capitalized}
use Rattle.lent.proofs.Laws.{cases, between_true, within}
use Rattle.cleaning.specs.Cleaning.{kept, cleaned}
use Rattle.cleaning.specs.Counts.{stays, dropped_from, spaces_in, spaces_out_of}
use Rattle.cleaning.proofs.Pass.{space_if, at_most_one, pass, space_kept, cleaned_pass}

-- a character stays exactly if its capital is kept
stays_kept : (x : ℕ) → stays x ≡ kept (capitalized x)
unfolding stays kept capitalized
stays_kept x =
    cases (small x)
    (λ t. let h = between_true 97 122 x t in simp (t, within 65 90 (x - 32) (omega arith) (omega arith)))
    (λ f. simp f)

-- no other character becomes a space
space_alone : (x : ℕ) → eqb x 32 ≡ eqb (capitalized x) 32
unfolding capitalized
space_alone x =
    cases (small x)
    (λ t.
    let h = between_true 97 122 x t in
    simp (t, ne_eqb x 32 (λ e. omega arith), ne_eqb (x - 32) 32 (λ e. omega arith)))
    (λ f. simp f)

pub nothing_dropped : dropped_from [] ≡ 0
unfolding dropped_from
nothing_dropped = refl

-- a kept character before a text adds nothing to what is dropped, any other adds one; a space adds one to the spaces, any other adds none
module _ (x : ℕ) (s : List ℕ) where
  pub none_dropped : kept (capitalized x) ≡ true → dropped_from (x ∷ s) ≡ dropped_from s
  unfolding dropped_from
  none_dropped k = simp (stays_kept x ∙ k)

  pub one_dropped : kept (capitalized x) ≡ false → dropped_from (x ∷ s) ≡ 1 + dropped_from s
  unfolding dropped_from
  one_dropped k = simp (stays_kept x ∙ k) (omega arith)

  one_space : eqb (capitalized x) 32 ≡ true → spaces_in (x ∷ s) ≡ 1 + spaces_in s
  unfolding spaces_in
  one_space e = simp (space_alone x ∙ e) (omega arith)

  no_space : eqb (capitalized x) 32 ≡ false → spaces_in (x ∷ s) ≡ spaces_in s
  unfolding spaces_in
  no_space n = simp (space_alone x ∙ n)

-- a space that is owed, and a character that is none, before a text
owed_spaces : (owed : Bool) (y : ℕ) (s : List ℕ) → eqb y 32 ≡ false → spaces_in (space_if owed ++ y ∷ s) ≡ length (space_if owed) + spaces_in s
unfolding spaces_in
owed_spaces true y s n = simp n (omega arith)
owed_spaces false y s n = simp n (omega arith)

-- Of the rest of a text, what is dropped, the spaces and what is written are as many as its bytes and the spaces that are written. Of these there are
-- no more than the text has and is owed.
balance : (s : List ℕ) (started owed : Bool)
    → let r = pass started owed s in (dropped_from s + spaces_in s + length r ≡ length s + spaces_in r) × (spaces_in r ≤ spaces_in s + length (space_if owed))
unfolding pass
balance [] started owed = omega (arith, nothing_dropped)
balance (x ∷ s) started owed =
    let y = capitalized x in
    cases (eqb y 32)
    (λ e.
    let b = balance s started started in
    simp e (omega (arith, b.0, b.1, at_most_one started, one_space x s e, none_dropped x s (space_kept y e))))
    (λ n.
    cases (kept y)
    (λ k.
    let b = balance s true false in
    simp (n, k, length-append) (omega (arith, b.0, b.1, no_space x s n, none_dropped x s k, owed_spaces owed y (pass true false s) n)))
    (λ k.
    let b = balance s started owed in
    simp (n, k) (omega (arith, b.0, b.1, no_space x s n, one_dropped x s k))))

-- a cleaned text has no more spaces than the text, so that the spaces that go out are their difference
pub no_more_spaces : (s : List ℕ) → spaces_in (cleaned s) ≤ spaces_in s
no_more_spaces s = rw cleaned_pass (omega (arith, (balance s false false).1))

-- a text's size is that of the cleaned text, with the bytes that are dropped and the spaces that go out
pub sizes : (s : List ℕ) → length s ≡ length (cleaned s) + dropped_from s + spaces_out_of s
unfolding spaces_out_of
sizes s = let b = balance s false false in rw cleaned_pass (omega (arith, b.0, b.1))
