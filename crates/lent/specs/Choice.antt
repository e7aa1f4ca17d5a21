-- Tests that compute, and choices by them.
use Rattle.std.specs.Prelude.{Bool, true, false, List, [], ◌∷◌, ℕ, leb}

-- both tests hold
abbrev pub both : Bool → Bool → Bool
both true b = b
both false b = false

-- at least one of the tests holds
abbrev pub either : Bool → Bool → Bool
either true b = true
either false b = b

-- a where the test holds, else b
abbrev pub pick : {A : Type 0} → Bool → A → A → A
pick true a b = a
pick false a b = b

-- x is from lo to hi
abbrev pub between : ℕ → ℕ → ℕ → Bool
between lo hi x = both (leb lo x) (leb x hi)

-- every element passes the test
abbrev pub all : (ℕ → Bool) → List ℕ → Bool
all p [] = true
all p (x ∷ s) = both (p x) (all p s)

-- at least one element passes the test
abbrev pub any : {A : Type 0} → (A → Bool) → List A → Bool
any p [] = false
any p (x ∷ s) = either (p x) (any p s)

-- the elements that pass the test, and no others
abbrev pub only : {A : Type 0} → (A → Bool) → List A → List A
only p [] = []
only p (x ∷ s) = pick (p x) (x ∷ only p s) (only p s)
