-- Bytes as parts of given sizes, one after the other.
use Rattle.std.specs.Prelude.{List, [], ◌∷◌, ◌++◌, ℕ, ◌+◌, take, drop}

-- the parts one after the other
abbrev pub joined : List (List ℕ) → List ℕ
joined [] = []
joined (part ∷ parts) = part ++ joined parts

-- bytes cut into parts of these sizes
abbrev pub cut : List ℕ → List ℕ → List (List ℕ)
cut [] s = []
cut (size ∷ sizes) s = take size s ∷ cut sizes (drop size s)

-- the sizes added up
abbrev pub total : List ℕ → ℕ
total [] = 0
total (size ∷ sizes) = size + total sizes
