-- Texts held to one another.
use Rattle.std.specs.Prelude.{Bool, true, false, List, [], ◌∷◌, ℕ, eqb, length}
use Rattle.lent.specs.Choice.{both}

-- a text stands at the start of s
unfoldable pub starts_with : List ℕ → List ℕ → Bool
starts_with [] s = true
starts_with (x ∷ text) [] = false
starts_with (x ∷ text) (y ∷ s) = both (eqb y x) (starts_with text s)

-- s is the text: it starts with it, and is as long
unfoldable pub same : List ℕ → List ℕ → Bool
same text s = both (eqb (length s) (length text)) (starts_with text s)
