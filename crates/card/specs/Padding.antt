-- Padding of card data (01, The card's keys and cryptograms; ISO/IEC 9797-1, padding method 2).
use Rattle.std.specs.Prelude.{List, ◌∷◌, ◌++◌, ℕ, ◌-◌, ◌%◌, length, replicate}

-- 80 hex, always, then zeros to a multiple of 8
unfoldable pub padded : List ℕ → List ℕ
padded s = s ++ 128 ∷ replicate (7 - length s % 8) 0
