-- What the tables give together.
use Rattle.std.specs.Prelude.{List, [], ◌∷◌, ℕ, ◌/◌, ◌%◌, ◌^◌, length, get_or}
use Rattle.std.specs.Int.Bits.{bit_xor}
use Rattle.merged.specs.RoundWords.{box1, box2, box3, box4, box5, box6, box7, box8}
use Rattle.merged.specs.ChoiceWords.{choice_c, choice_d}

-- the tables of the eight S-boxes
abbrev pub boxes : List (List ℕ)
boxes = box1 ∷ box2 ∷ box3 ∷ box4 ∷ box5 ∷ box6 ∷ box7 ∷ box8 ∷ []

-- y and a word of each table, the one for its six bits of x, together by exclusive-or
unfoldable pub words : List (List ℕ) → ℕ → ℕ → ℕ
words [] x y = y
words (table ∷ tables) x y = words tables x (bit_xor y (get_or table (x / 64 ^ length tables % 64) 0))

-- the words for the eight six bits of x
unfoldable pub substituted : ℕ → ℕ
substituted x = words boxes x 0

-- the words for seven bits of C and seven of D
unfoldable pub choice : ℕ → ℕ → ℕ
choice c d = bit_xor (get_or choice_c (c % 128) 0) (get_or choice_d (d % 128) 0)
