-- The arguments by which a program is asked what it is: -h and --help.
use Rattle.std.specs.Prelude.{◌≡◌, ◌⊎◌, List, [], ◌∷◌, ℕ}

-- `-h` in ASCII
abbrev pub short : List ℕ
short = 45 ∷ 104 ∷ []

-- `--help` in ASCII
abbrev pub long : List ℕ
long = 45 ∷ 45 ∷ 104 ∷ 101 ∷ 108 ∷ 112 ∷ []

-- an argument that is one of the two
abbrev pub AsksForHelp : List ℕ → Type 0
AsksForHelp argument = (argument ≡ short) ⊎ (argument ≡ long)
