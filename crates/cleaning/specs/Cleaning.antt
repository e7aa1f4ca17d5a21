-- Cleaning a text (01, The message and its MAC text; 5.2.3 of source documents 000 and 003).
use Rattle.std.specs.Prelude.{Bool, List, [], ◌∷◌, map, reverse, ℕ, leb, eqb, length}
use Rattle.lent.specs.Choice.{both, either, pick, only}
use Rattle.lent.specs.Characters.{capital, digit, capitalized}
use Rattle.lent.specs.Refusals.{size}
use Rattle.lent.specs.Result.{Result, done, require}

-- only 20 hex is a space
abbrev pub space : ℕ
space = 32

-- 2C hex
abbrev pub comma : ℕ
comma = 44

-- 2E hex
abbrev pub full_stop : ℕ
full_stop = 46

-- small letters become capitals
unfoldable pub capitals : List ℕ → List ℕ
capitals s = map capitalized s

-- A to Z, 0 to 9, space, comma and full stop
unfoldable pub kept : ℕ → Bool
kept x = either (capital x) (either (digit x) (either (eqb x space) (either (eqb x comma) (eqb x full_stop))))

-- only the kept characters stay
unfoldable pub kept_only : List ℕ → List ℕ
kept_only s = only kept s

-- spaces at the start go
unfoldable pub trimmed_start : List ℕ → List ℕ
trimmed_start [] = []
trimmed_start (x ∷ s) = pick (eqb x space) (trimmed_start s) (x ∷ s)

-- spaces at the end go: those at the start, seen from the end
unfoldable pub trimmed_end : List ℕ → List ℕ
trimmed_end s = reverse (trimmed_start (reverse s))

-- spaces at both ends go
unfoldable pub trimmed : List ℕ → List ℕ
trimmed s = trimmed_end (trimmed_start s)

-- a character before a text: a space before a space goes
abbrev pub unless_double : ℕ → List ℕ → List ℕ
unless_double x [] = x ∷ []
unless_double x (y ∷ s) = pick (both (eqb x space) (eqb y space)) (y ∷ s) (x ∷ y ∷ s)

-- each run of spaces becomes one
unfoldable pub closed_up : List ℕ → List ℕ
closed_up [] = []
closed_up (x ∷ s) = unless_double x (closed_up s)

-- the four steps in the paper's order
unfoldable pub cleaned : List ℕ → List ℕ
cleaned s = closed_up (trimmed (kept_only (capitals s)))

-- free text has at most 1,024 bytes
unfoldable pub clean_text : List ℕ → Result (List ℕ)
clean_text s = require (leb (length s) 1024) size (done (cleaned s))
