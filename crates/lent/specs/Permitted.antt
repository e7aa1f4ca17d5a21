-- Only contracts of functions that are no entry cite this: the tests that a text has to pass before a block is made of it.
use Rattle.std.specs.Prelude.{Bool, List, ℕ, length}
use Rattle.std.specs.Bool.{⊤}
use Rattle.lent.specs.Choice.{between, all}
use Rattle.lent.specs.Refusals.{size, character}
use Rattle.lent.specs.Result.{Result, done, require}

-- least to most characters, each of which passes a test; the refusal of another number comes first
abbrev pub permitted : ℕ → ℕ → (ℕ → Bool) → List ℕ → Result ⊤
permitted least most p text = require (between least most (length text)) size (require (all p text) character (done tt))
