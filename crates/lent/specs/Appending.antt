-- A value written into lent memory after bytes that stand there.
use Rattle.std.specs.Prelude.{List, ◌++◌, ℕ, leb, length, take}
use Rattle.lent.specs.Refusals.{short_buffer}
use Rattle.lent.specs.Result.{Result, done, require}

-- the first n bytes of memory, then the value; memory that has fewer is too short
abbrev pub appending : List ℕ → List ℕ → ℕ → Result (List ℕ)
appending value memory n = require (leb n (length memory)) short_buffer (done (take n memory ++ value))
