-- Only the contract of a private function cites this: a MAC that is written into lent memory.
use Rattle.std.specs.Prelude.{◌≡◌, List, ℕ}
use Rattle.lent.specs.Result.{Result}
use Rattle.cleaning.specs.Counts.{WritesText}
use Rattle.cleaning.specs.declared.answers.Cleaned.{Cleaned}
use Rattle.mac.specs.Mac.{counted_mac}
use Rattle.mac.specs.declared.Mac.{Mac}

-- Whatever MAC of a text it is, it is written with what cleaning threw away.
abbrev pub WritesMac : Result Mac → List ℕ → Result Cleaned → List ℕ → Type 0
WritesMac mac before r after = (answer raw : Result (List ℕ)) → mac ≡ counted_mac answer raw → WritesText answer raw before r after
