-- Only the contract of a private function cites this: what the pass over a text makes.
use Rattle.std.specs.Prelude.{◌≡◌, List, ℕ}
use Rattle.lent.specs.Result.{done}
use Rattle.cleaning.specs.Cleaning.{cleaned}
use Rattle.cleaning.specs.Counts.{counts_of}
use Rattle.cleaning.specs.declared.CleanText.{CleanText}

-- the cleaned text, and what was thrown away
pub record IsCleaned (s : List ℕ) (c : CleanText) : Type 0 where
  pub text : c.text.items ≡ cleaned s
  pub counts : c.counts ≡ counts_of (done s)
