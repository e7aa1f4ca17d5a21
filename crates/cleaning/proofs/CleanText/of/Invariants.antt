use mathlib.Core.Path.{◌≡◌}
use mathlib.Core.Bool.{Bool, not}
use mathlib.Core.List.{List, ◌++◌}
use Prim.Native.Nat.{ℕ, ◌+◌, ◌≤◌}
use lib.Dec.{eqb}
use lib.ListN.{length, drop}
use Rattle.cleaning.specs.Cleaning.{cleaned}
use Rattle.cleaning.specs.Counts.{dropped_from}
use Rattle.cleaning.proofs.Pass.{space_if, pass}
use Rattle.cleaning.proofs.CleanText.of.Given as goal

pub record Turn (text written : List ℕ) (d : ℕ) (owed : Bool) (i : ℕ) : Type 0 where
  pub rest : written ++ pass (not (eqb (length written) 0)) owed (drop i text) ≡ cleaned text
  pub dropped : d + dropped_from (drop i text) ≡ dropped_from text
  pub few : d ≤ i
  pub not_ahead : length written + length (space_if owed) ≤ i

-- with what the pass writes for the rest, what is written is the cleaned text, and with what is dropped there all that is dropped
abbrev pub invariant-loop-x : goal.invariant-loop-x
invariant-loop-x l = Turn l.text l.written.items l.dropped l.owed l.x-index
