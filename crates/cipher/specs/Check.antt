-- The checks of the self-test and their numbers.
use Rattle.std.specs.Prelude.{ℕ}
use Rattle.cipher.specs.declared.checks.Check.{Check}
use Rattle.cipher.specs.declared.checks.Check.TheVariants.{MergedWords, ChoiceWords, InitialPermutation, FinalPermutation, Expansion, RoundKeys, Examples}

-- the number of a check, in the order of the self-test
abbrev pub number : Check → ℕ
number MergedWords = 1
number ChoiceWords = 2
number InitialPermutation = 3
number FinalPermutation = 4
number Expansion = 5
number RoundKeys = 6
number Examples = 7
