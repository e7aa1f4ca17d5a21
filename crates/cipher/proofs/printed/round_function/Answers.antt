use Rattle.cipher.specs.Rounds.{round_function}
use Rattle.cipher.proofs.printed.round_function.Goals as goal

pub returns : goal.returns
unfolding round_function
returns c = simp (c.substitute.ensures, c.expand.ensures) at c.round_permutation.ensures
