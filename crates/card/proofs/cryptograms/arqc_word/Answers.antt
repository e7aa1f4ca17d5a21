use Rattle.std.proofs.Common.{arith}
use Rattle.std.proofs.lemmas.Grind.{common_steps}
use Rattle.card.specs.Algorithm3.{mac_algorithm3}
use Rattle.card.proofs.cryptograms.arqc_word.Goals as goal

pub returns : goal.returns
unfolding mac_algorithm3
returns c = grind (arith, common_steps)
