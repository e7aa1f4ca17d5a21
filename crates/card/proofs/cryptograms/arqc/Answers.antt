use Rattle.std.proofs.Common.{arith}
use Rattle.std.proofs.lemmas.Grind.{common_steps}
use Rattle.card.specs.Cryptograms.{arqc_word}
use Rattle.card.specs.Entries.{arqc}
use Rattle.card.proofs.cryptograms.arqc.Goals as goal

pub returns-in_err-key : goal.returns-in_err-key
unfolding arqc
returns-in_err-key c = grind (arith, common_steps)

pub returns-then-not-sized : goal.returns-then-not-sized
unfolding arqc
returns-then-not-sized c = grind (arith, common_steps)

pub returns : goal.returns
unfolding arqc arqc_word
returns c = grind (arith, common_steps)
