use Rattle.std.proofs.Common.{arith}
use Rattle.std.proofs.lemmas.Grind.{common_steps}
use Rattle.pinblock.specs.Entries.{make}
use Rattle.pinblock.proofs.making.make.Goals as goal

pub returns-in_err-pin_block : goal.returns-in_err-pin_block
unfolding make
returns-in_err-pin_block c = grind (arith, common_steps)

pub returns : goal.returns
unfolding make
returns c = grind (arith, common_steps)
