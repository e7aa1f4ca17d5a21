use Rattle.std.proofs.Common.{arith}
use Rattle.std.proofs.lemmas.Grind.{common_steps}
use Rattle.lent.proofs.Results.{same_writes}
use Rattle.pinblock.proofs.Writing.{stopped}
use Rattle.pinblock.specs.Entries.{read}
use Rattle.pinblock.proofs.reading.read.Goals as goal

pub returns-in_err-block_word : goal.returns-in_err-block_word
unfolding read
returns-in_err-block_word c = stopped c.in_err-block_word.field-0.0 (grind (arith, common_steps)) (grind (arith, common_steps))

pub returns : goal.returns
unfolding read
returns c = same_writes (grind (arith, common_steps)) c.read_word.ensures
