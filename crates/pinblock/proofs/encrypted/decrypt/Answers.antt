use Rattle.std.proofs.Common.{arith}
use Rattle.std.proofs.lemmas.Grind.{common_steps}
use Rattle.lent.proofs.Results.{same_writes}
use Rattle.pinblock.proofs.Writing.{stopped}
use Rattle.pinblock.specs.Entries.{decrypt}
use Rattle.pinblock.proofs.encrypted.decrypt.Goals as goal

pub returns-in_err-decrypt_block : goal.returns-in_err-decrypt_block
unfolding decrypt
returns-in_err-decrypt_block c = stopped c.in_err-decrypt_block.field-0.0 (grind (arith, common_steps)) (grind (arith, common_steps))

pub returns : goal.returns
unfolding decrypt
returns c = same_writes (grind (arith, common_steps)) c.read.ensures
