use Rattle.std.proofs.Common.{arith}
use Rattle.std.proofs.lemmas.Grind.{common_steps}
use Rattle.pinblock.specs.Entries.{under_key}
use Rattle.pinblock.proofs.encrypted.under_key.Goals as goal

pub returns-then-not-key_sized : goal.returns-then-not-key_sized
unfolding under_key
returns-then-not-key_sized c = grind (arith, common_steps)

pub returns-in_err-made : goal.returns-in_err-made
unfolding under_key
returns-in_err-made c = grind (arith, common_steps)

pub returns : goal.returns
unfolding under_key
returns c = grind (arith, common_steps)
