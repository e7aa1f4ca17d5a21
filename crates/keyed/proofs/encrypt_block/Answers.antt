use Rattle.std.proofs.Common.{arith}
use Rattle.std.proofs.lemmas.Grind.{common_steps}
use Rattle.keyed.specs.Keyed.{encrypted_under, changed_block}
use Rattle.keyed.proofs.encrypt_block.Goals as goal

pub returns-in_err-x : goal.returns-in_err-x
unfolding changed_block
returns-in_err-x c = grind (arith, common_steps)

pub returns-in_err-try_from : goal.returns-in_err-try_from
unfolding changed_block
returns-in_err-try_from c = grind (arith, common_steps)

pub returns : goal.returns
unfolding changed_block encrypted_under
returns c = grind (arith, common_steps)
