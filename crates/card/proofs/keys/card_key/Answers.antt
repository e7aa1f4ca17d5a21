use Rattle.std.proofs.Common.{arith}
use Rattle.std.proofs.lemmas.Grind.{common_steps}
use Rattle.card.specs.Entries.{card_key}
use Rattle.card.proofs.keys.card_key.Goals as goal

pub returns-in_err-key : goal.returns-in_err-key
unfolding card_key
returns-in_err-key c = grind (arith, common_steps)

pub returns : goal.returns
unfolding card_key
returns c = grind (arith, common_steps)
