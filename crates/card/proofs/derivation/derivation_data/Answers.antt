use Rattle.std.proofs.Common.{arith}
use Rattle.std.proofs.lemmas.Grind.{common_steps}
use Rattle.card.specs.Entries.{derivation_data}
use Rattle.card.proofs.derivation.derivation_data.Goals as goal

pub returns-then-not-card_sized : goal.returns-then-not-card_sized
unfolding derivation_data
returns-then-not-card_sized c = grind (arith, common_steps)

pub returns-then-not-all_digits : goal.returns-then-not-all_digits
unfolding derivation_data
returns-then-not-all_digits c = grind (arith, common_steps)

pub returns : goal.returns
unfolding derivation_data
returns c = grind (arith, common_steps)
