use Rattle.std.proofs.Common.{arith}
use Rattle.std.proofs.lemmas.Grind.{common_steps}
use Rattle.card.specs.Entries.{unadjusted_card_key}
use Rattle.card.specs.Turned.{turned}
use Rattle.card.proofs.keys.unadjusted_card_key.Goals as goal

pub returns-in_err-key : goal.returns-in_err-key
unfolding unadjusted_card_key
returns-in_err-key c = grind (arith, common_steps)

pub returns-in_err-derivation_data : goal.returns-in_err-derivation_data
unfolding unadjusted_card_key
returns-in_err-derivation_data c = grind (arith, common_steps)

pub returns : goal.returns
unfolding unadjusted_card_key turned
returns c = grind (arith, common_steps)
