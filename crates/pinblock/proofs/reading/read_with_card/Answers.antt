use Rattle.std.proofs.Common.{arith}
use Rattle.std.proofs.lemmas.Grind.{common_steps}
use Rattle.lent.proofs.Results.{same_writes}
use Rattle.pinblock.proofs.Writing.{stopped}
use Rattle.pinblock.specs.Entries.{read_with_card}
use Rattle.pinblock.proofs.reading.read_with_card.Goals as goal

pub returns-in_err-block_word : goal.returns-in_err-block_word
unfolding read_with_card
returns-in_err-block_word c = stopped c.in_err-block_word.field-0.0 (grind (arith, common_steps)) (grind (arith, common_steps))

pub returns : goal.returns
unfolding read_with_card
returns c = same_writes (grind (arith, common_steps)) c.read_word.ensures

pub returns-in_err-card_part : goal.returns-in_err-card_part
unfolding read_with_card
returns-in_err-card_part c = stopped c.in_err-card_part.field-0.0 (grind (arith, common_steps)) (grind (arith, common_steps))
