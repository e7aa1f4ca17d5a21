use Rattle.std.proofs.Common.{arith}
use Rattle.std.proofs.lemmas.Grind.{common_steps}
use Rattle.pinblock.specs.CardNumber.{pin_block_with_card}
use Rattle.pinblock.specs.Entries.{make_with_card}
use Rattle.pinblock.proofs.making.make_with_card.Goals as goal

pub returns-then-not-card_sized : goal.returns-then-not-card_sized
unfolding make_with_card
returns-then-not-card_sized c = grind (arith, common_steps)

pub returns-in_err-pin_block : goal.returns-in_err-pin_block
unfolding make_with_card
returns-in_err-pin_block c = grind (arith, common_steps)

pub returns-in_err-card_part : goal.returns-in_err-card_part
unfolding make_with_card
returns-in_err-card_part c = grind (arith, common_steps)

pub returns : goal.returns
unfolding make_with_card pin_block_with_card
returns c = grind (arith, common_steps)
