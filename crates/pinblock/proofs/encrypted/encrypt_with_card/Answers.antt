use Rattle.std.proofs.Common.{rules}
use Rattle.pinblock.specs.Entries.{encrypt_with_card}
use Rattle.pinblock.proofs.encrypted.encrypt_with_card.Goals as goal

pub returns : goal.returns
unfolding encrypt_with_card
returns c = search rules
