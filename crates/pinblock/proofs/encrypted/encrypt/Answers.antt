use Rattle.std.proofs.Common.{rules}
use Rattle.pinblock.specs.Entries.{encrypt}
use Rattle.pinblock.proofs.encrypted.encrypt.Goals as goal

pub returns : goal.returns
unfolding encrypt
returns c = search rules
