use Rattle.std.proofs.Common.{rules}
use Rattle.cipher.specs.Private.{picked, from_windows}
use Rattle.cipher.proofs.key_schedule.round_key.Goals as goal

pub returns : goal.returns
unfolding picked from_windows
returns c = search rules
