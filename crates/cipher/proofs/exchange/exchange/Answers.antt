use mathlib.Core.Path.{refl}
use Rattle.cipher.specs.Private.{exchanged}
use Rattle.cipher.proofs.exchange.exchange.Goals as goal

pub returns : goal.returns
unfolding exchanged
returns c = refl
