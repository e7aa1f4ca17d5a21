use mathlib.Core.Path.{refl}
use Rattle.host.specs.SingleLength.{given_out}
use Rattle.host.proofs.keys.U64RegisterKey.given_out.Goals as goal

pub returns : goal.returns
unfolding given_out
returns c = refl
