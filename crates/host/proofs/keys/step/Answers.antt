use Rattle.host.specs.SingleLength.{step}
use Rattle.host.proofs.keys.step.Goals as goal

pub returns : goal.returns
unfolding step
returns c = rw c.encrypt.ensures
