use Rattle.doublehost.specs.DoubleLength.{initial_pair}
use Rattle.doublehost.proofs.device.DoubleKeyRegisterKey.initial.Goals as goal

pub returns : goal.returns
unfolding initial_pair
returns c = rw (c.tripled-2.ensures, c.tripled.ensures, c.masked-masked_key.ensures, c.read-key.ensures)
