use Rattle.doublehost.specs.DoubleLength.{given_out}
use Rattle.doublehost.proofs.device.DoubleKeyRegisterKey.given_out.Goals as goal

pub returns : goal.returns
unfolding given_out
returns c = rw (c.given_out.ensures, c.given_out-2.ensures)
