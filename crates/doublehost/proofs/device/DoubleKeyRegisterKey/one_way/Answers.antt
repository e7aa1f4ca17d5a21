use Rattle.doublehost.specs.DoubleLength.{one_way}
use Rattle.doublehost.proofs.device.DoubleKeyRegisterKey.one_way.Goals as goal

pub returns : goal.returns
unfolding one_way
returns c = rw (c.stepped-2.ensures, c.stepped.ensures, c.masked-masked_key.ensures)
