use Rattle.host.specs.SingleLength.{one_way}
use Rattle.host.proofs.keys.U64RegisterKey.one_way.Goals as goal

pub returns : goal.returns
unfolding one_way
returns c = c.step.ensures
