use Rattle.registers.specs.Machine.{position_at}
use Rattle.registers.proofs.positions.Position.at.Goals as goal

pub returns : goal.returns
unfolding position_at
returns c = rw c.filled_mask.ensures
