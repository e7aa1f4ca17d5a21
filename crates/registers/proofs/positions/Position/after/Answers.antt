use mathlib.Core.Path.{ap, ◌∙◌}
use Rattle.registers.specs.Machine.{position_at, position_after}
use Rattle.registers.proofs.positions.Position.after.Goals as goal

pub returns : goal.returns
unfolding position_after
returns c = c.at.ensures ∙ ap position_at c.next_counter.ensures
