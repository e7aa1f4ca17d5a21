-- Demand 3 of the terminal, and that its record and the state in it are the same thing.
use mathlib.Core.Path.{◌≡◌}
use Rattle.registers.specs.Demand.{Demand3}
use Rattle.registers.specs.Records.{by_record}
use Rattle.registers.proofs.Laws as registers
use Rattle.doublehost.specs.declared.keys.DoubleKey.{DoubleKey}
use Rattle.doublehost.specs.DoubleLength.{double_length}
use Rattle.doublehost.proofs.Laws.{lawful}
use Rattle.doubleterminal.specs.View.{view}
use Rattle.terminal.specs.declared.state.Terminal.{Terminal}
use Rattle.terminal.proofs.Laws as terminal

pub demand3 : Demand3 double_length (by_record double_length)
demand3 = registers.demand3 double_length lawful

-- records with the same state are the same
pub view_same : {t u : Terminal DoubleKey} → view t ≡ view u → t ≡ u
view_same e = terminal.view_same e
