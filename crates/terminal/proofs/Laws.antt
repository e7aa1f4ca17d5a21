-- Demand 3 of the terminal, and that its record and the state in it are the same thing.
use mathlib.Core.Path.{◌≡◌, ap}
use Rattle.registers.specs.Machine.{State, position_of}
use Rattle.registers.specs.Demand.{Demand3}
use Rattle.registers.specs.Records.{by_record}
use Rattle.registers.proofs.Laws as registers
use Rattle.host.specs.SingleLength.{single_length}
use Rattle.host.proofs.Laws.{lawful}
use Rattle.terminal.specs.View.{view}
use Rattle.terminal.specs.declared.state.Terminal.{Terminal}

pub demand3 : Demand3 single_length (by_record single_length)
demand3 = registers.demand3 single_length lawful

-- records with the same state are the same
pub view_same : {K : Type 0} {t u : Terminal K} → view t ≡ view u → t ≡ u
view_same {K} e = ap (λ (s : State K). record { keys = s.keys; serial = s.serial; position = position_of s }) e
