use mathlib.Core.Path.{◌≡◌}
use Rattle.registers.specs.Machine.{fill, stepped}
use Rattle.terminal.proofs.filling.filled_from.Given as goal

abbrev pub invariant-loop-b : goal.invariant-loop-b
invariant-loop-b g l = l.filled ≡ fill l.b (stepped g.K.RegisterKey.device l.key l.tail.word l.c) l.fn.keys
