-- Demand 3 of the C calls of the double-length terminal.
use Rattle.registers.specs.Demand.{Demand3}
use Rattle.doublehost.specs.DoubleLength.{double_length}
use Rattle.doublehost.proofs.Laws.{lawful}
use Rattle.recordbytes.specs.Records.{by_bytes}
use Rattle.recordbytes.proofs.Theorem.{bytes_demand3}

pub demand3 : Demand3 double_length (by_bytes double_length)
demand3 = bytes_demand3 double_length lawful
