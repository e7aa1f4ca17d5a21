use native.Mathlib.Omega.{arith}
use Rattle.registers.specs.SerialNumber.{cleared_head}
use Rattle.registers.proofs.serial_number.cleared_head.Goals as goal

pub returns : goal.returns
unfolding cleared_head
returns c = omega (arith, c.word_of-x.ensures)
