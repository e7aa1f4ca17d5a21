use Rattle.registers.specs.SerialNumber.{counter_of}
use Rattle.registers.proofs.serial_number.counter_of.Goals as goal

pub returns : goal.returns
unfolding counter_of
returns c = rw (c.from-high.ensures, c.from-middle.ensures, c.from-low.ensures, c.byte_at.ensures, c.byte_at-2.ensures, c.byte_at-3.ensures)
