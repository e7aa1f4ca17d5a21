use Rattle.registers.specs.SerialNumber.{with_counter}
use Rattle.registers.proofs.serial_number.with_counter.Goals as goal

pub returns : goal.returns
unfolding with_counter
returns c =
    rw (
      c.eighth_byte.ensures,
      c.byte_at-8.ensures,
      c.byte_at-7.ensures,
      c.byte_at-6.ensures,
      c.byte_at-5.ensures,
      c.byte_at-4.ensures,
      c.byte_at-3.ensures,
      c.byte_at-2.ensures,
      c.byte_at.ensures,
    )
