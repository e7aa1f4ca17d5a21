use borrow.Author.Tests.{eq-eqb, ne_eqb}
use Rattle.std.proofs.Common.{arith}
use Rattle.std.proofs.lemmas.Grind.{common_steps}
use Rattle.lent.proofs.Results.{refused_writes, same_writes}
use Rattle.pinblock.specs.Reading.{pin_if_made}
use Rattle.pinblock.proofs.Readings.{pin_made}
use Rattle.pinblock.proofs.reading.pin_if_made.Goals as goal

pub returns-in-Ok : goal.returns-in-Ok
unfolding pin_if_made
returns-in-Ok c =
    let m = pin_made c.args.pin.now c.pin_block.ensures c.in-Ok.is in
    same_writes (rw (m.0, m.1, eq-eqb _ _ c.if-made-block.true)) c.lend.ensures

pub returns-in_default : goal.returns-in_default
unfolding pin_if_made
returns-in_default c =
    let m = pin_made c.args.pin.now c.pin_block.ensures c.in-Ok.is in
    refused_writes (rw (m.0, m.1, ne_eqb _ _ c.if-made-block.false))

pub returns-in_default-2 : goal.returns-in_default-2
unfolding pin_if_made
returns-in_default-2 c = refused_writes (grind (arith, common_steps))
