use mathlib.Core.Path.{◌≡◌, ◌∙◌}
use Prim.Native.Nat.{◌+◌, ◌*◌}
use native.Mathlib.Omega.{arith}
use lib.ListN.{length, length-drop}
use Rattle.lent.proofs.Lists.{part_rest}
use Rattle.recordbytes.proofs.Bytes.{state_read}
use Rattle.terminalbytes.proofs.record.terminal_of.Goals as goal

pub returns : goal.returns
returns g c =
    let device = g.K.RegisterKey.device in
    let bytes = c.args.bytes.now in
    let long : length bytes ≡ 21 * device.size + 19 = omega (arith, c.record_size.ensures) in
    let rest = rw (c.size-at.ensures.value, part_rest (21 * device.size) bytes) at c.rest_of-rest.ensures in
    let said = rest (rw (length-drop (21 * device.size) bytes) (omega (arith, long))) in
    let keys = rw c.size-at.ensures.value at c.registers_of-keys.ensures in
    (long, c.new.ensures ∙ state_read device bytes keys said.0 said.1)
