use borrow.Author.Tests.{lt-leb}
use mathlib.Core.Path.{refl, ◌∙◌}
use native.Mathlib.Omega.{arith}
use lib.ListN.{length}
use Rattle.lent.specs.Refusals.{short_buffer}
use Rattle.registers.proofs.Laws.{next_short, refused_next, given_next}
use Rattle.terminal.specs.View.{view}
use Rattle.terminal.proofs.state.Terminal.next_key.Goals as goal

pub returns-then-out-size : goal.returns-then-out-size
returns-then-out-size g c =
    let device = g.K.RegisterKey.device in
    let ready = c.in-Ok.ensures in
    rw c.refused-then-out-size.ensures
    (refused_next device short_buffer
    (next_short device (view c.args.self) _ ready.valid ready.running (lt-leb device.size (length c.args.out.now) (omega (arith, c.size.ensures.value, c.if-out-size.true)))))

pub returns : goal.returns
returns g c =
    let device = g.K.RegisterKey.device in
    let ready = c.in-Ok.ensures in
    let written = c.copy_from_slice.ensures.after ∙ c.as_slice.ensures ∙ c.bytes.ensures in
    given_next device {key = c.given_key.result} ready.valid ready.running (omega (arith, c.size.ensures.value, c.if-out-size.false)) refl ready.counter
    (rw ready.counter at c.with_counter.ensures) (c.after_key.ensures ready.counter) (rw ready.counter at c.given_key.ensures)
    (rw (written, c.size-2.ensures.value, g.met.K.RegisterKey.lawful.sized c.given_key.result))
