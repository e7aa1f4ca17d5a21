use borrow.Author.Tests.{eq-eqb, ne_eqb}
use mathlib.Core.Path.{◌≡◌, sym, ◌∙◌}
use lib.ListN.{length}
use Rattle.lent.specs.Refusals.{size}
use Rattle.lent.specs.Result.{refused}
use Rattle.registers.specs.Machine.{loaded}
use Rattle.registers.specs.Calls.{loading}
use Rattle.registers.proofs.Laws.{load_done}
use Rattle.terminal.specs.View.{view}
use Rattle.terminal.proofs.state.Terminal.load.Goals as goal
use Rattle.terminal.proofs.state.Terminal.load.Goals.{then-initial_key-size-via-then-initial_key-size, then-initial_key-size-via-else-initial_key-size+then-serial_number-ne10}

pub returns-then-initial_key-size : goal.returns-then-initial_key-size
unfolding loading
returns-then-initial_key-size g c =
    let e : loading g.K.RegisterKey.device c.args.initial_key.now c.args.serial_number.now ≡ refused size = elim c.then-initial_key-size.branch [
      | then-initial_key-size-via-then-initial_key-size w ↦ simp (ne_eqb _ _ (λ same. w.if-initial_key-size.true (same ∙ sym c.size.ensures.value)))
      | then-initial_key-size-via-else-initial_key-size+then-serial_number-ne10 w ↦ simp (eq-eqb _ _ (w.if-initial_key-size.false ∙ c.size.ensures.value), ne_eqb _ _ w.if-serial_number-ne10.true)
    ] in
    record { state = sym e; load = record { number = rw e; state = rw e } }

pub returns : goal.returns
unfolding loaded loading
returns g c =
    let device = g.K.RegisterKey.device in
    let a = c.args in
    let sized : length a.initial_key.now ≡ device.size = c.if-initial_key-size.false ∙ c.size.ensures.value in
    let s : view (record { keys = c.filled_from-keys.result; serial = c.with_counter.result; position = c.at.result }) ≡ loaded device (device.read a.initial_key.now) a.serial_number.now =
    rw (c.at.ensures, c.with_counter.ensures, c.filled_from-keys.ensures, c.cleared_tail-tail.ensures, c.read-key.ensures, c.empty.ensures) in
    record {
      state = rw s (simp (eq-eqb _ _ sized, eq-eqb _ _ c.if-serial_number-ne10.false));
      load = load_done device _ _ sized c.if-serial_number-ne10.false s;
    }
