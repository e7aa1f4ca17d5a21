use mathlib.Core.Path.{◌∙◌}
use Rattle.registers.proofs.Laws.{spent_ends, spent_goes_on}
use Rattle.terminal.specs.View.{view}
use Rattle.terminal.proofs.state.Terminal.after_key.Goals as goal
use Rattle.terminal.proofs.state.Terminal.after_key.Goals.{then-position, else-position}

pub returns : goal.returns
returns g c = λ e.
    let t = c.args.self.now in
    let device = g.K.RegisterKey.device in
    let position = rw e at c.after-position.ensures in
    elim c.if-position.branch [
      | then-position w ↦ rw (w.keys-is, w.empty.ensures) (spent_ends device (view t) position w.if-position.true)
      | else-position w ↦ spent_goes_on device (view t) position w.if-position.false (w.keys-is ∙ (rw (e, w.cleared_tail.ensures) at w.renewed-keys.ensures))
    ]
