use borrow.Author.Rules.{rules}
use borrow.Author.Tests.{eqb-true}
use mathlib.Core.Path.{◌≡◌, sym, ◌∙◌}
use mathlib.Core.Bool.{false≢true}
use lib.ListN.{length}
use Rattle.registers.proofs.Laws.{checked_valid, valid_checked}
use Rattle.terminal.specs.View.{view}
use Rattle.terminal.proofs.state.Terminal.valid.Goals as goal
use Rattle.terminal.proofs.state.Terminal.valid.Goals.{then-counter_of-eq0, else-counter_of-eq0}

pub returns-then-in_order : goal.returns-then-in_order
returns-then-in_order g c =
    let t = c.args.self.now in
    let device = g.K.RegisterKey.device in
    let serial_size : length t.serial ≡ 10 = search rules in
    let size : length t.keys ≡ 21 = search rules in
    elim c.if-counter_of-eq0.branch [
      | then-counter_of-eq0 w ↦ (
        λ e. checked_valid device (view t) (record {
          serial_size = serial_size;
          clear = sym c.counter_of.ensures ∙ w.if-counter_of-eq0.true;
          size = size;
          order = w.in_order.ensures.0 (sym w.value-is ∙ c.if-in_order.true);
          empties = c.empties.ensures.0 e;
        }),
        λ v. c.empties.ensures.1 (valid_checked device (view t) v).empties,
      )
      | else-counter_of-eq0 w ↦ absurd (w.if-counter_of-eq0.false (eqb-true _ _ (sym w.value-is ∙ c.if-in_order.true)))
    ]

pub returns-else-in_order : goal.returns-else-in_order
returns-else-in_order g c =
    let t = c.args.self.now in
    let device = g.K.RegisterKey.device in (
      λ e. absurd (false≢true (sym c.if-in_order.false ∙ e)),
      λ v. elim c.if-counter_of-eq0.branch [
        | then-counter_of-eq0 w ↦ w.value-is ∙ w.in_order.ensures.1 (valid_checked device (view t) v).order
        | else-counter_of-eq0 w ↦ absurd (w.if-counter_of-eq0.false (c.counter_of.ensures ∙ v.clear))
      ],
    )
