use borrow.Author.Tests.{eq-eqb, eqb-true}
use mathlib.Core.Logic.{inr}
use mathlib.Core.Path.{sym, ap, ◌∙◌}
use Rattle.registers.specs.Machine.{filled_mask}
use Rattle.registers.proofs.Validity.{mask_zero}
use Rattle.registers.proofs.positions.Position.in_order.Goals as goal

pub returns-then-self-eq0 : goal.returns-then-self-eq0
returns-then-self-eq0 c =
    let none = ap filled_mask c.if-self-eq0.true ∙ mask_zero in (
      λ e. record { counted = inr (c.if-self.true, c.if-self-eq0.true); mask = eqb-true _ _ e ∙ sym none },
      λ o. eq-eqb _ _ (o.mask ∙ none),
    )
