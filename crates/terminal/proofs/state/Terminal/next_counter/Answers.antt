use mathlib.Core.Path.{sym, ◌∙◌}
use mathlib.Core.Bool.{false≢true}
use Rattle.registers.proofs.Laws.{next_invalid, next_over}
use Rattle.terminal.specs.View.{view}
use Rattle.terminal.proofs.state.Terminal.next_counter.Goals as goal

pub returns-then-not-valid-clause-refusal : goal.returns-then-not-valid-clause-refusal
returns-then-not-valid-clause-refusal g c =
    λ enough. next_invalid g.K.RegisterKey.device (view c.args.self.now) enough (λ v. false≢true (sym c.if-not-valid.true ∙ c.valid.ensures.1 v))

pub returns-then-self-clause-refusal : goal.returns-then-self-clause-refusal
returns-then-self-clause-refusal g c =
    λ enough. next_over g.K.RegisterKey.device (view c.args.self.now) enough (c.valid.ensures.0 c.if-not-valid.false) c.if-self.true
