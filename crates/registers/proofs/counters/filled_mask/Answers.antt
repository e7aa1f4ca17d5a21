use borrow.Author.Tests.{eq-eqb, ne_eqb}
use Rattle.registers.specs.Machine.{filled_mask}
use Rattle.registers.proofs.counters.filled_mask.Goals as goal

pub returns-then-c-eq0 : goal.returns-then-c-eq0
unfolding filled_mask
returns-then-c-eq0 c = rw (eq-eqb c.args.c 0 c.if-c-eq0.true)

pub returns-else-c-eq0 : goal.returns-else-c-eq0
unfolding filled_mask
returns-else-c-eq0 c = rw (ne_eqb c.args.c 0 c.if-c-eq0.false) c.saturating_sub.ensures
