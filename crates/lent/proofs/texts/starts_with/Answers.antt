use Rattle.std.proofs.Common.{◌∙◌}
use Rattle.lent.proofs.Library.{starts}
use Rattle.lent.proofs.texts.starts_with.Goals as goal

pub returns : goal.returns
returns c = c.starts_with.ensures.value ∙ starts c.args.text.now c.args.s.now
