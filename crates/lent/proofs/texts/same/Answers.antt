use Rattle.std.proofs.Common.{◌∙◌}
use Rattle.lent.proofs.Library.{equals}
use Rattle.lent.proofs.texts.same.Goals as goal

pub returns : goal.returns
returns c = c.eq.ensures ∙ equals c.args.text.now c.args.s.now
