use Rattle.std.proofs.Common.{◌∙◌}
use Rattle.lent.proofs.Library.{number_be}
use Rattle.lent.proofs.words.number_of.Goals as goal

pub returns : goal.returns
returns c = c.from_be_bytes.ensures ∙ number_be _ c.args.s.now c.first_bytes.ensures
