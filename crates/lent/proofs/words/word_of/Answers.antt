use Rattle.std.proofs.Common.{◌∙◌}
use Rattle.lent.proofs.Library.{word_be}
use Rattle.lent.proofs.words.word_of.Goals as goal

pub returns : goal.returns
returns c = c.from_be_bytes.ensures ∙ word_be _ c.args.s.now c.first_bytes.ensures
