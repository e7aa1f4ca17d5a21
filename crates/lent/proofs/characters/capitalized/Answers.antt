use Rattle.std.proofs.Common.{◌∙◌}
use Rattle.lent.proofs.Library.{uppercase}
use Rattle.lent.proofs.characters.capitalized.Goals as goal

pub returns : goal.returns
returns c = c.to_ascii_uppercase.ensures.value ∙ uppercase c.args.x
