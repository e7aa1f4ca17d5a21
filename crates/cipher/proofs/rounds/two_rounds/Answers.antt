use Rattle.cipher.proofs.Merged.{nothing}
use Rattle.cipher.proofs.rounds.two_rounds.Goals as goal

pub returns : goal.returns
returns c = c.rounds.ensures _ (nothing _)
