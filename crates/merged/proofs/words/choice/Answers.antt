use Rattle.merged.specs.ChoiceWords.{choice_c, choice_d}
use Rattle.merged.specs.Words.{choice}
use Rattle.merged.proofs.words.choice.Goals as goal

pub returns : goal.returns
unfolding choice choice_c choice_d
returns c = rw (c.word-2.ensures, c.word.ensures)
