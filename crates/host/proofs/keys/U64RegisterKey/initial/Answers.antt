use Rattle.host.specs.SingleLength.{initial_word}
use Rattle.host.proofs.keys.U64RegisterKey.initial.Goals as goal

pub returns : goal.returns
unfolding initial_word
returns c = rw (← c.word_of.ensures, ← c.right_half.ensures) c.triple_encrypt.ensures
