use mathlib.Core.Path.{ap, ◌∙◌}
use Rattle.lent.specs.Words.{word_bytes}
use Rattle.mac.specs.Mac.{mac_of}
use Rattle.mac.proofs.mac_of.Goals as goal

pub returns : goal.returns
unfolding mac_of
returns c = c.bytes_of.ensures ∙ ap word_bytes (c.chained.ensures ∙ rw c.word_of.ensures)
