use Rattle.keyentry.specs.Hexadecimal.{text_of}
use Rattle.keyentry.proofs.hexadecimal.byte_text.Goals as goal

pub returns : goal.returns
unfolding text_of
returns c = rw (c.digit_of.ensures, c.digit_of-2.ensures)
