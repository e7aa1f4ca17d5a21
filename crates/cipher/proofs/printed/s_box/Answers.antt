use mathlib.Core.Path.{refl}
use Rattle.cipher.specs.Rounds.{s_box, row, column}
use Rattle.cipher.proofs.Merged.{four_bits}
use Rattle.cipher.proofs.printed.s_box.Goals as goal

pub returns : goal.returns
unfolding s_box row column
returns c = (refl, four_bits c.args.table.now c.requires.1 c.args.six c.requires.0)
