use Rattle.doublehost.specs.DoubleLength.{double_length}
use Rattle.terminalbytes.proofs.Laws.{answered}
use Rattle.chizuregwo_c.proofs.terminals.czg_double_terminal_next_key.Goals as goal

pub returns : goal.returns
returns c = answered double_length c.czg_double_terminal_next_key.result c.czg_double_terminal_next_key.ensures c.from.ensures
