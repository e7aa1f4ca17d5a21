use Rattle.host.specs.SingleLength.{single_length}
use Rattle.terminalbytes.proofs.Laws.{answered}
use Rattle.chizuregwo_c.proofs.terminals.czg_terminal_next_key.Goals as goal

pub returns : goal.returns
returns c = answered single_length c.czg_terminal_next_key.result c.czg_terminal_next_key.ensures c.from.ensures
