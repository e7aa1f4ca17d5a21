-- The terminal's record as a state of the register machine (01, Terminal keys).
use Rattle.doublehost.specs.declared.keys.DoubleKey.{DoubleKey}
use Rattle.registers.specs.Machine.{State}
use Rattle.terminal.specs.View as terminal
use Rattle.terminal.specs.declared.state.Terminal.{Terminal}

abbrev pub view : Terminal DoubleKey → State DoubleKey
view t = terminal.view t
