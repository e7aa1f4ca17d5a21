use mathlib.Core.Path.{◌≡◌}
use Prim.Native.Nat.{ℕ, ◌<◌}
use lib.ListN.{get_or}
use Rattle.registers.specs.Counters.{bit}
use Rattle.terminal.proofs.state.Terminal.empties.Given as goal

abbrev pub invariant-loop-b : goal.invariant-loop-b
invariant-loop-b g l =
    let empty = g.K.RegisterKey.device.empty in
    (j : ℕ) → j < l.b → bit l.self.position.filled j ≡ 0 → get_or l.self.keys j empty ≡ empty
