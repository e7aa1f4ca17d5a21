-- No more of a line is held than a line may have.
use Rattle.std.proofs.Common.{◌≡◌, ◌≤◌, length}
use Rattle.czg.specs.Private.{held}
use Rattle.czg.proofs.serving.Service.run.Given as goal

abbrev pub invariant-loop : goal.invariant-loop
invariant-loop l = (held l.rest ≤ 16384) × (length l.memory ≡ 65536)
