-- What is left of the input falls with each line.
use Rattle.std.proofs.Common.{◌≤◌, length}
use Rattle.czg.proofs.serving.Service.serve.Given as goal

abbrev pub invariant-loop-line : goal.invariant-loop-line
invariant-loop-line l = length l.rest ≤ length l.read

abbrev pub decreases-loop-line : goal.decreases-loop-line
decreases-loop-line l = length l.rest
