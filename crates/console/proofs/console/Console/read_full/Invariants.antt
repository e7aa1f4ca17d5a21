-- What is left of the memory falls with each read; what stands before it was read.
use Rattle.std.proofs.Common.{length, take, ◌-◌, ◌≤◌}
use Rattle.std.specs.Io.KnownBytes.{Consumes}
use Rattle.console.proofs.console.Console.read_full.Given as goal

abbrev pub invariant-loop-done : goal.invariant-loop-done
invariant-loop-done g l =
    record { in_bounds : l.done ≤ length l.buf; read : Consumes (g.R.Read.remaining l.initial.self.input) (g.R.Read.remaining l.self.input) (take l.done l.buf) }

abbrev pub decreases-loop-done : goal.decreases-loop-done
decreases-loop-done g l = length l.initial.buf - l.done
