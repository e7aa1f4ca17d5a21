-- What is left of the bytes falls with each write; those before it were written.
use Rattle.std.proofs.Common.{length, take, ◌-◌, ◌≤◌}
use Rattle.std.specs.Io.KnownBytes.{Appends}
use Rattle.console.proofs.console.Console.write.Given as goal

abbrev pub invariant-loop-done : goal.invariant-loop-done
invariant-loop-done g l =
    record { in_bounds : l.done ≤ length l.bytes; written : Appends (g.W.Write.contents l.initial.self.out) (g.W.Write.contents l.self.out) (take l.done l.bytes) }

abbrev pub decreases-loop-done : goal.decreases-loop-done
decreases-loop-done g l = length l.bytes - l.done
