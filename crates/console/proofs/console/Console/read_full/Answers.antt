use Rattle.std.proofs.Common.{arith, length, take, ◌≤◌, rules}
use Rattle.console.proofs.Known.{consumes_more, read_after}
use Rattle.console.proofs.console.Console.read_full.Goals as goal

pub loop-done-preserved : goal.loop-done-preserved
loop-done-preserved g c = record {
  in_bounds = search rules;
  read =
      let within : c.in_ok-n.n ≤ length c.read_some.new.buf = omega (arith, c.in_ok-n.ensures.prefix_len.0) in
      rw (read_after c.loop-done.buf c.read_some.new.buf _ c.loop-done.done c.in_ok-n.n c.loop-done.invariant.in_bounds within)
      (consumes_more (g.R.Read.remaining c.args.self.now.input) (g.R.Read.remaining c.loop-done.self.input) (g.R.Read.remaining c.read_some.new.self.input) (take c.loop-done.done c.loop-done.buf) (take c.in_ok-n.n c.read_some.new.buf) c.loop-done.invariant.read c.in_ok-n.ensures.bytes.0);
}
