use Rattle.std.proofs.Common.{rules}
use Rattle.lent.proofs.Lists.{part_rest}
use Rattle.console.proofs.Known.{appends_more}
use Rattle.console.proofs.console.Console.write.Goals as goal

pub loop-done-preserved : goal.loop-done-preserved
loop-done-preserved g c = record {
  in_bounds = search rules;
  written = appends_more _ _ _ c.args.bytes.now c.loop-done.done c.in-Ok.n c.loop-done.invariant.written (rw part_rest at c.in-Ok.ensures.bytes);
}
