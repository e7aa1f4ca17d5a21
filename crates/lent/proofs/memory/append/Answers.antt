use Rattle.std.proofs.Common.{arith, ap, ◌≡◌, ◌+◌, ◌-◌, ◌≤◌, length, take, drop}
use Rattle.std.proofs.lemmas.Grind.{common_steps}
use Rattle.std.proofs.Math.ListN.{length-drop}
use Rattle.lent.specs.Result.{Writes, done, over}
use Rattle.lent.proofs.Lists.{part_rest}
use Rattle.lent.proofs.Results.{wrote, same_done}
use Rattle.lent.proofs.Appending.{writes_appended}
use Rattle.lent.proofs.memory.append.Goals as goal

pub returns : goal.returns
returns c =
    let v = c.args.value.now in
    let s = c.args.out.now in
    let n = c.args.n in
    let lent : Writes (done v) (take (length s - n) (drop n s)) (done c.in_ok-lend.field-0) c.lend.new.out = c.in_ok-lend.ensures in
    let k = wrote lent in
    let same = ap length (same_done k.1) in
    let long = ap length (part_rest n s) in
    let room : n + length v ≤ length s = omega (arith, k.2, same, long, length-drop n s, c.if-out-n.false) in
    let memory : c.lend.new.out ≡ over v (take (length s - n) (drop n s)) = rw (same_done k.1) k.4 in
    writes_appended v s n room (record { end = omega (arith, k.3, same); memory = grind (arith, common_steps, memory) })
