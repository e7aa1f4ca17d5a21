use borrow.Author.Rules.{rules}
use mathlib.Core.Path.{◌≡◌, sym, ap, ◌∙◌}
use mathlib.Core.List.{List, [], ◌++◌, append-nil}
use Prim.Native.Nat.{◌*◌}
use native.Mathlib.Omega.{arith}
use lib.ListN.{length}
use lib.Seq.{take_all}
use Rattle.lent.proofs.Lists.{part_rest}
use Rattle.recordbytes.specs.RecordBytes.{registers_of}
use Rattle.recordbytes.proofs.Bytes.{registers_more}
use Rattle.terminalbytes.proofs.record.registers_of.Goals as goal

pub loop-i-preserved : goal.loop-i-preserved
loop-i-preserved g c =
    let device = g.K.RegisterKey.device in
    let s = c.args.bytes.now in
    let l = c.loop-i in
    (search rules, registers_more device 21 s l.keys _ l.i (omega arith) l.invariant.0 (rw (c.size.ensures.value, part_rest (device.size * l.i) s) at c.read.ensures) l.invariant.1)

pub returns : goal.returns
unfolding registers_of
returns g c =
    let i : c.loop-i.i ≡ 21 = omega arith in
    let keys = c.loop-i.keys in
    sym (append-nil keys) ∙ ap (λ (x : List g.row.K.Denot). x ++ []) (sym (take_all 21 keys (omega arith))) ∙ (rw i at c.loop-i.invariant.1)
