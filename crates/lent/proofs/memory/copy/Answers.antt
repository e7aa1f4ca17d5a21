use borrow.Author.Rules.{rules}
use mathlib.Core.Path.{◌≡◌, refl}
use native.Mathlib.Nat.{zero-add}
use native.Mathlib.Numerals.{add-one}
use native.Mathlib.Omega.{arith}
use lib.ListN.{length, length-set}
use lib.Seq.{paste-suc, take-length}
use Rattle.lent.proofs.memory.copy.Goals as goal

pub loop-i-init : goal.loop-i-init
loop-i-init c = (refl, search rules, refl)

pub loop-i-preserved : goal.loop-i-preserved
loop-i-preserved c =
    let to = c.args.to.now in
    let from = c.args.from.now in
    let l = c.loop-i in (
      rw (l.invariant.0, add-one l.i) (simp zero-add at (paste-suc to 0 from l.i 0 (omega arith) (omega arith))),
      omega arith,
      simp length-set (omega arith),
    )

pub returns : goal.returns
returns c =
    let to = c.args.to.now in
    let from = c.args.from.now in
    let l = c.loop-i in
    let e : l.i ≡ length from = omega arith in
    rw (l.invariant.0, e, take-length)
