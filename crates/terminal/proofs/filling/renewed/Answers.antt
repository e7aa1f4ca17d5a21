use borrow.Author.Rules.{rules}
use mathlib.Core.Path.{◌≡◌, sym}
use Prim.Native.Nat.{◌<◌}
use native.Mathlib.Omega.{arith}
use lib.ListN.{length}
use Rattle.std.proofs.lemmas.List.{get_or_default}
use Rattle.registers.proofs.Laws.{place_room, renewed_few, renewed_full}
use Rattle.terminal.proofs.filling.renewed.Goals as goal
use Rattle.terminal.proofs.filling.renewed.Goals.{then-counter-lt10, else-counter-lt10}

pub filled_from-left-requires : goal.filled_from-left-requires
filled_from-left-requires g c =
    let k = c.args.counter in (
      omega (arith, g.met.K.RegisterKey.small),
      (omega (arith, c.place-l.ensures.bound), rw c.place-l.ensures.value (place_room k.value k.permitted)),
    )

pub returns : goal.returns
returns g c =
    let a = c.args in
    let device = g.K.RegisterKey.device in
    let size : length a.keys ≡ 21 = search rules in
    let held : c.place-l.result < length a.keys = omega (arith, c.place-l.ensures.bound, size) in
    elim c.if-counter-lt10.branch [
      | then-counter-lt10 w ↦ rw (w.left-is, w.filled_from-left.ensures, c.empty.ensures, get_or_default a.keys c.place-l.result w.index-keys-l.result device.empty held, c.place-l.ensures.value) (sym (renewed_few device a.keys a.tail.word a.counter.value w.if-counter-lt10.true))
      | else-counter-lt10 w ↦ rw (w.left-is, c.empty.ensures, c.place-l.ensures.value) (sym (renewed_full device a.keys a.tail.word a.counter.value w.if-counter-lt10.false))
    ]
