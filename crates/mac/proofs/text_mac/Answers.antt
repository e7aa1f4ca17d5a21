use borrow.Author.Tests.{eq-eqb, ne_eqb, lt-ltb, le-ltb}
use mathlib.Core.Path.{sym, ◌∙◌}
use Prim.Native.Nat.{◌<◌, ◌≤◌}
use native.Mathlib.Omega.{arith}
use lib.ListN.{length, take}
use lib.Seq.{length-take-le}
use Rattle.std.proofs.lemmas.Result.{err_from_is_err_and}
use Rattle.lent.proofs.Results.{wrote_front, not_written}
use Rattle.cleaning.proofs.Laws.{clean_fits}
use Rattle.cleaning.proofs.Answering.{text_writes, text_counts}
use Rattle.mac.specs.Mac.{cleaned_mac, text_mac}
use Rattle.mac.proofs.text_mac.Goals as goal

pub returns-then-key-ne8 : goal.returns-then-key-ne8
unfolding text_mac
returns-then-key-ne8 c = simp (ne_eqb _ _ c.if-key-ne8.true)

pub returns-in_err-length : goal.returns-in_err-length
unfolding text_mac
returns-in_err-length c =
    let text = c.args.text.now in
    let p = err_from_is_err_and c.from_residual.result c.from_residual.ensures.1 in
    let k = not_written (text_writes c.in_err-length.ensures) in
    rw (p.1, p.2) (simp (eq-eqb _ _ c.if-key-ne8.false, sym (clean_fits text) ∙ k.0))

pub returns-then-length-eq0 : goal.returns-then-length-eq0
unfolding text_mac cleaned_mac
returns-then-length-eq0 c =
    let k = wrote_front (text_writes c.in_ok-length.ensures) in
    let none : length (take c.in_ok-length.field-0.length c.clean.new.out) ≤ 0 = rw (length-take-le _ _ k.1) (omega arith) in
    simp (eq-eqb _ _ c.if-key-ne8.false, k.0, le-ltb _ _ none)

pub returns : goal.returns
unfolding text_mac cleaned_mac
returns c =
    let k = wrote_front (text_writes c.in_ok-length.ensures) in
    let some : 0 < length (take c.in_ok-length.field-0.length c.clean.new.out) = rw (length-take-le _ _ k.1) (omega arith) in
    rw (c.mac_of-value.ensures, text_counts c.in_ok-length.ensures) (simp (eq-eqb _ _ c.if-key-ne8.false, k.0, lt-ltb _ _ some))
