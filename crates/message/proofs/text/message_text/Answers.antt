use mathlib.Core.Path.{◌≡◌, sym, ap}
use Prim.Native.Nat.{◌≤◌}
use native.Mathlib.Omega.{arith}
use lib.ListN.{length, drop, length-drop}
use Rattle.std.proofs.lemmas.Result.{err_from_is_err_and}
use Rattle.lent.specs.Result.{done, refused}
use Rattle.lent.proofs.Lists.{part_rest}
use Rattle.cleaning.proofs.Laws.{clean_done}
use Rattle.cleaning.proofs.Answering.{refused_text}
use Rattle.message.specs.Gathered.{gathered}
use Rattle.message.proofs.Joining.{joined_gathered, text_joined}
use Rattle.message.proofs.Laws.{gathered_some}
use Rattle.message.proofs.text.message_text.Goals as goal

pub returns-in_err-text : goal.returns-in_err-text
returns-in_err-text c =
    let m = c.args.message.now in
    let p = err_from_is_err_and c.from_residual.result c.from_residual.ensures.1 in
    let e : gathered m ≡ refused c.in_err-text.field-0.0 = sym c.in_err-text.ensures in
    rw (p.1, p.2) (refused_text (rw (text_joined m, joined_gathered m, e)))

pub slice_bounds-clean-count : goal.slice_bounds-clean-count
slice_bounds-clean-count c =
    omega (arith, gathered_some c.args.message.now _ (sym c.in_ok-text.ensures), ap length c.as_slice.ensures.value)

pub slice_bounds-clean-start : goal.slice_bounds-clean-start
slice_bounds-clean-start c =
    omega (arith, gathered_some c.args.message.now _ (sym c.in_ok-text.ensures), ap length c.as_slice.ensures.value)

pub returns : goal.returns
returns c =
    let m = c.args.message.now in
    let s = c.as_slice.result.now in
    let e : gathered m ≡ done s = rw c.as_slice.ensures.value (sym c.in_ok-text.ensures) in
    let short : length (drop 1 s) ≤ 1024 = rw length-drop (omega (arith, c.as_slice.ensures.fits)) in
    rw (text_joined m, joined_gathered m, e, ← clean_done (drop 1 s) short) (rw (part_rest 1 s) at c.clean.ensures)
