use borrow.Author.Tests.{lt-leb}
use native.Mathlib.Omega.{arith}
use Rattle.std.proofs.lemmas.Result.{err_from_is_err_and}
use Rattle.cleaning.specs.Cleaning.{clean_text}
use Rattle.cleaning.proofs.Laws.{clean_done}
use Rattle.cleaning.proofs.Answering.{refused_text, lent_text}
use Rattle.cleaning.proofs.clean.Goals as goal

pub returns-then-text-gt1024 : goal.returns-then-text-gt1024
unfolding clean_text
returns-then-text-gt1024 c = refused_text (simp (lt-leb _ _ c.if-text-gt1024.true))

pub returns-in_err-length : goal.returns-in_err-length
returns-in_err-length c =
    let p = err_from_is_err_and c.from_residual.result c.from_residual.ensures.1 in
    rw (clean_done c.args.text.now (omega arith), ← c.of-text.ensures.text, ← c.as_slice.ensures.value, p.1, p.2)
    (lent_text c.in_err-length.ensures)

pub returns : goal.returns
returns c =
    rw (clean_done c.args.text.now (omega arith), ← c.of-text.ensures.text, ← c.as_slice.ensures.value, c.of-text.ensures.counts)
    (lent_text c.in_ok-length.ensures)
