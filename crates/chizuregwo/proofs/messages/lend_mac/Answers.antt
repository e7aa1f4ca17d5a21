use mathlib.Core.Path.{sym, ◌∙◌}
use Rattle.std.proofs.lemmas.Result.{err_from_is_err_and}
use Rattle.cleaning.proofs.Answering.{refused_text, lent_text}
use Rattle.mac.proofs.Laws.{counted_done, counted_refused}
use Rattle.chizuregwo.proofs.messages.lend_mac.Goals as goal

pub returns-in_err-value : goal.returns-in_err-value
returns-in_err-value c = λ answer raw e.
    let p = err_from_is_err_and c.from_residual.result c.from_residual.ensures.1 in
    rw (p.1, p.2) (refused_text (rw (counted_refused answer raw (sym c.in_err-value.was ∙ e))))

pub returns-in_err-length : goal.returns-in_err-length
returns-in_err-length c = λ answer raw e.
    let p = err_from_is_err_and c.from_residual-in_err-length.result c.from_residual-in_err-length.ensures.1 in
    let k = counted_done answer raw (sym c.in_ok-value.was ∙ e) in
    rw (p.1, p.2, k.0) (lent_text c.in_err-length.ensures)

pub returns : goal.returns
returns c = λ answer raw e.
    let k = counted_done answer raw (sym c.in_ok-value.was ∙ e) in
    rw (k.0, k.1) (lent_text c.in_ok-length.ensures)
