use mathlib.Core.Path.{refl}
use Rattle.std.proofs.lemmas.Result.{err_from_is_err_and}
use Rattle.mac.proofs.Laws.{alone}
use Rattle.mac.proofs.message_mac.Goals as goal

pub returns-in_err-text : goal.returns-in_err-text
returns-in_err-text c =
    let p = err_from_is_err_and c.from_residual.result c.from_residual.ensures.1 in
    rw (p.1, p.2) (alone c.args.key.now c.args.message.now refl c.in_err-text.ensures)

pub returns : goal.returns
returns c = alone c.args.key.now c.args.message.now refl c.in_ok-text.ensures
