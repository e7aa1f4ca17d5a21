use mathlib.Core.Path.{sym}
use Rattle.std.proofs.lemmas.Result.{err_from_is_err_and}
use Rattle.registers.proofs.Laws.{initial_done, initial_refuses, tested_fit}
use Rattle.host.proofs.entries.initial_key.Goals as goal

pub returns-in_err-derivable : goal.returns-in_err-derivable
returns-in_err-derivable g c =
    let p = err_from_is_err_and c.from_residual.result c.from_residual.ensures.1 in
    rw (p.1, p.2) (sym (initial_refuses g.K.RegisterKey.device _ _ (tt {0}) (sym c.in_err-derivable.ensures)))

pub returns : goal.returns
returns g c =
    let fits = tested_fit g.K.RegisterKey.device _ _ (tt {0}) (sym c.in_ok-derivable.ensures) in
    rw c.initial_of.ensures (sym (initial_done g.K.RegisterKey.device _ _ fits))
