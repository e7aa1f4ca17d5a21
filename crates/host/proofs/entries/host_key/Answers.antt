use mathlib.Core.Path.{sym, ◌∙◌}
use Rattle.std.proofs.lemmas.Result.{err_from_is_err_and}
use Rattle.registers.proofs.Laws.{host_refuses, tested_fit, host_uncounted, host_counted}
use Rattle.host.proofs.entries.host_key.Goals as goal

pub returns-in_err-derivable : goal.returns-in_err-derivable
returns-in_err-derivable g c =
    let p = err_from_is_err_and c.from_residual.result c.from_residual.ensures.1 in
    rw (p.1, p.2) (sym (host_refuses g.K.RegisterKey.device _ _ (tt {0}) (sym c.in_err-derivable.ensures)))

pub returns-in_default : goal.returns-in_default
returns-in_default g c =
    let fits = tested_fit g.K.RegisterKey.device _ _ (tt {0}) (sym c.in_ok-derivable.ensures) in
    sym (host_uncounted g.K.RegisterKey.device _ _ fits (rw c.counter_of.ensures at c.in_default.ensures))

pub returns : goal.returns
returns g c =
    let fits = tested_fit g.K.RegisterKey.device _ _ (tt {0}) (sym c.in_ok-derivable.ensures) in
    let counter = c.in-Some.ensures ∙ c.counter_of.ensures in
    rw (
      c.given_out.ensures,
      c.register_key-key.ensures,
      c.cleared_tail.ensures,
      c.initial_of-initial.ensures,
      counter,
    )
    (sym (host_counted g.K.RegisterKey.device _ _ fits (rw counter at c.in-Some.counter.permitted)))
