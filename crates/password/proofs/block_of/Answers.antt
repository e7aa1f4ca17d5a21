use Rattle.std.proofs.Common.{rules, ◌≡◌, ◌∙◌, ◌+◌, ◌≤◌, length, Err, sym}
use Rattle.lent.specs.Characters.{graphic}
use Rattle.lent.proofs.ReadsBack.{of_permitted, of_refused}
use Rattle.password.specs.Password.{password_block, make}
use Rattle.password.proofs.block_of.Goals as goal

pub returns-in_err-permitted : goal.returns-in_err-permitted
unfolding make
returns-in_err-permitted c =
    let why = c.in_err-permitted.field-0.0 in
    let same : c.from_residual.result ≡ Err why = search rules in
    same ∙ sym (of_refused 24 6 20 graphic password_block c.args.password.now why (sym c.permitted.ensures ∙ c.in_err-permitted.was))

pub returns : goal.returns
unfolding make password_block
returns c =
    let room : 2 + length c.args.password.now ≤ 24 = search rules in
    rw (c.framed.ensures.fits room) (sym (of_permitted 24 6 20 graphic password_block c.args.password.now (sym c.permitted.ensures ∙ c.in_ok-permitted.was)))
