use borrow.Author.Tests.{ne_eqb}
use Rattle.std.proofs.lemmas.Result.{err_from_is_err_and}
use Rattle.mac.specs.Mac.{message_mac, message_text_and_mac}
use Rattle.mac.proofs.Laws.{refused_both, text_refused, text_written}
use Rattle.mac.proofs.message_text_and_mac.Goals as goal

pub returns-then-key-ne8 : goal.returns-then-key-ne8
unfolding message_text_and_mac message_mac
returns-then-key-ne8 c = refused_both (simp (ne_eqb _ _ c.if-key-ne8.true))

pub returns-in_err-text : goal.returns-in_err-text
returns-in_err-text c =
    let p = err_from_is_err_and c.from_residual.result c.from_residual.ensures.1 in
    rw (p.1, p.2) (text_refused c.args.key.now c.args.message.now c.if-key-ne8.false c.in_err-text.ensures)

pub returns : goal.returns
returns c = text_written c.args.key.now c.args.message.now c.if-key-ne8.false c.in_ok-text.ensures c.mac_of-mac.ensures
