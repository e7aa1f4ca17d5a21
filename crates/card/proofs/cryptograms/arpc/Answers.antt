use borrow.Author.Tests.{eq-eqb}
use Rattle.std.proofs.Common.{arith}
use Rattle.std.proofs.lemmas.Grind.{common_steps}
use Rattle.lent.proofs.Parts.{from_zeros_after}
use Rattle.card.specs.Cryptograms.{arpc_word}
use Rattle.card.specs.Entries.{arpc}
use Rattle.card.proofs.DoubleKeys.{halves}
use Rattle.card.proofs.cryptograms.arpc.Goals as goal

pub returns-in_err-key : goal.returns-in_err-key
unfolding arpc
returns-in_err-key c = grind (arith, common_steps)

pub returns-then-arqc-ne8 : goal.returns-then-arqc-ne8
unfolding arpc
returns-then-arqc-ne8 c = grind (arith, common_steps)

pub returns : goal.returns
unfolding arpc arpc_word
returns c =
    let k = halves c.args.session_key.now c.try_from.ensures c.in_ok-key.was in
    simp (
      k.0,
      eq-eqb _ _ c.if-arqc-ne8.false,
      eq-eqb _ _ c.if-code-ne2.false,
      k.1,
      k.2,
      from_zeros_after 256 8,
      c.bytes_of.ensures,
      c.encrypt.ensures,
      c.word_of.ensures,
      c.word_of-2.ensures,
    )
