use Rattle.std.proofs.Common.{◌∙◌, sym}
use Rattle.std.proofs.lemmas.Bool.{eq-eqb, ne_eqb}
use Rattle.lent.proofs.Results.{refused_writes, same_writes}
use Rattle.password.specs.Password.{read}
use Rattle.password.proofs.read.Goals as goal

pub returns-then-block-ne24 : goal.returns-then-block-ne24
unfolding read
returns-then-block-ne24 c = refused_writes (simp (ne_eqb _ _ c.if-block-ne24.true))

pub returns-in-Ok : goal.returns-in-Ok
unfolding read
returns-in-Ok c =
    let made = sym c.block_of.ensures ∙ c.in-Ok.is in
    same_writes
    (simp (eq-eqb _ _ c.if-block-ne24.false, ← c.framed_text-password.ensures, made, sym c.same.ensures ∙ c.if-same.true)) c.lend.ensures

pub returns-in_default : goal.returns-in_default
unfolding read
returns-in_default c =
    let made = sym c.block_of.ensures ∙ c.in-Ok.is in
    refused_writes (simp (eq-eqb _ _ c.if-block-ne24.false, ← c.framed_text-password.ensures, made, sym c.same.ensures ∙ c.if-same.false))

pub returns-in_default-2 : goal.returns-in_default-2
unfolding read
returns-in_default-2 c =
    let made = sym c.block_of.ensures ∙ c.in_default.is in
    refused_writes (simp (eq-eqb _ _ c.if-block-ne24.false, ← c.framed_text-password.ensures, made))
