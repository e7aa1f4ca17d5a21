use borrow.Author.Tests.{eq-eqb, ne_eqb}
use mathlib.Core.Path.{◌≡◌, ap₂, ◌∙◌}
use Rattle.cipher.specs.Keys.{same_key}
use Rattle.registers.specs.Host.{same_halves, derivable}
use Rattle.registers.proofs.derivations.derivable.Goals as goal
use Rattle.registers.proofs.derivations.derivable.Goals.{then-derivation_key-ne16-via-then-derivation_key-ne16, then-derivation_key-ne16-via-else-derivation_key-ne16+then-serial_number-ne10}

pub returns-then-derivation_key-ne16 : goal.returns-then-derivation_key-ne16
unfolding derivable
returns-then-derivation_key-ne16 c = elim c.then-derivation_key-ne16.branch [
  | then-derivation_key-ne16-via-then-derivation_key-ne16 w ↦ simp (ne_eqb _ _ w.if-derivation_key-ne16.true)
  | then-derivation_key-ne16-via-else-derivation_key-ne16+then-serial_number-ne10 w ↦ simp (eq-eqb _ _ w.if-derivation_key-ne16.false, ne_eqb _ _ w.if-serial_number-ne10.true)
]

pub returns-then-same_key : goal.returns-then-same_key
unfolding derivable
returns-then-same_key c =
    let compared : c.same_key.result ≡ same_halves c.args.derivation_key.now = c.same_key.ensures ∙ ap₂ same_key c.word_of.ensures c.right_half.ensures in
    simp (eq-eqb _ _ c.if-derivation_key-ne16.false, eq-eqb _ _ c.if-serial_number-ne10.false, ← compared, c.if-same_key.true)

pub returns : goal.returns
unfolding derivable
returns c =
    let compared : c.same_key.result ≡ same_halves c.args.derivation_key.now = c.same_key.ensures ∙ ap₂ same_key c.word_of.ensures c.right_half.ensures in
    simp (eq-eqb _ _ c.if-derivation_key-ne16.false, eq-eqb _ _ c.if-serial_number-ne10.false, ← compared, c.if-same_key.false)
