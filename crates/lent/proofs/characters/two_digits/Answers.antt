use native.Mathlib.Nat.{div-one}
use Rattle.lent.specs.Words.{to_base}
use Rattle.lent.proofs.characters.two_digits.Goals as goal

pub returns : goal.returns
unfolding to_base
returns c = rw (c.last_digit.ensures, c.last_digit-2.ensures, div-one)
