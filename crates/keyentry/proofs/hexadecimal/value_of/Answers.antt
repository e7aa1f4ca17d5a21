use Rattle.std.proofs.Common.{◌≡◌, ◌≤◌, ◌∙◌, ℕ, sym, true, false, arith}
use Rattle.lent.specs.Characters.{digit, capitalized, hexadecimal}
use Rattle.lent.proofs.Laws.{between_true}
use Rattle.keyentry.specs.Hexadecimal.{value_of}
use Rattle.keyentry.proofs.hexadecimal.value_of.Goals as goal

-- a hexadecimal digit that is no digit is a letter
letter : (x : ℕ) → hexadecimal x ≡ true → digit x ≡ false → (65 ≤ capitalized x) × (capitalized x ≤ 70)
unfolding hexadecimal
letter x e d = between_true 65 70 (capitalized x) (simp d at e)

pub overflow_sub-result-else-is_digit : goal.overflow_sub-result-else-is_digit
overflow_sub-result-else-is_digit c =
    omega (arith, letter c.args.x c.requires (sym c.is_digit.ensures ∙ c.if-is_digit.false), c.capitalized.ensures)

pub returns-then-is_digit-clause-value : goal.returns-then-is_digit-clause-value
unfolding value_of
returns-then-is_digit-clause-value c = simp (sym c.is_digit.ensures ∙ c.if-is_digit.true)

pub returns-else-is_digit-clause-value : goal.returns-else-is_digit-clause-value
unfolding value_of
returns-else-is_digit-clause-value c =
    let e = sym c.is_digit.ensures ∙ c.if-is_digit.false in
    simp e (omega (arith, letter c.args.x c.requires e, c.capitalized.ensures))

pub returns-else-is_digit-clause-bound : goal.returns-else-is_digit-clause-bound
returns-else-is_digit-clause-bound c =
    omega (arith, letter c.args.x c.requires (sym c.is_digit.ensures ∙ c.if-is_digit.false), c.capitalized.ensures)
