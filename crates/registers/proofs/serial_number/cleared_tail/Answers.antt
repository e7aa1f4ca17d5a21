use mathlib.Core.Path.{ap, ◌∙◌}
use mathlib.Core.List.{List}
use Prim.Native.Nat.{ℕ}
use native.Mathlib.Omega.{arith}
use lib.ListN.{take, drop}
use Rattle.lent.specs.Words.{word}
use Rattle.registers.specs.SerialNumber.{with_counter, cleared_tail}
use Rattle.registers.proofs.SerialNumbers.{tail_clear}
use Rattle.registers.proofs.serial_number.cleared_tail.Goals as goal

pub returns : goal.returns
unfolding with_counter cleared_tail
returns c = c.word_of.ensures ∙ ap (λ (s : List ℕ). word (take 8 (drop 2 s))) c.with_counter-cleared.ensures

pub invariant_of-result : goal.invariant_of-result
unfolding with_counter cleared_tail
invariant_of-result c =
    let word = c.word_of.ensures ∙ ap (λ (s : List ℕ). word (take 8 (drop 2 s))) c.with_counter-cleared.ensures in
    record { clear = omega (arith, word, tail_clear c.args.serial_number.now) }
