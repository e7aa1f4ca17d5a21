use mathlib.Core.Path.{◌≡◌, ◌∙◌}
use Rattle.cipher.specs.Rounds.{round_function}
use Prim.Native.Nat.{ℕ, ◌^◌, ◌<◌}
use native.Mathlib.Omega.{arith}
use borrow.Author.Tests.{eq-eqb}
use Rattle.cipher.proofs.Feistel.{function_lt}
use Rattle.cipher.proofs.Merged.{two_rounds}
use Rattle.cipher.proofs.checks.merged_words_agree.Goals as goal

-- the halves that are compared with
fits : (x right key : ℕ) → x ≡ round_function right key → x < 2 ^ 32
fits x right key e = rw e (function_lt _ _)

pub overflow_mul-result : goal.overflow_mul-result
overflow_mul-result c =
    let right = fits _ _ _ c.round_function-right.ensures in omega arith

pub overflow_add-result : goal.overflow_add-result
overflow_add-result c =
    let right = fits _ _ _ c.round_function-right.ensures in
    let left = fits _ _ _ c.round_function-left.ensures in
    omega arith

pub returns : goal.returns
returns c = eq-eqb _ _ (rw (c.round_function-right.ensures, c.round_function-left.ensures) (c.two_rounds.ensures ∙ two_rounds _ 0))
