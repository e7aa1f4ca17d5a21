use Rattle.std.proofs.Common.{arith}
use Rattle.std.proofs.lemmas.Bool.{lt-ltb, le-ltb}
use Rattle.keyentry.specs.Hexadecimal.{hexadecimal_digit}
use Rattle.keyentry.proofs.hexadecimal.digit_of.Goals as goal

pub returns-then-n-lt10 : goal.returns-then-n-lt10
unfolding hexadecimal_digit
returns-then-n-lt10 c = simp (lt-ltb _ _ c.if-n-lt10.true) (omega arith)

pub returns-else-n-lt10 : goal.returns-else-n-lt10
unfolding hexadecimal_digit
returns-else-n-lt10 c = simp (le-ltb _ _ c.if-n-lt10.false)
