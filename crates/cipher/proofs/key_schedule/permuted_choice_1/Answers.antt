use native.Mathlib.Omega.{arith}
use Rattle.cipher.proofs.Exchanges.{exchanges, first_choice}
use Rattle.cipher.proofs.key_schedule.permuted_choice_1.Goals as goal

pub returns : goal.returns
unfolding exchanges
returns c =
    rw (c.exchange-columns.ensures, c.exchange-b.ensures, c.exchange-a.ensures) (first_choice c.args.key (omega arith))
