use native.Mathlib.Omega.{arith}
use Rattle.cipher.proofs.Exchanges.{exchanges, final}
use Rattle.cipher.proofs.des.final_permutation.Goals as goal

pub returns : goal.returns
unfolding exchanges
returns c =
    rw (c.exchange.ensures, c.exchange-d.ensures, c.exchange-c.ensures, c.exchange-b.ensures, c.exchange-a.ensures)
    (final c.args.block (omega arith))
