use Rattle.std.proofs.Common.{rules, ℕ, get_or, arith}
use Rattle.lent.proofs.Library.{from_calls}
use Rattle.lent.proofs.words.first_bytes.Goals as goal

pub returns : goal.returns
returns g c =
    let s = c.args.s.now in
    let at : ℕ → ℕ = λ j. get_or s j 0 in
    λ i h. from_calls _ at _ (λ j y q k. search rules) c.from_fn.result 0 g.row.N c.from_fn.ensures.items.each i (omega arith) (omega arith)
