use Rattle.std.proofs.Common.{rules, ℕ, ◌+◌, get_or, arith}
use Rattle.lent.proofs.Library.{from_calls}
use Rattle.lent.specs.Characters.{digit_of}
use Rattle.lent.specs.Words.{to_base}
use Rattle.pinblock.proofs.HalfBytes.{text_from_half_bytes}
use Rattle.pinblock.proofs.reading.text_of.Goals as goal

pub returns : goal.returns
returns c =
    let x = c.args.block in
    let at : ℕ → ℕ = λ i. digit_of (get_or (to_base 16 16 x) (2 + i) 0) in
    text_from_half_bytes x c.from_fn.result (search rules)
    (λ i h. from_calls _ at _ (λ j y q k. search rules) c.from_fn.result 0 12 c.from_fn.ensures.items.each i (omega arith) (omega arith))
