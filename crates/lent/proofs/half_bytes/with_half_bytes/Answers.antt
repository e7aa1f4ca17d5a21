use Rattle.std.proofs.Common.{rules, ◌+◌, ◌*◌, ◌%◌, ◌^◌, ◌∙◌}
use Rattle.std.proofs.lemmas.Iterator.{YieldsList-from_slice}
use Rattle.std.proofs.lemmas.Iterator.Consumers.{fold_from_yields_List}
use Rattle.lent.proofs.HalfBytes.{folded}
use Rattle.lent.proofs.half_bytes.with_half_bytes.Goals as goal

pub returns : goal.returns
returns c first e =
    let text = c.args.text.now in
    fold_from_yields_List _ (λ word h. (word * 16 + h % 16) % 2 ^ 64) c.args.x c.fold.result c.fold.ensures.ran (YieldsList-from_slice text (cc)) (λ a x b q k. search rules)
    ∙ folded text c.args.x first e
