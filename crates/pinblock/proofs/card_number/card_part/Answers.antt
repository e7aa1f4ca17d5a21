use mathlib.Core.Path.{refl, sym, ap, ◌∙◌}
use lib.ListN.{replicate}
use Rattle.lent.specs.HalfBytes.{word_of}
use Rattle.lent.specs.Result.{done}
use Rattle.lent.specs.Words.{from_base}
use Rattle.pinblock.proofs.CardNumbers.{card_word}
use Rattle.pinblock.proofs.card_number.card_part.Goals as goal

pub returns : goal.returns
unfolding word_of from_base
returns c =
    let sized = sym c.card_sized.ensures ∙ c.if-not-card_sized.false in
    let digits = sym c.all_digits.ensures ∙ c.if-not-all_digits.false in
    rw (sized, digits) (ap done (c.with_half_bytes.ensures (replicate 4 0) refl ∙ card_word c.args.card.now sized digits _ refl))
