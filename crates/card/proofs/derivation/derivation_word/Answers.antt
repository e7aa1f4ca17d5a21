use mathlib.Core.Path.{◌≡◌, refl, sym, ap, ◌∙◌}
use mathlib.Core.List.{[], map}
use Rattle.lent.specs.HalfBytes.{low_half, word_of}
use Rattle.lent.specs.Words.{from_base}
use Rattle.card.proofs.Derivations.{derivation_value, low_characters}
use Rattle.card.proofs.derivation.derivation_word.Goals as goal

-- no half-bytes yet
none : 0 ≡ word_of []
unfolding word_of from_base
none = refl

pub returns : goal.returns
returns c =
    let card = c.args.card.now in
    let number = c.with_half_bytes.ensures [] none in
    rw c.two_digits-digits.ensures at (c.with_half_bytes-2.ensures (map low_half card) number)
    ∙ ap word_of (low_characters card c.args.sequence c.requires)
    ∙ sym (derivation_value card c.args.sequence c.requires)
