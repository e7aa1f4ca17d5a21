use mathlib.Core.Path.{◌≡◌, sym, ap, ◌∙◌}
use mathlib.Core.Bool.{true}
use mathlib.Core.List.{[], ◌∷◌}
use lib.ListN.{length}
use Rattle.lent.specs.Result.{done}
use Rattle.pinblock.specs.Pin.{permitted}
use Rattle.pinblock.proofs.Pins.{pin_word, start_word}
use Rattle.pinblock.proofs.pin.pin_block.Goals as goal

pub returns : goal.returns
returns c =
    let pin = c.args.pin.now in
    let sized = sym c.sized.ensures ∙ c.if-not-sized.false in
    let digits = sym c.all_digits.ensures ∙ c.if-not-all_digits.false in
    let allowed : permitted pin ≡ true = rw sized digits in
    rw (sized, digits)
    (ap done (c.with_half_bytes.ensures _ (c.with_half_bytes-start.ensures (0 ∷ length pin ∷ []) (start_word pin allowed)) ∙ pin_word pin allowed))
