-- Examples 1 to 3 of source document 000, 5.1.3, computed.
use mathlib.Core.Path.{◌≡◌, refl}
use mathlib.Core.List.{List, [], ◌∷◌, map}
use Prim.Native.Nat.{ℕ}
use Rattle.lent.specs.Characters.{digit_of}
use Rattle.lent.specs.Result.{done}
use Rattle.lent.specs.Words.{from_base, to_base, word_bytes}
use Rattle.pinblock.specs.CardNumber.{card_half_bytes, card_part, pin_block_with_card}
use Rattle.pinblock.specs.Entries.{make, make_with_card}
use Rattle.pinblock.specs.Pin.{pin_half_bytes, pin_block}

-- the text of digits
abbrev text : List ℕ → List ℕ
text digits = map digit_of digits

-- the PIN of all three
abbrev pin : List ℕ
pin = text (1 ∷ 2 ∷ 3 ∷ 4 ∷ 5 ∷ 6 ∷ [])

example_1 : make pin ≡ done (word_bytes 0x06123456FFFFFFFF)
unfolding make pin_block pin_half_bytes from_base to_base
example_1 = refl

example_2 : make_with_card pin (text (1 ∷ 2 ∷ 3 ∷ 4 ∷ 5 ∷ 6 ∷ 7 ∷ 8 ∷ 9 ∷ 0 ∷ 1 ∷ 2 ∷ 3 ∷ 4 ∷ 5 ∷ 6 ∷ 7 ∷ 8 ∷ []))
    ≡ done (word_bytes 0x061253DFFEDCBA98)
unfolding make_with_card pin_block_with_card card_part card_half_bytes pin_block pin_half_bytes from_base to_base
example_2 = refl

example_3 : make_with_card pin (text (1 ∷ 2 ∷ 3 ∷ 4 ∷ 5 ∷ 6 ∷ 7 ∷ 8 ∷ 9 ∷ 0 ∷ 1 ∷ 2 ∷ 3 ∷ 4 ∷ 5 ∷ 6 ∷ []))
    ≡ done (word_bytes 0x0612713176FEDCBA)
unfolding make_with_card pin_block_with_card card_part card_half_bytes pin_block pin_half_bytes from_base to_base
example_3 = refl
