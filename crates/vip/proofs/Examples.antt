-- Example 4 of source document 003, 5.4.3, computed: 1234567890123456789.
use mathlib.Core.Path.{◌≡◌, refl}
use mathlib.Core.List.{List, [], ◌∷◌, map}
use Prim.Native.Nat.{ℕ}
use lib.ListN.{replicate}
use Rattle.lent.specs.Characters.{digit_of, capitalized}
use Rattle.lent.specs.Frames.{framed, framed_text}
use Rattle.lent.specs.Result.{done}
use Rattle.lent.specs.Texts.{starts_with, same}
use Rattle.lent.specs.Words.{to_base}
use Rattle.keyentry.specs.Hexadecimal.{value_of, hexadecimal_digit, text_of, bytes_of}
use Rattle.vip.specs.Vip.{block_text, vip_block, make, read}

abbrev digits : List ℕ
digits = map digit_of (1 ∷ 2 ∷ 3 ∷ 4 ∷ 5 ∷ 6 ∷ 7 ∷ 8 ∷ 9 ∷ 0 ∷ 1 ∷ 2 ∷ 3 ∷ 4 ∷ 5 ∷ 6 ∷ 7 ∷ 8 ∷ 9 ∷ [])

abbrev block : List ℕ
block = 0x19 ∷ 0x12 ∷ 0x34 ∷ 0x56 ∷ 0x78 ∷ 0x90 ∷ 0x12 ∷ 0x34 ∷ 0x56 ∷ 0x78 ∷ 0x9F ∷ replicate 5 0xFF

made : make digits ≡ done block
unfolding make vip_block block_text framed bytes_of value_of capitalized to_base
made = refl

read_again : read block ≡ done digits
unfolding read make vip_block block_text framed framed_text text_of hexadecimal_digit bytes_of value_of capitalized starts_with same to_base
read_again = refl
