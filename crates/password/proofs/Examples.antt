-- Example 5 of source document 003, 5.5.3, computed: `Hello!123`. Of the 25 bytes printed there the last FF is one too many.
use mathlib.Core.Path.{◌≡◌, refl}
use mathlib.Core.List.{List, [], ◌∷◌, ◌++◌}
use Prim.Native.Nat.{ℕ}
use lib.ListN.{replicate}
use Rattle.lent.specs.Frames.{framed, framed_text}
use Rattle.lent.specs.Result.{done}
use Rattle.lent.specs.Texts.{starts_with, same}
use Rattle.lent.specs.Words.{to_base}
use Rattle.password.specs.Password.{password_block, make, read}

abbrev password : List ℕ
password = 0x48 ∷ 0x65 ∷ 0x6C ∷ 0x6C ∷ 0x6F ∷ 0x21 ∷ 0x31 ∷ 0x32 ∷ 0x33 ∷ []

abbrev block : List ℕ
block = 0x30 ∷ 0x39 ∷ password ++ replicate 13 0xFF

made : make password ≡ done block
unfolding make password_block framed to_base
made = refl

read_again : read block ≡ done password
unfolding read make password_block framed framed_text starts_with same to_base
read_again = refl
