-- The card key that source document 001 prints twice, with odd and with even parity, computed.
use mathlib.Core.Bool.{true}
use mathlib.Core.List.{List, ◌++◌}
use mathlib.Core.Path.{◌≡◌, refl}
use Prim.Native.Nat.{ℕ}
use lib.Count.{ones, ones_in}
use Rattle.lent.specs.Words.{to_base, word_bytes}
use Rattle.parity.specs.Parity.{odd_parity, adjusted_byte, adjusted}

abbrev odd : List ℕ
odd = word_bytes 0x9249345E0220CEBA ++ word_bytes 0x0D20D6A2453BF407

abbrev even : List ℕ
even = word_bytes 0x9348355F0321CFBB ++ word_bytes 0x0C21D7A3443AF506

odd_has_parity : odd_parity odd ≡ true
unfolding ones ones_in to_base
odd_has_parity = refl

even_adjusted : adjusted even ≡ odd
unfolding adjusted adjusted_byte ones ones_in to_base
even_adjusted = refl
