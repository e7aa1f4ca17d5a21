-- VIP numbers and their blocks (02, M-102; source document 003, 5.4).
use Rattle.std.specs.Prelude.{Bool, List, ℕ, eqb, length}
use Rattle.lent.specs.Characters.{digit}
use Rattle.lent.specs.Choice.{both, between, all}
use Rattle.lent.specs.Frames.{framed, framed_text}
use Rattle.lent.specs.ReadsBack.{if_made}
use Rattle.lent.specs.Refusals.{size, character}
use Rattle.lent.specs.Result.{Result, done, require}
use Rattle.keyentry.specs.Hexadecimal.{text_of, bytes_of}

-- a VIP number has 11 to 19 characters
abbrev pub vip_size : List ℕ → Bool
vip_size digits = between 11 19 (length digits)

-- a permitted VIP number has 11 to 19 digits
abbrev pub permitted : List ℕ → Bool
permitted digits = both (vip_size digits) (all digit digits)

-- the half-bytes of a VIP number's block, in hexadecimal: two decimal digits of length, its digits, then F (46 hex) up to 32
unfoldable pub block_text : List ℕ → List ℕ
block_text digits = framed 32 0x46 digits

-- the block of a VIP number: the sixteen bytes of these
unfoldable pub vip_block : List ℕ → List ℕ
vip_block digits = bytes_of (block_text digits)

-- the block of a VIP number, or the refusal; 13, for a buffer shorter than the value, comes after these
unfoldable pub make : List ℕ → Result (List ℕ)
make digits =
    require (vip_size digits) size
    (require (all digit digits) character
    (done (vip_block digits)))

-- the VIP number of a block: what stands in its half-bytes, in capital hexadecimal, if making gives the block
unfoldable pub read : List ℕ → Result (List ℕ)
read block = require (eqb (length block) 16) size (if_made make (framed_text (text_of 65 block)) block)
