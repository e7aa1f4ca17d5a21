-- Internet passwords and their blocks (02, M-102; source document 003, 5.5).
use Rattle.std.specs.Prelude.{Bool, List, ℕ, eqb, length}
use Rattle.lent.specs.Characters.{graphic}
use Rattle.lent.specs.Choice.{both, between, all}
use Rattle.lent.specs.Frames.{framed, framed_text}
use Rattle.lent.specs.ReadsBack.{if_made}
use Rattle.lent.specs.Refusals.{size, character}
use Rattle.lent.specs.Result.{Result, done, require}

-- a password has 6 to 20 characters
abbrev pub password_size : List ℕ → Bool
password_size password = between 6 20 (length password)

-- a permitted password has 6 to 20 characters from 21 to 7E hex
abbrev pub permitted : List ℕ → Bool
permitted password = both (password_size password) (all graphic password)

-- the block of a password: two decimal characters of length, its characters, then FF up to 24 bytes
unfoldable pub password_block : List ℕ → List ℕ
password_block password = framed 24 0xFF password

-- the block of a password, or the refusal; 13, for a buffer shorter than the value, comes after these
unfoldable pub make : List ℕ → Result (List ℕ)
make password =
    require (password_size password) size
    (require (all graphic password) character
    (done (password_block password)))

-- the password of a block: what stands in it, if making gives the block
unfoldable pub read : List ℕ → Result (List ℕ)
read block = require (eqb (length block) 24) size (if_made make (framed_text block) block)
