-- Key entry: the key of a text and a wanted size (01, Digits and bytes).
use Rattle.std.specs.Prelude.{Bool, List, ℕ, ◌*◌, ◌%◌, eqb, length}
use Rattle.lent.specs.Choice.{all}
use Rattle.lent.specs.Characters.{hexadecimal}
use Rattle.lent.specs.Keys.{key_sizes}
use Rattle.lent.specs.Refusals.{size, character}
use Rattle.lent.specs.Result.{Result, done, refused, require}
use Rattle.keyentry.specs.Hexadecimal.{bytes_of}
use Rattle.keyentry.specs.declared.units.Bytes.{Bytes}

-- the bytes of a text of any size, or the refusal: 6 where it does not have two digits for each byte
unfoldable pub text_bytes : List ℕ → Result (List ℕ)
text_bytes text = require (eqb (length text % 2) 0) size (require (all hexadecimal text) character (done (bytes_of text)))

-- the wanted size is one of a key
abbrev pub key_size : Bytes → Bool
key_size wanted = key_sizes wanted.0

-- the text has two digits for each byte wanted
abbrev pub full_text : List ℕ → Bytes → Bool
full_text text wanted = eqb (length text) (2 * wanted.0)

-- the key, or the refusal: a text of that many digits, and the bytes of it
unfoldable pub key_entry : List ℕ → Bytes → Result (List ℕ)
key_entry text wanted =
    require (key_size wanted) size
    (require (full_text text wanted) size
    (text_bytes text))

-- how many bytes were written; a refusal stays
abbrev pub bytes_written : Result Bytes → Result ℕ
bytes_written (done wanted) = done wanted.0
bytes_written (refused why) = refused why
