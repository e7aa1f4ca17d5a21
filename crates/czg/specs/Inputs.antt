-- The bytes that an input of a request says.
use Rattle.std.specs.Prelude.{Bool, List, [], ◌∷◌, ℕ, drop}
use Rattle.lent.specs.Choice.{pick}
use Rattle.lent.specs.Result.{Result, done}
use Rattle.lent.specs.Texts.{starts_with, same}
use Rattle.keyentry.specs.KeyEntry.{text_bytes}

-- `-` and `hex:` in ASCII
abbrev pub hyphen : List ℕ
hyphen = 45 ∷ []

abbrev pub hex : List ℕ
hex = 104 ∷ 101 ∷ 120 ∷ 58 ∷ []

-- `-` says no bytes. A PIN, a card number, a password, a VIP number and a text are their characters, or what stands in hexadecimal after `hex:`; all else is
-- hexadecimal.
abbrev pub input_bytes : Bool → List ℕ → Result (List ℕ)
input_bytes characters part =
    pick (same hyphen part) (done [])
    (pick characters (pick (starts_with hex part) (text_bytes (drop 4 part)) (done part))
    (text_bytes part))
