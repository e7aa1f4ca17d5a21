-- Laws of key entry: a key's hexadecimal text gives the key back, and a text that is entered is the text of the key that it gives.
use mathlib.Core.Path.{◌≡◌, sym, ap, ◌∙◌}
use mathlib.Core.Bool.{true}
use mathlib.Core.List.{List, map}
use mathlib.Core.Logic.{◌⊎◌}
use Prim.Native.Nat.{ℕ, ◌*◌}
use lib.ListN.{length}
use Rattle.lent.specs.Choice.{all}
use Rattle.lent.specs.Characters.{capitalized}
use Rattle.lent.specs.Result.{done}
use Rattle.lent.specs.Words.{byte}
use Rattle.lent.proofs.Results.{same_done}
use Rattle.keyentry.specs.Hexadecimal.{text_of}
use Rattle.keyentry.specs.KeyEntry.{key_size, key_entry}
use Rattle.keyentry.specs.declared.units.Bytes.{Bytes}
use Rattle.keyentry.proofs.Sizes.{passes, entered}
use Rattle.keyentry.proofs.Texts.{text_read, text_made, text_length, bytes_length}

-- the hexadecimal text of a key, in capitals (65) or in small letters (97), gives the key back
pub text_entered : (letter : ℕ) → (letter ≡ 65) ⊎ (letter ≡ 97) → (key : List ℕ) (wanted : Bytes)
    → all byte key ≡ true → length key ≡ wanted.0 → key_size wanted ≡ true → key_entry (text_of letter key) wanted ≡ done key
text_entered letter case key wanted b n s =
    let h = text_made letter case key b in
    entered (text_of letter key) wanted s (text_length letter key ∙ ap (λ (m : ℕ). 2 * m) n) h.0
    ∙ ap done h.1

-- A text that is entered as a key of the wanted size is the text of that key, its letters' case aside; the key has that size.
pub record EnteredText (text key : List ℕ) (wanted : Bytes) : Type 0 where
  pub size : key_size wanted ≡ true
  pub count : length key ≡ wanted.0
  pub text_of_entered : map capitalized text ≡ text_of 65 key

pub entered_text : (text key : List ℕ) (wanted : Bytes) → key_entry text wanted ≡ done key → EnteredText text key wanted
entered_text text key wanted e =
    let h = passes text wanted e in
    let same = same_done h.3 in
    record {
      size = h.0;
      count = ap length (sym same) ∙ bytes_length text wanted.0 h.1;
      text_of_entered = text_read text wanted.0 h.1 h.2 ∙ ap (text_of 65) same;
    }
