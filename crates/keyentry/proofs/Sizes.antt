-- The tests of key entry in their order.
use borrow.Author.Tests.{eqb-true, eq-eqb}
use mathlib.Core.Path.{◌≡◌}
use mathlib.Core.Bool.{true}
use mathlib.Core.List.{List}
use Prim.Native.Nat.{ℕ, ◌*◌, ◌%◌}
use native.Mathlib.Omega.{arith}
use lib.Dec.{eqb}
use lib.ListN.{length}
use Rattle.lent.specs.Choice.{all}
use Rattle.lent.specs.Characters.{hexadecimal}
use Rattle.lent.specs.Refusals.{size, character}
use Rattle.lent.specs.Result.{Result, done, require}
use Rattle.lent.proofs.Results.{require_done}
use Rattle.keyentry.specs.Hexadecimal.{bytes_of}
use Rattle.keyentry.specs.KeyEntry.{text_bytes, key_size, full_text, key_entry}
use Rattle.keyentry.specs.declared.units.Bytes.{Bytes}

module _ (text : List ℕ) where
  pub decoded : eqb (length text % 2) 0 ≡ true → all hexadecimal text ≡ true → text_bytes text ≡ done (bytes_of text)
  unfolding text_bytes
  decoded o h = simp (o, h)

  -- a text that is not refused passes both tests
  pub decodes : {key : List ℕ} → text_bytes text ≡ done key → (all hexadecimal text ≡ true) × (◌≡◌ {A = Result (List ℕ)} (done (bytes_of text)) (done key))
  unfolding text_bytes
  decodes {key} e =
      require_done (all hexadecimal text) character (done (bytes_of text)) key
      (require_done (eqb (length text % 2) 0) size (require (all hexadecimal text) character (done (bytes_of text))) key e).1

module _ (text : List ℕ) (wanted : Bytes) where
  pub entered : key_size wanted ≡ true → length text ≡ 2 * wanted.0 → all hexadecimal text ≡ true → key_entry text wanted ≡ done (bytes_of text)
  unfolding key_entry
  entered s f h = let even : length text % 2 ≡ 0 = omega arith in simp (s, eq-eqb _ _ f) (decoded text (eq-eqb _ _ even) h)

  -- a text that is not refused passes all three tests
  pub passes : {key : List ℕ} → key_entry text wanted ≡ done key
      → (key_size wanted ≡ true) × (length text ≡ 2 * wanted.0) × (all hexadecimal text ≡ true) × (◌≡◌ {A = Result (List ℕ)} (done (bytes_of text)) (done key))
  unfolding key_entry
  passes {key} e =
      let s = require_done (key_size wanted) size (require (full_text text wanted) size (text_bytes text)) key e in
      let f = require_done (full_text text wanted) size (text_bytes text) key s.1 in
      let d = decodes text f.1 in
      (s.0, eqb-true _ _ f.0, d.0, d.1)
