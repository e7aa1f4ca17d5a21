-- What callers cite: a block is read exactly when some permitted PIN makes it, and gives that PIN; for every card number and key.
use borrow.Author.Tests.{eqb-true, eq-eqb}
use mathlib.Core.Path.{◌≡◌, refl, ap, ◌∙◌}
use mathlib.Core.Bool.{true}
use mathlib.Core.List.{List, [], ◌∷◌, ◌++◌}
use Prim.Native.Nat.{ℕ, ◌^◌, ◌<◌, ◌≤◌}
use lib.Bits.{bit_xor, xor_lt}
use lib.Dec.{eqb, lit<}
use lib.ListN.{length}
use Rattle.lent.specs.CardNumbers.{card_size}
use Rattle.lent.specs.Choice.{both, all}
use Rattle.lent.specs.Characters.{digit}
use Rattle.lent.specs.ReadsBack.{Block, ReadsBack}
use Rattle.lent.specs.Result.{Result, done, and_then}
use Rattle.lent.specs.Words.{to_base, word, word_bytes}
use Rattle.lent.proofs.Bases.{to_length, to_from, to_bytes, from_lt, word_back}
use Rattle.lent.proofs.Laws.{both_true}
use Rattle.lent.proofs.Lists.{elements_below}
use Rattle.lent.proofs.ReadsBack.{reads_back}
use Rattle.cipher.proofs.Xor.{xor_cancel}
use Rattle.keyed.specs.Keyed.{key_size, changed_block, encrypted_under, decrypted_under, decrypt_block}
use Rattle.keyed.proofs.Laws.{Inverse, decrypt_undoes_encrypt}
use Rattle.pinblock.specs.CardNumber.{card_part, pin_block_with_card}
use Rattle.pinblock.specs.Entries.{make, make_with_card, read, read_with_card, under_key, encrypt, encrypt_with_card, decrypt, decrypt_with_card}
use Rattle.pinblock.specs.Pin.{pin_size, permitted, pin_block}
use Rattle.pinblock.specs.Reading.{candidate, pin_if_made, pin_of}
use Rattle.pinblock.proofs.CardNumbers.{card_part_lt, last_digit}
use Rattle.pinblock.proofs.Pins.{pin_block_lt, pin_candidate}

-- the bytes of a word are a block
word_block : (x : ℕ) → Block 8 (word_bytes x)
word_block x = record { size = to_length 256 8 x; bytes = to_bytes 8 x }

-- a block is the bytes of its word
module _ {block : List ℕ} (b : Block 8 block) where
  word_lt : word block < 2 ^ 64
  word_lt = from_lt 256 8 block (elements_below 256 block (lit< tt) b.bytes)

  block_back : word_bytes (word block) ≡ block
  block_back = to_from 256 8 block (elements_below 256 block (lit< tt) b.bytes) b.size

-- A maker whose block is the bytes of a PIN's block, changed, and a reader that first takes the change back.
record Changes (forth back : ℕ → ℕ) (make read : List ℕ → Result (List ℕ)) : Type 0 where
  inverse : Inverse forth back
  maker : (pin : List ℕ) → permitted pin ≡ true → make pin ≡ done (word_bytes (forth (pin_block pin)))
  reader : (block : List ℕ) → Block 8 block → read block ≡ pin_of (back (word block))

module _ {forth back : ℕ → ℕ} {make read : List ℕ → Result (List ℕ)} (c : Changes forth back make read) where
  -- a PIN's block comes back from its bytes
  block_undone : (pin : List ℕ) → permitted pin ≡ true → back (word (word_bytes (forth (pin_block pin)))) ≡ pin_block pin
  block_undone pin h =
      let x = pin_block pin in
      let lt = pin_block_lt pin h in
      ap back (word_back (forth x) (c.inverse.forth_lt x lt)) ∙ c.inverse.back_forth x lt

  -- what stands in a block is read if it is permitted and its block, changed, is this one
  changed_reads_back : ReadsBack 8 permitted make read
  unfolding pin_of pin_if_made
  changed_reads_back =
      reads_back (record {
        block_of = λ pin. word_bytes (forth (pin_block pin));
        stands = λ block. candidate (to_base 16 16 (back (word block)));
        test = λ pin block. both (permitted pin) (eqb (pin_block pin) (back (word block)));
        is_block = λ pin h. word_block (forth (pin_block pin));
        maker = c.maker;
        reader = c.reader;
        stands_back = λ pin h. rw (block_undone pin h) (pin_candidate pin h);
        passes = λ pin h. rw (h, block_undone pin h) (eq-eqb (pin_block pin) (pin_block pin) refl);
        only = λ pin block b t.
            let p = both_true (permitted pin) _ t in
            let e : pin_block pin ≡ back (word block) = eqb-true _ _ p.1 in
            (p.0, rw (e, c.inverse.forth_back (word block) (word_lt b)) (block_back b));
      })

-- ---- clear blocks

clear : Changes (λ x. x) (λ x. x) make read
unfolding make read
clear =
    record {
      inverse = record { forth_lt = λ x h. h; back_lt = λ x h. h; back_forth = λ x h. refl; forth_back = λ x h. refl };
      maker = λ pin h. let b = both_true (pin_size pin) (all digit pin) h in simp (b.0, b.1);
      reader = λ block b. simp (eq-eqb (length block) 8 b.size);
    }

-- without a card number
pub read_back : ReadsBack 8 permitted make read
read_back = changed_reads_back clear

module _ (card : List ℕ) (h : card_size card ≡ true) (d : all digit card ≡ true) where
  with_card : Changes (λ x. bit_xor x (card_part card)) (λ x. bit_xor x (card_part card)) (λ pin. make_with_card pin card) (λ block. read_with_card block card)
  unfolding make_with_card read_with_card pin_block_with_card
  with_card =
      let lt : (x : ℕ) → x < 2 ^ 64 → bit_xor x (card_part card) < 2 ^ 64 = λ x k. xor_lt 64 x (card_part card) k (card_part_lt card h d) in
      let undone : (x : ℕ) → x < 2 ^ 64 → bit_xor (bit_xor x (card_part card)) (card_part card) ≡ x = λ x k. xor_cancel x (card_part card) in
      record {
        inverse = record { forth_lt = lt; back_lt = lt; back_forth = undone; forth_back = undone };
        maker = λ pin k. let b = both_true (pin_size pin) (all digit pin) k in simp (b.0, b.1, h, d);
        reader = λ block b. simp (eq-eqb (length block) 8 b.size, h, d);
      }

  -- with a card number
  pub read_back_with_card : ReadsBack 8 permitted (λ pin. make_with_card pin card) (λ block. read_with_card block card)
  read_back_with_card = changed_reads_back with_card

-- a card number's last digit has no effect
pub last_digit_free : (pin before : List ℕ) (x y : ℕ) → 12 ≤ length before
    → pin_block_with_card pin (before ++ x ∷ []) ≡ pin_block_with_card pin (before ++ y ∷ [])
unfolding pin_block_with_card
last_digit_free pin before x y h = ap (bit_xor (pin_block pin)) (last_digit before x y h)

-- ---- encrypted blocks

module _ (key : List ℕ) (h : key_size key ≡ true) where
  -- for any maker and reader of clear blocks
  under_key_back : {forth back : ℕ → ℕ} {make read : List ℕ → Result (List ℕ)} → Changes forth back make read
      → Changes (λ x. encrypted_under key (forth x)) (λ x. back (decrypted_under key x))
      (λ pin. under_key key (make pin)) (λ block. and_then (decrypt_block key block) read)
  unfolding under_key changed_block
  under_key_back {forth} {back} c =
      let i = c.inverse in
      let j = decrypt_undoes_encrypt key in
      record {
        inverse =
            record {
              forth_lt = λ x k. j.forth_lt (forth x) (i.forth_lt x k);
              back_lt = λ x k. i.back_lt (decrypted_under key x) (j.back_lt x k);
              back_forth = λ x k. ap back (j.back_forth (forth x) (i.forth_lt x k)) ∙ i.back_forth x k;
              forth_back = λ x k. ap (encrypted_under key) (i.forth_back (decrypted_under key x) (j.back_lt x k)) ∙ j.forth_back x k;
            };
        maker = λ pin k.
            let y = forth (pin_block pin) in
            simp (h, c.maker pin k, to_length 256 8 y, word_back y (i.forth_lt (pin_block pin) (pin_block_lt pin k)));
        reader = λ block b.
            let y = decrypted_under key (word block) in
            simp (eq-eqb (length block) 8 b.size, h)
            (c.reader (word_bytes y) (word_block y) ∙ rw (word_back y (j.back_lt (word block) (word_lt b))));
      }

  -- without a card number
  pub decrypt_back : ReadsBack 8 permitted (encrypt key) (decrypt key)
  unfolding encrypt decrypt
  decrypt_back = changed_reads_back (under_key_back clear)

  -- with a card number
  pub decrypt_back_with_card : (card : List ℕ) → card_size card ≡ true → all digit card ≡ true
      → ReadsBack 8 permitted (λ pin. encrypt_with_card key pin card) (λ block. decrypt_with_card key block card)
  unfolding encrypt_with_card decrypt_with_card
  decrypt_back_with_card card k d = changed_reads_back (under_key_back (with_card card k d))
