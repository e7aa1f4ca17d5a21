-- Hexadecimal digits and their values, by tests that are computed for every digit, and the text of bytes.
use borrow.Author.Tests.{eqb-true, lt-ltb, ltb-true}
use mathlib.Core.Path.{◌≡◌, refl, ap}
use mathlib.Core.Bool.{Bool, true}
use mathlib.Core.Logic.{◌⊎◌, inl, inr}
use mathlib.Core.List.{List, [], ◌∷◌, ◌++◌, map}
use Prim.Native.Nat.{ℕ, zero, suc, ◌+◌, ◌-◌, ◌*◌, ◌/◌, ◌%◌, ◌<◌, ◌≤◌}
use native.Mathlib.Nat.{div-add-mod', mod-lt}
use native.Mathlib.Numerals.{add-one}
use native.Mathlib.Omega.{arith}
use lib.Arith.{digits_div, digits_mod}
use lib.Dec.{eqb, ltb, lit<}
use lib.ListN.{length, get_or, take}
use lib.Seq.{take-suc}
use Rattle.lent.specs.Choice.{both, pick, all}
use Rattle.lent.specs.Characters.{digit, small, capitalized, hexadecimal}
use Rattle.lent.specs.Words.{byte}
use Rattle.lent.proofs.Laws.{cases, both_true, between_true, holds_from, holds_below}
use Rattle.keyentry.specs.Hexadecimal.{value_of, hexadecimal_digit, text_of, bytes_of}

-- ---- one digit

-- the digit of a value is hexadecimal and has that value
made : ℕ → ℕ → Bool
made letter n = both (hexadecimal (hexadecimal_digit letter n)) (eqb (value_of (hexadecimal_digit letter n)) n)

-- a hexadecimal digit is the digit of its value, its letter's case aside
read : ℕ → Bool
read x = pick (hexadecimal x) (both (eqb (hexadecimal_digit 65 (value_of x)) (capitalized x)) (ltb (value_of x) 16)) true

hexadecimal_le : (x : ℕ) → hexadecimal x ≡ true → x ≤ 102
unfolding hexadecimal capitalized
hexadecimal_le x e =
    cases (digit x) (λ d. omega (arith, between_true 48 57 x d))
    (λ d. cases (small x) (λ s. omega (arith, between_true 65 70 (x - 32) (simp (d, s) at e)))
    (λ s. omega (arith, between_true 65 70 x (simp (d, s) at e))))

digit_read : (x : ℕ) → hexadecimal x ≡ true → (hexadecimal_digit 65 (value_of x) ≡ capitalized x) × (value_of x < 16)
unfolding read holds_from hexadecimal value_of hexadecimal_digit capitalized
digit_read x e =
    let test : read x ≡ true = holds_below read 103 refl x (omega (arith, hexadecimal_le x e)) in
    let h = both_true (eqb (hexadecimal_digit 65 (value_of x)) (capitalized x)) (ltb (value_of x) 16) (simp e at test) in
    (eqb-true _ _ h.0, ltb-true _ _ h.1)

-- capitals and small letters
made_all : (letter : ℕ) → (letter ≡ 65) ⊎ (letter ≡ 97) → holds_from (made letter) 0 16 ≡ true
unfolding made holds_from hexadecimal value_of hexadecimal_digit capitalized
made_all letter (inl e) = rw e
made_all letter (inr e) = rw e

digit_made : (letter : ℕ) → (letter ≡ 65) ⊎ (letter ≡ 97) → (n : ℕ) → n < 16
    → (hexadecimal (hexadecimal_digit letter n) ≡ true) × (value_of (hexadecimal_digit letter n) ≡ n)
unfolding made
digit_made letter case n h =
    let d = hexadecimal_digit letter n in
    let t = both_true (hexadecimal d) (eqb (value_of d) n) (holds_below (made letter) 16 (made_all letter case) n h) in
    (t.0, eqb-true _ _ t.1)

-- ---- texts

-- a text of hexadecimal digits is the text of its bytes, its letters' case aside
pub text_read : (text : List ℕ) (n : ℕ) → length text ≡ 2 * n → all hexadecimal text ≡ true → map capitalized text ≡ text_of 65 (bytes_of text)
unfolding bytes_of text_of
text_read [] n e h = refl
text_read (x ∷ []) n e h = absurd (omega arith)
text_read (x ∷ y ∷ s) zero e h = absurd (omega arith)
text_read (x ∷ y ∷ s) (suc n) e h =
    let hx = both_true (hexadecimal x) (all hexadecimal (y ∷ s)) h in
    let hy = both_true (hexadecimal y) (all hexadecimal s) hx.1 in
    let dx = digit_read x hx.0 in
    let dy = digit_read y hy.0 in
    rw (digits_div (value_of x) dy.1, digits_mod (value_of x) dy.1, dx.0, dy.0, text_read s n (omega arith) hy.1)

-- its bytes are half as many
pub bytes_length : (text : List ℕ) (n : ℕ) → length text ≡ 2 * n → length (bytes_of text) ≡ n
unfolding bytes_of
bytes_length [] n e = omega arith
bytes_length (x ∷ []) n e = absurd (omega arith)
bytes_length (x ∷ y ∷ s) zero e = absurd (omega arith)
bytes_length (x ∷ y ∷ s) (suc n) e = ap suc (bytes_length s n (omega arith))

-- they are bytes
pub bytes_below : (text : List ℕ) → all hexadecimal text ≡ true → all byte (bytes_of text) ≡ true
unfolding bytes_of
bytes_below [] h = refl
bytes_below (x ∷ []) h = refl
bytes_below (x ∷ y ∷ s) h =
    let hx = both_true (hexadecimal x) (all hexadecimal (y ∷ s)) h in
    let hy = both_true (hexadecimal y) (all hexadecimal s) hx.1 in
    let dx = digit_read x hx.0 in
    let dy = digit_read y hy.0 in
    rw (lt-ltb (value_of x * 16 + value_of y) 256 (omega (arith, dx.1, dy.1))) (bytes_below s hy.1)

module _ (letter : ℕ) (case : (letter ≡ 65) ⊎ (letter ≡ 97)) where
  -- the text of bytes is hexadecimal, and gives the bytes back
  pub text_made : (key : List ℕ) → all byte key ≡ true → (all hexadecimal (text_of letter key) ≡ true) × (bytes_of (text_of letter key) ≡ key)
  unfolding bytes_of text_of
  text_made [] b = (refl, refl)
  text_made (x ∷ s) b =
      let hx = both_true (byte x) (all byte s) b in
      let below = ltb-true x 256 hx.0 in
      let high = digit_made letter case (x / 16) (omega arith) in
      let low = digit_made letter case (x % 16) (mod-lt x (lit< tt)) in
      let rest = text_made s hx.1 in
      (rw (high.0, low.0) rest.0, rw (high.1, low.1, rest.1, div-add-mod' x 16))

-- two digits for each byte
pub text_length : (letter : ℕ) (s : List ℕ) → length (text_of letter s) ≡ 2 * length s
unfolding text_of
text_length letter [] = refl
text_length letter (b ∷ s) = omega (arith, text_length letter s)

text_append : (letter : ℕ) (s t : List ℕ) → text_of letter (s ++ t) ≡ text_of letter s ++ text_of letter t
unfolding text_of
text_append letter [] t = refl
text_append letter (b ∷ s) t = rw (text_append letter s t)

-- the text of one more byte
pub text_next : (letter : ℕ) (s : List ℕ) (i : ℕ) → i < length s
    → text_of letter (take (i + 1) s) ≡ text_of letter (take i s) ++ text_of letter (get_or s i 0 ∷ [])
text_next letter s i h = rw (add-one i, take-suc s i 0 h) (text_append letter (take i s) (get_or s i 0 ∷ []))
