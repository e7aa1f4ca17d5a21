-- Laws on a text between its length and a fill.
use mathlib.Core.Path.{◌≡◌, refl}
use mathlib.Core.Bool.{Bool, true}
use mathlib.Core.List.{List, ◌++◌}
use Prim.Native.Nat.{ℕ, ◌+◌, ◌-◌, ◌/◌, ◌%◌, ◌<◌, ◌≤◌}
use native.Mathlib.Nat.{div-one, mod-lt}
use native.Mathlib.Omega.{arith}
use lib.Dec.{lit<}
use lib.ListN.{length, drop, replicate, length-append, length-replicate}
use lib.Seq.{take_at}
use Rattle.lent.specs.Characters.{digit, two_digits}
use Rattle.lent.specs.Choice.{all}
use Rattle.lent.specs.Frames.{framed, said_length, framed_text}
use Rattle.lent.specs.Words.{to_base}
use Rattle.lent.proofs.Laws.{within}
use Rattle.lent.proofs.Lists.{all_append, all_replicate, drop_replicate}

-- two characters
two_length : (k : ℕ) → length (two_digits k) ≡ 2
unfolding to_base
two_length k = refl

-- which are digits
two_all : (p : ℕ → Bool) → ((x : ℕ) → digit x ≡ true → p x ≡ true) → (k : ℕ) → all p (two_digits k) ≡ true
unfolding to_base
two_all p h k =
    let one : (n : ℕ) → p (n % 10 + 48) ≡ true = λ n. h _ (within 48 57 (n % 10 + 48) (omega arith) (omega (arith, mod-lt n {m = 10} (lit< tt)))) in
    simp (one (k / 10), one (k / 1))

-- below a hundred they say the number
said_back : (k : ℕ) (s : List ℕ) → k < 100 → said_length (two_digits k ++ s) ≡ k
unfolding to_base
said_back k s h =
    let low : (x : ℕ) → x < 10 → (x + 48) % 16 ≡ x = λ x l. omega arith in
    let tens : k / 10 % 10 ≡ k / 10 = omega arith in
    rw (div-one k, tens, low (k / 10) (omega arith), low (k % 10) (omega arith)) (omega arith)

-- the length and the text, written over the fill
pub framed_parts : (n fill : ℕ) (text : List ℕ) {said body rest : List ℕ} → said ≡ two_digits (length text) → body ≡ text → rest ≡ drop 2 (replicate n fill)
    → said ++ (body ++ drop (length text) rest) ≡ framed n fill text
unfolding framed to_base
framed_parts n fill text s b r = rw (s, b, r, drop_replicate 2 n fill, drop_replicate (length text) (n - 2) fill)

-- A text that has room.
module _ (n fill : ℕ) (text : List ℕ) (room : 2 + length text ≤ n) where
  pub framed_length : length (framed n fill text) ≡ n
  unfolding framed
  framed_length = simp (length-append, two_length, length-replicate) (omega arith)

  pub framed_all : (p : ℕ → Bool) → ((x : ℕ) → digit x ≡ true → p x ≡ true) → all p text ≡ true → p fill ≡ true → all p (framed n fill text) ≡ true
  unfolding framed to_base
  framed_all p h t f =
      rw (
        all_append p (two_digits (length text)) (text ++ replicate (n - 2 - length text) fill),
        two_all p h (length text),
        all_append p text (replicate (n - 2 - length text) fill),
        t,
      )
      (all_replicate p (n - 2 - length text) fill f)

  -- it stands in its frame
  pub framed_back : length text < 100 → framed_text (framed n fill text) ≡ text
  unfolding framed framed_text to_base
  framed_back short =
      rw (said_back (length text) (text ++ replicate (n - 2 - length text) fill) short)
      (take_at text (replicate (n - 2 - length text) fill) (length text) refl)
