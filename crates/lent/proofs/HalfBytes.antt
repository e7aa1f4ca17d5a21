-- Laws on half-bytes: those of digits, and the word of half-bytes.
use borrow.Author.Tests.{lt-ltb}
use mathlib.Core.Path.{◌≡◌, sym, ◌∙◌}
use mathlib.Core.Bool.{Bool, true}
use mathlib.Core.List.{List, [], ◌∷◌, ◌++◌, map, append_assoc, append-nil}
use Prim.Native.Nat.{ℕ, suc, ◌+◌, ◌-◌, ◌*◌, ◌%◌, ◌^◌, ◌<◌, ◌≤◌}
use native.Mathlib.Nat.{mod-eq_of_lt}
use native.Mathlib.Numerals.{add-one}
use native.Mathlib.Omega.{arith}
use lib.Dec.{ltb, lit<}
use lib.ListN.{length, length-append}
use lib.Seq.{get_or-append_seam}
use Rattle.std.specs.List.{fold}
use Rattle.lent.specs.Characters.{digit, digit_value}
use Rattle.lent.specs.Choice.{all}
use Rattle.lent.specs.HalfBytes.{low_half, word_of}
use Rattle.lent.specs.Words.{from_base, to_base}
use Rattle.lent.proofs.Bases.{to_length, from_to}
use Rattle.lent.proofs.Laws.{between_true}
use Rattle.lent.proofs.Lists.{all_map, map_all}
use Rattle.lent.proofs.Parts.{from_front}

-- ---- digits

-- a half-byte is a number below 16
abbrev pub half_byte : ℕ → Bool
half_byte x = ltb x 16

-- the values of digits are half-bytes
pub values_half_bytes : (s : List ℕ) → all digit s ≡ true → all half_byte (map digit_value s) ≡ true
values_half_bytes =
    all_map digit half_byte digit_value (λ x e. let h = between_true 48 57 x e in lt-ltb (x - 48) 16 (omega arith))

-- two changes that agree on digits
pub map_digits : (f g : ℕ → ℕ) → ((x : ℕ) → 48 ≤ x → x ≤ 57 → f x ≡ g x) → (s : List ℕ) → all digit s ≡ true → map f s ≡ map g s
map_digits f g h = map_all digit f g (λ x e. let k = between_true 48 57 x e in h x k.0 k.1)

-- a digit's low half-byte is its value
pub low_digits : (s : List ℕ) → all digit s ≡ true → map low_half s ≡ map digit_value s
low_digits = map_digits low_half digit_value (λ x h k. omega arith)

-- ---- the word of half-bytes

-- every word is that of its sixteen half-bytes, so that the promise of `with_half-bytes` speaks of every x
pub word_halves : (x : ℕ) → x < 2 ^ 64 → x ≡ word_of (to_base 16 16 x)
unfolding word_of
word_halves x h = sym (rw (to_length 16 16 x, from_to 16 (lit< tt) 16 x, mod-eq_of_lt h) (mod-eq_of_lt h))

-- with one more after them
one_more : (s : List ℕ) (h : ℕ) → word_of (s ++ h ∷ []) ≡ (word_of s * 16 + h) % 2 ^ 64
unfolding word_of from_base
one_more s h =
    let more : length (s ++ h ∷ []) ≡ suc (length s) = length-append s (h ∷ []) ∙ add-one (length s) in
    rw (more, from_front 16 (length s) s (h ∷ []) (omega arith), get_or-append_seam s h [] 0) (omega arith)

-- with those of a text, one character after the other
pub folded : (text : List ℕ) (x : ℕ) (first : List ℕ) → x ≡ word_of first
    → fold (λ word h. (word * 16 + h % 16) % 2 ^ 64) x text ≡ word_of (first ++ map low_half text)
folded [] x first e = rw append-nil e
folded (h ∷ text) x first e =
    rw (← append_assoc first (h % 16 ∷ []) (map low_half text))
    (folded text ((x * 16 + h % 16) % 2 ^ 64) (first ++ h % 16 ∷ []) (rw e (sym (one_more first (h % 16)))))
