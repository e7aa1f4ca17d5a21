-- What methods of the library promise, in the words of specs/.
use Rattle.std.proofs.Common.{◌≡◌, refl, sym, ◌∙◌, Bool, true, false, ◌&&◌, List, [], ◌∷◌, ℕ, zero, suc, ◌+◌, ◌<◌, ◌≤◌, length, take, get_or, arith, w32, w64, eqb, lit<}
use Rattle.std.proofs.lemmas.Bool.{agree_below_at, cases_lt}
use Rattle.std.specs.Char.{to_ascii_uppercase, is_ascii_alphanumeric, is_ascii_hexdigit}
use Rattle.std.specs.Array.{IsFromFnResultFrom}
use Rattle.std.specs.Fn.{Called}
use denote.Param.Members.{Mut}
use mathlib.Core.Logic.{by_cases}
use Prim.Native.Nat.compare.{suc-suc}
use native.Mathlib.Decide.{dec_lt}
use Rattle.std.specs.Cmp.Lexicographic.{pointwise}
use Rattle.std.specs.Int.{from_be_bytes}
use Rattle.std.specs.List.{list_all}
use borrow.Author.Tests.{lt-ltb, le-ltb, le-leb, lt-leb, eqb-true, eqb-false, eq-eqb, ne_eqb}
use mathlib.Core.Logic.{⊎_elim}
use Rattle.lent.specs.Characters.{capitalized, hexadecimal, letter_or_digit}
use Rattle.lent.specs.Choice.{both, all}
use Rattle.lent.specs.Texts.{starts_with, same}
use Rattle.lent.specs.Words.{from_base}
use Rattle.lent.proofs.Laws.{cases}

both_and : (a b : Bool) → (a && b) ≡ both a b
both_and true b = refl
both_and false b = refl

-- ---- characters

pub uppercase : (x : ℕ) → to_ascii_uppercase x ≡ capitalized x
unfolding capitalized
uppercase x =
    ⊎_elim (λ h. simp (lt-ltb x 97 h, lt-leb 97 x h))
    (λ h. ⊎_elim (λ k. let i : x ≤ 122 = omega arith in simp (le-ltb x 97 h, lt-ltb x 123 k, le-leb 97 x h, le-leb x 122 i))
    (λ k. let i : 122 < x = omega arith in simp (le-ltb x 97 h, le-ltb x 123 k, le-leb 97 x h, lt-leb x 122 i)) (cases_lt x 123))
    (cases_lt x 97)

pub hexdigit : (x : ℕ) → x < 256 → is_ascii_hexdigit x ≡ hexadecimal x
unfolding hexadecimal capitalized
hexdigit x = agree_below_at is_ascii_hexdigit hexadecimal 256 x refl

pub alphanumeric : (x : ℕ) → x < 256 → is_ascii_alphanumeric x ≡ letter_or_digit x
unfolding letter_or_digit
alphanumeric x = agree_below_at is_ascii_alphanumeric letter_or_digit 256 x refl

pub each_passes : (p : ℕ → Bool) (s : List ℕ) → list_all p s ≡ all p s
each_passes p [] = refl
each_passes p (x ∷ s) = rw (each_passes p s) (both_and (p x) (all p s))

-- ---- texts

exchanged : (a b : ℕ) → eqb a b ≡ eqb b a
exchanged a b = cases (eqb a b) (λ t. simp (t, eq-eqb b a (sym (eqb-true a b t)))) (λ f. simp (f, ne_eqb b a (λ e. eqb-false a b f (sym e))))

pub starts : (text s : List ℕ) → pointwise eqb text (take (length text) s) ≡ starts_with text s
unfolding starts_with
starts [] s = refl
starts (x ∷ text) [] = refl
starts (x ∷ text) (y ∷ s) = rw (exchanged x y, starts text s) (both_and (eqb y x) (starts_with text s))

either_way : (a b c : Bool) → (a && both b c) ≡ both b (both a c)
either_way true true c = refl
either_way true false c = refl
either_way false true c = refl
either_way false false c = refl

pub equals : (text s : List ℕ) → pointwise eqb s text ≡ same text s
unfolding same starts_with
equals [] [] = refl
equals [] (y ∷ s) = simp (ne_eqb (length (y ∷ s)) 0 (λ e. omega arith))
equals (x ∷ text) [] = simp (ne_eqb 0 (length (x ∷ text)) (λ e. omega arith))
equals (x ∷ text) (y ∷ s) = rw (equals text s, suc-suc (length s) (length text)) (either_way (eqb y x) (eqb (length s) (length text)) (starts_with text s))

-- ---- words

-- what `from_fn` gives, of a closure that computes f
pub from_calls : {F : Type 0} (g : Mut F (ℕ × Unit {0}) ℕ) (f : ℕ → ℕ) (p : F) → ((i y : ℕ) (q : F) → Called g p (i, tt) y q → (q ≡ p) × (y ≡ f i))
    → (ys : List ℕ) (i n : ℕ) → IsFromFnResultFrom g p ys i n → (j : ℕ) → i ≤ j → j < i + n → get_or ys j 0 ≡ f j
from_calls g f p h ys i zero r j k l = absurd (omega arith)
from_calls g f p h ys i (suc n) (q, y, at, call, rest) j k l =
    by_cases (dec_lt i j) (λ m. from_calls g f p h ys (i + 1) n (rw (h i y q call).0 at rest) j (omega arith) (omega arith))
    (λ m. let e : j ≡ i = omega arith in rw e (at.1 0 ∙ (h i y q call).1))

pub word_be : (bytes s : List ℕ) → ((i : ℕ) → i < 8 → get_or bytes i 0 ≡ get_or s i 0) → from_be_bytes w64 bytes ≡ from_base 256 8 s
unfolding from_base
word_be bytes s h =
    rw (h 0 (lit< tt), h 1 (lit< tt), h 2 (lit< tt), h 3 (lit< tt), h 4 (lit< tt), h 5 (lit< tt), h 6 (lit< tt), h 7 (lit< tt)) (omega arith)

pub number_be : (bytes s : List ℕ) → ((i : ℕ) → i < 4 → get_or bytes i 0 ≡ get_or s i 0) → from_be_bytes w32 bytes ≡ from_base 256 4 s
unfolding from_base
number_be bytes s h = rw (h 0 (lit< tt), h 1 (lit< tt), h 2 (lit< tt), h 3 (lit< tt)) (omega arith)
