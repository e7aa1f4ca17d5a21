-- The windows of seven bits of the key schedule: the words that are looked up for them, and the loop over them.
use mathlib.Core.List.{List}
use mathlib.Core.Logic.{◌⊎◌, inl, inr}
use mathlib.Core.Path.{◌≡◌, sym, ap, ◌∙◌}
use Prim.Native.Nat.{ℕ, ◌+◌, ◌-◌, ◌*◌, ◌/◌, ◌%◌, ◌^◌, ◌<◌, ◌≤◌}
use native.Mathlib.Nat.{eq-or-lt_of_le, eq-zero-or-pos, mod-eq_of_lt, mod-lt, mul_assoc, pow-suc}
use native.Mathlib.Numerals.{add-one}
use native.Mathlib.Omega.{arith}
use lib.Bits.{bit_xor, xor_shifted}
use lib.Dec.{lit<}
use lib.ListN.{length, get_or, set, length-set}
use lib.Pow.{field, pow-add, shl-shr, shr-shr}
use lib.Seq.{get_or-set_same, get_or-set_other}
use Rattle.cipher.specs.Bits.{permuted}
use Rattle.cipher.specs.Private.{seven, four_times, window}
use Rattle.cipher.specs.Tables.{permuted_choice2}
use Rattle.cipher.proofs.Linear.{Linear, itself, shr, low, shl, sum, after, selection}
use Rattle.cipher.proofs.Tabled.{Tabled, entry, remaining}
use Rattle.merged.specs.ChoiceWords.{choice_c, choice_d}
use Rattle.merged.specs.Words.{choice}

-- ---- seven bits, four of them in a row

unfoldable pub four : ℕ → ℕ → ℕ → ℕ → ℕ
four a b c d = bit_xor (bit_xor (bit_xor (a * 2 ^ 21) (b * 2 ^ 14)) (c * 2 ^ 7)) d

pub four_keeps : {f g h k : ℕ → ℕ} → Linear f → Linear g → Linear h → Linear k → Linear (λ x. four (f x) (g x) (h x) (k x))
unfolding four
four_keeps hf hg hh hk = sum (sum (sum (after (shl 21) hf) (after (shl 14) hg)) (after (shl 7) hh)) hk

pub four_sum : (a b c d : ℕ) → b < 128 → c < 128 → d < 128 → four a b c d ≡ a * 2 ^ 21 + b * 2 ^ 14 + c * 2 ^ 7 + d
unfolding four
four_sum a b c d hb hc hd =
    let ab = xor_shifted a 21 (b * 2 ^ 14) (omega arith) in
    let abc = xor_shifted (a * 128 + b) 14 (c * 2 ^ 7) (omega arith) in
    let abcd = xor_shifted ((a * 128 + b) * 128 + c) 7 d hd in
    let e1 : a * 2 ^ 21 + b * 2 ^ 14 ≡ (a * 128 + b) * 2 ^ 14 = omega arith in
    let e2 : (a * 128 + b) * 2 ^ 14 + c * 2 ^ 7 ≡ ((a * 128 + b) * 128 + c) * 2 ^ 7 = omega arith in
    rw (ab, e1, abc, e2, abcd) (omega arith)

-- ---- windows

pub seven_lt : (half p : ℕ) → seven half p < 128
unfolding seven
seven_lt half p = mod-lt _ (lit< tt)

-- with exclusive-or
unfoldable pub seven_of : ℕ → ℕ → ℕ
seven_of p half = bit_xor (half * 2 ^ 28) half / 2 ^ (49 - p) % 2 ^ 7

pub seven_keeps : (p : ℕ) → Linear (seven_of p)
unfolding seven_of
seven_keeps p = after (low 7) (after (shr (49 - p)) (sum (shl 28) itself))

pub seven_of_half : (p half : ℕ) → half < 2 ^ 28 → seven_of p half ≡ seven half p
unfolding seven seven_of
seven_of_half p half h =
    let e : half * 2 ^ 28 + half ≡ half * 0x1000_0001 = omega arith in
    ap (λ (x : ℕ). x / 2 ^ (49 - p) % 2 ^ 7) (xor_shifted half 28 half h ∙ e)

-- a half twice in a row from the first bit of a word on, moved p places to the left
unfoldable pub moved : ℕ → ℕ → ℕ
moved half p = half * 0x10_0000_0100 * 2 ^ p % 2 ^ 64

pub not_moved : (half : ℕ) → half < 2 ^ 28 → half * 0x10_0000_0100 ≡ moved half 0
unfolding moved
not_moved half h = omega arith

pub moved_on : (half p : ℕ) → moved half p * 2 ^ 1 % 2 ^ 64 ≡ moved half (p + 1)
unfolding moved
moved_on half p = rw (add-one p, pow-suc 2 p, ← mul_assoc (half * 0x10_0000_0100) (2 ^ p) 2) (omega arith)

moved_seven : (half p : ℕ) → p ≤ 28 → moved half p / 2 ^ 57 ≡ seven half p
unfolding moved seven
moved_seven half p h =
    let x = half * 0x1000_0001 in
    let e : 57 ≡ (8 + p) + (49 - p) = omega arith in
    let s : half * 0x10_0000_0100 * 2 ^ p ≡ x * 2 ^ (8 + p) =
    rw (pow-add 2 8 p, ← mul_assoc x (2 ^ 8) (2 ^ p)) (ap (λ (y : ℕ). y * 2 ^ p) (omega arith)) in
    let t : x * 2 ^ (8 + p) / 2 ^ 57 ≡ x / 2 ^ (49 - p) =
    ap (λ (k : ℕ). x * 2 ^ (8 + p) / 2 ^ k) e
    ∙ sym (shr-shr (x * 2 ^ (8 + p)) (8 + p) (49 - p))
    ∙ ap (λ (y : ℕ). y / 2 ^ (49 - p)) (shl-shr x (8 + p)) in
    field (half * 0x10_0000_0100 * 2 ^ p) 7 57 ∙ rw s (ap (λ (y : ℕ). y % 2 ^ 7) t)

-- PC-2 of the same seven bits four times in C, and in D
unfoldable pub chosen : ℕ → ℕ → ℕ
chosen s t = permuted 56 permuted_choice2 (bit_xor (four s s s s * 2 ^ 28) (four t t t t))

four_same : (s : ℕ) → s < 128 → four s s s s ≡ four_times s
unfolding four_times
four_same s h = four_sum s s s s h h h ∙ omega arith

pub window_chosen : (halves p : ℕ) → window halves p ≡ chosen (seven (halves / 2 ^ 28) p) (seven (halves % 2 ^ 28) p)
unfolding window chosen four_times
window_chosen halves p =
    let s = seven (halves / 2 ^ 28) p in
    let t = seven (halves % 2 ^ 28) p in
    let hs = seven_lt (halves / 2 ^ 28) p in
    let ht = seven_lt (halves % 2 ^ 28) p in
    rw (four_same s hs, four_same t ht, xor_shifted (four_times s) 28 (four_times t) (omega arith))

-- ---- the words of the two tables

-- PC-2 of the same seven bits four times in one of the halves
of_c : ℕ → ℕ
of_c s = permuted 56 permuted_choice2 (four s s s s * 2 ^ 28)

of_d : ℕ → ℕ
of_d t = permuted 56 permuted_choice2 (four t t t t)

-- the tables agree with PC-2
choices_agree : Tabled of_c 0 choice_c (Tabled of_d 0 choice_d Unit)
unfolding Tabled of_c of_d four permuted choice_c choice_d
choices_agree = tt

c_word : (s : ℕ) → s < 128 → get_or choice_c s 0 ≡ of_c s
unfolding choice_c
c_word = entry of_c choice_c (Tabled of_d 0 choice_d Unit) choices_agree

d_word : (t : ℕ) → t < 128 → get_or choice_d t 0 ≡ of_d t
unfolding choice_d
d_word = entry of_d choice_d Unit (remaining of_c 0 choice_c (Tabled of_d 0 choice_d Unit) choices_agree)

pub window_word : (halves p : ℕ) → p ≤ 28 → choice (moved (halves / 2 ^ 28) p / 2 ^ 57) (moved (halves % 2 ^ 28) p / 2 ^ 57) ≡ window halves p
unfolding choice chosen of_c of_d
window_word halves p h =
    let c = seven (halves / 2 ^ 28) p in
    let d = seven (halves % 2 ^ 28) p in
    let hc = seven_lt (halves / 2 ^ 28) p in
    let hd = seven_lt (halves % 2 ^ 28) p in
    rw (moved_seven (halves / 2 ^ 28) p h, moved_seven (halves % 2 ^ 28) p h, mod-eq_of_lt hc, mod-eq_of_lt hd, c_word c hc, d_word d hd, window_chosen halves p)
    (sym ((selection 56 permuted_choice2).of _ _))

-- ---- the loop over the windows

-- one window more, at both of its places
pub next_window : (halves : ℕ) (words : List ℕ) (p word : ℕ) → p < 28 → length words ≡ 56 → word ≡ window halves p
    → ((q : ℕ) → q < 56 → q % 28 < p → get_or words q 0 ≡ window halves (q % 28))
    → (q : ℕ) → q < 56 → q % 28 < p + 1 → get_or (set (set words p word) (p + 28) word) q 0 ≡ window halves (q % 28)
next_window halves words p word h size e w q hq hp = split (eq-or-lt_of_le {n = q % 28} {m = p} (omega arith)) where
  again : List ℕ
  again = set words p word

  at_one : (q % 28 ≡ p) → (q / 28 ≡ 0) ⊎ (0 < q / 28) → get_or (set again (p + 28) word) q 0 ≡ word
  at_one eq (inl small) =
      let s : q ≡ p = omega arith in
      get_or-set_other again (p + 28) q word 0 (λ e. omega arith) ∙ (rw s (get_or-set_same words p word 0 (omega arith)))
  at_one eq (inr large) =
      let s : q ≡ p + 28 = omega arith in
      rw s (get_or-set_same again (p + 28) word 0 (omega (arith, length-set words p word)))

  split : (q % 28 ≡ p) ⊎ (q % 28 < p) → get_or (set again (p + 28) word) q 0 ≡ window halves (q % 28)
  split (inl eq) = at_one eq (eq-zero-or-pos (q / 28)) ∙ e ∙ ap (window halves) (sym eq)
  split (inr lt) = get_or-set_other again (p + 28) q word 0 (λ e. omega arith) ∙ get_or-set_other words p q word 0 (λ e. omega arith) ∙ w q hq lt
