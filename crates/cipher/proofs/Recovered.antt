-- A key from its first two round keys: each of its bits but the low bit of each byte is in one of them. So keys with the same
-- round keys agree without low bits.
use borrow.Author.Tests.{eq-eqb}
use mathlib.Core.Bool.{true}
use mathlib.Core.List.{List, [], ◌∷◌}
use mathlib.Core.Path.{◌≡◌, sym, ap, ap₂, ◌∙◌}
use Prim.Native.Nat.{ℕ, ◌+◌, ◌*◌, ◌/◌, ◌%◌, ◌^◌, ◌<◌}
use native.Mathlib.Omega.{arith}
use lib.Bits.{bit_and, bit_xor, xor_shifted}
use lib.Dec.{lit≤}
use lib.ListN.{get_or}
use Rattle.cipher.specs.Bits.{permuted}
use Rattle.cipher.specs.Keys.{same_key}
use Rattle.cipher.specs.Schedule.{rotated_left, keys_from, round_keys}
use Rattle.cipher.specs.Tables.{permuted_choice1, permuted_choice2}
use Rattle.cipher.proofs.Linear.{Linear, shr, low, shl, mask, sum, after, selection, agreeing, agree}
use Rattle.cipher.proofs.Parity.{key_mask, masked_same}
use Rattle.cipher.proofs.Permutation.{permuted_lt}
use Rattle.cipher.proofs.RoundKeys.{turn, turn_keeps, turn_lt, turn_rotates}

-- where each bit of a key stands in the first two round keys, side by side; 0 for the low bit of a byte
abbrev standing : List ℕ
standing =
    20 ∷ 9 ∷ 13 ∷ 30 ∷ 33 ∷ 92 ∷ 89 ∷ 0
    ∷ 10 ∷ 1 ∷ 59 ∷ 90 ∷ 45 ∷ 44 ∷ 41 ∷ 0
    ∷ 6 ∷ 23 ∷ 11 ∷ 42 ∷ 38 ∷ 25 ∷ 35 ∷ 0
    ∷ 16 ∷ 15 ∷ 22 ∷ 26 ∷ 36 ∷ 32 ∷ 48 ∷ 0
    ∷ 7 ∷ 3 ∷ 14 ∷ 21 ∷ 29 ∷ 39 ∷ 27 ∷ 0
    ∷ 24 ∷ 12 ∷ 50 ∷ 17 ∷ 43 ∷ 76 ∷ 31 ∷ 0
    ∷ 5 ∷ 66 ∷ 2 ∷ 52 ∷ 34 ∷ 28 ∷ 47 ∷ 0
    ∷ 8 ∷ 18 ∷ 19 ∷ 4 ∷ 37 ∷ 46 ∷ 40 ∷ 0 ∷ []

-- a round key, with C and D turned by f
turned : (ℕ → ℕ) → ℕ → ℕ
turned f key =
    let x = permuted 64 permuted_choice1 key in
    permuted 56 permuted_choice2 (bit_xor (f (x / 2 ^ 28) * 2 ^ 28) (f (x % 2 ^ 28)))

turned_keeps : {f : ℕ → ℕ} → Linear f → Linear (turned f)
unfolding turned
turned_keeps h =
    let choice = selection 64 permuted_choice1 in
    after (selection 56 permuted_choice2) (sum (after (shl 28) (after h (after (shr 28) choice))) (after h (after (low 28) choice)))

abbrev twice : ℕ → ℕ
twice x = turn 1 (turn 1 x)

-- the bits of a key, taken from two round keys
from_two : ℕ → ℕ → ℕ
from_two first second = permuted 96 standing (bit_xor (first * 2 ^ 48) second)

-- each bit but the low ones is there: a test that computes
all_found : (key : ℕ) → key < 2 ^ 64 → from_two (turned (turn 1) key) (turned twice key) ≡ bit_and key key_mask
unfolding agreeing from_two turned turn permuted
all_found =
    let first = turned_keeps (turn_keeps 1) in
    let second = turned_keeps (after (turn_keeps 1) (turn_keeps 1)) in
    agree Unit (after (selection 96 standing) (sum (after (shl 48) first) second)) (mask key_mask) 64 tt

-- where g rotates as f turns, it is the round key of FIPS 46-3
turned_is : {f : ℕ → ℕ} (g : ℕ → ℕ) (key : ℕ) → ((x : ℕ) → f x < 2 ^ 28) → ((x : ℕ) → x < 2 ^ 28 → f x ≡ g x)
    → let x = permuted 64 permuted_choice1 key in turned f key ≡ permuted 56 permuted_choice2 (g (x / 2 ^ 28) * 2 ^ 28 + g (x % 2 ^ 28))
unfolding turned
turned_is {f} g key b e =
    let x = permuted 64 permuted_choice1 key in
    let h : x < 2 ^ 56 = permuted_lt 64 key permuted_choice1 in
    ap (permuted 56 permuted_choice2)
    (xor_shifted (f (x / 2 ^ 28)) 28 (f (x % 2 ^ 28)) (b _) ∙ ap₂ (λ (c d : ℕ). c * 2 ^ 28 + d) (e (x / 2 ^ 28) (omega arith)) (e (x % 2 ^ 28) (omega arith)))

once_rotates : (x : ℕ) → x < 2 ^ 28 → turn 1 x ≡ rotated_left 1 x
once_rotates x h = turn_rotates 1 x (lit≤ tt) h

twice_rotates : (x : ℕ) → x < 2 ^ 28 → twice x ≡ rotated_left 1 (rotated_left 1 x)
twice_rotates x h = once_rotates (turn 1 x) (turn_lt 1 x) ∙ ap (rotated_left 1) (once_rotates x h)

-- the first two round keys give the key with its low bits cleared
found : (key : ℕ) → key < 2 ^ 64 → from_two (get_or (round_keys key) 0 0) (get_or (round_keys key) 1 0) ≡ bit_and key key_mask
unfolding round_keys keys_from
found key h =
    ap₂ from_two (sym (turned_is (rotated_left 1) key (turn_lt 1) once_rotates))
    (sym (turned_is (λ x. rotated_left 1 (rotated_left 1 x)) key (λ x. turn_lt 1 (turn 1 x)) twice_rotates))
    ∙ all_found key h

-- keys with the same round keys are the same
pub recovered_same : (key other : ℕ) → key < 2 ^ 64 → other < 2 ^ 64 → round_keys key ≡ round_keys other → same_key key other ≡ true
recovered_same key other h k e =
    sym (masked_same key other)
    ∙ eq-eqb _ _ (sym (found key h) ∙ ap (λ (keys : List ℕ). from_two (get_or keys 0 0) (get_or keys 1 0)) e ∙ found other k)
