-- The initial permutation, its inverse and PC-1 by exchanges of bits: each is one test that computes.
use mathlib.Core.List.{List, [], ◌∷◌}
use mathlib.Core.Path.{◌≡◌}
use Prim.Native.Nat.{ℕ, ◌*◌, ◌/◌, ◌%◌, ◌^◌, ◌<◌}
use lib.Bits.{bit_xor}
use Rattle.cipher.specs.Bits.{permuted}
use Rattle.cipher.specs.Private.{exchanged}
use Rattle.cipher.specs.Tables.{initial_permutation, final_permutation, permuted_choice1}
use Rattle.cipher.proofs.Linear.{Linear, itself, shr, low, left, mask, sum, after, selection, agreeing, agree}

exchange_keeps : (n m : ℕ) → Linear (exchanged n m)
unfolding exchanged
exchange_keeps n m = sum (sum (mask _) (after (left n) (mask m))) (after (mask m) (shr n))

-- one exchange after the other, each by so many places and with a mask
unfoldable pub exchanges : List (ℕ × ℕ) → ℕ → ℕ
exchanges [] x = x
exchanges (step ∷ steps) x = exchanges steps (exchanged step.0 step.1 x)

exchanges_keep : (steps : List (ℕ × ℕ)) → Linear (exchanges steps)
unfolding exchanges
exchanges_keep [] = itself
exchanges_keep (step ∷ steps) = after (exchanges_keep steps) (exchange_keeps step.0 step.1)

-- ---- the initial permutation and its inverse

abbrev pub initially : List (ℕ × ℕ)
initially =
    (3, 0x1111_1111_1111_1111) ∷ (9, 0x0055_0055_0055_0055) ∷ (6, 0x0303_0303_0303_0303)
    ∷ (18, 0x0000_3333_0000_3333) ∷ (36, 0x0000_0000_0F0F_0F0F) ∷ []

pub initial : (x : ℕ) → x < 2 ^ 64 → exchanges initially x ≡ permuted 64 initial_permutation x
unfolding agreeing exchanges exchanged permuted
initial = agree Unit (exchanges_keep initially) (selection 64 initial_permutation) 64 tt

abbrev pub finally : List (ℕ × ℕ)
finally =
    (36, 0x0000_0000_0F0F_0F0F) ∷ (18, 0x0000_3333_0000_3333) ∷ (6, 0x0303_0303_0303_0303)
    ∷ (9, 0x0055_0055_0055_0055) ∷ (3, 0x1111_1111_1111_1111) ∷ []

pub final : (x : ℕ) → x < 2 ^ 64 → exchanges finally x ≡ permuted 64 final_permutation x
unfolding agreeing exchanges exchanged permuted
final = agree Unit (exchanges_keep finally) (selection 64 final_permutation) 64 tt

-- ---- PC-1

-- a key's columns as bytes
abbrev columns : List (ℕ × ℕ)
columns = (36, 0x0000_0000_0F0F_0F0F) ∷ (18, 0x0000_3333_0000_3333) ∷ (9, 0x0055_0055_0055_0055) ∷ []

-- n bits of a word from its place k, moved to the place j
moved : (k n j : ℕ) → Linear (λ x. x / 2 ^ k % 2 ^ n * 2 ^ j % 2 ^ 64)
moved k n j = after (left j) (after (low n) (shr k))

-- C and D from the columns
pub first_choice : (key : ℕ) → key < 2 ^ 64 → let x = exchanges columns key in
    bit_xor (bit_xor (bit_xor (bit_xor (bit_xor
    (x % 2 ^ 8 * 2 ^ 48 % 2 ^ 64)
    (x / 2 ^ 8 % 2 ^ 8 * 2 ^ 40 % 2 ^ 64))
    (x / 2 ^ 16 % 2 ^ 8 * 2 ^ 32 % 2 ^ 64))
    (x / 2 ^ 28 % 2 ^ 4 * 2 ^ 28 % 2 ^ 64))
    (x / 2 ^ 32 % 2 ^ 24 * 2 ^ 4 % 2 ^ 64))
    (x / 2 ^ 24 % 2 ^ 4)
    ≡ permuted 64 permuted_choice1 key
unfolding agreeing exchanges exchanged permuted
first_choice =
    let gathered =
    sum (sum (sum (sum (sum (after (left 48) (low 8)) (moved 8 8 40)) (moved 16 8 32)) (moved 28 4 28)) (moved 32 24 4)) (after (low 4) (shr 24)) in
    agree Unit (after gathered (exchanges_keep columns)) (selection 64 permuted_choice1) 64 tt
