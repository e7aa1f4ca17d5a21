use mathlib.Core.Path.{◌≡◌, ap, ◌∙◌}
use Prim.Native.Nat.{ℕ, ◌*◌, ◌/◌, ◌%◌, ◌^◌, ◌<◌}
use lib.Bits.{bit_xor}
use Rattle.cipher.specs.Bits.{permuted}
use Rattle.cipher.specs.Tables.{expansion}
use Rattle.cipher.proofs.Linear.{Linear, itself, shr, low, left, sum, after, selection, agreeing, agree}
use Rattle.cipher.proofs.rounds.pack.Goals as goal

packed : ℕ → ℕ
packed x =
    bit_xor (bit_xor (bit_xor (bit_xor (bit_xor (bit_xor (bit_xor
    (x / 2 ^ 43 % 16 * 2 ^ 28 % 2 ^ 64)
    (x / 2 ^ 37 % 16 * 2 ^ 24 % 2 ^ 64))
    (x / 2 ^ 31 % 16 * 2 ^ 20 % 2 ^ 64))
    (x / 2 ^ 25 % 16 * 2 ^ 16 % 2 ^ 64))
    (x / 2 ^ 19 % 16 * 2 ^ 12 % 2 ^ 64))
    (x / 2 ^ 13 % 16 * 2 ^ 8 % 2 ^ 64))
    (x / 2 ^ 7 % 16 * 2 ^ 4 % 2 ^ 64))
    (x / 2 ^ 1 % 16)

-- four bits from the place k of x, moved to the place j
four : (k j : ℕ) → Linear (λ x. x / 2 ^ k % 16 * 2 ^ j % 2 ^ 64)
four k j = after (left j) (after (low 4) (shr k))

undoes : (a : ℕ) → a < 2 ^ 32 → packed (permuted 32 expansion a) ≡ a
unfolding agreeing packed permuted
undoes =
    let fours =
    sum (sum (sum (sum (sum (sum (sum (four 43 28) (four 37 24)) (four 31 20)) (four 25 16)) (four 19 12)) (four 13 8)) (four 7 4))
    (after (low 4) (shr 1)) in
    agree Unit (after fours (selection 32 expansion)) itself 32 tt

pub returns : goal.returns
unfolding packed
returns c a h e = ap packed e ∙ undoes a h
