use Prim.Native.Nat.{ℕ, ◌*◌, ◌/◌, ◌%◌, ◌^◌}
use Rattle.cipher.specs.Bits.{permuted}
use Rattle.cipher.specs.Tables.{expansion}
use Rattle.cipher.proofs.Linear.{Linear, shr, low, left, sum, after, selection, agreeing, agree}
use Rattle.cipher.proofs.rounds.expand.Goals as goal

-- six bits from the place k of x, moved to the place j
six : (k j : ℕ) → Linear (λ x. x / 2 ^ k % 64 * 2 ^ j % 2 ^ 64)
six k j = after (left j) (after (low 6) (shr k))

pub returns : goal.returns
unfolding agreeing permuted
returns c =
    let ring = sum (sum (after (left 33) (low 1)) (left 1)) (shr 31) in
    let sixes =
    sum (sum (sum (sum (sum (sum (sum (after (left 42) (shr 28)) (six 24 36)) (six 20 30)) (six 16 24)) (six 12 18)) (six 8 12)) (six 4 6)) (low 6) in
    agree Unit (after sixes ring) (selection 32 expansion) 32 tt c.args.x c.requires
