-- Laws on padded data.
use mathlib.Core.Path.{◌≡◌}
use mathlib.Core.List.{List, ◌∷◌, ◌++◌}
use Prim.Native.Nat.{ℕ, suc, ◌+◌, ◌-◌, ◌*◌, ◌/◌, ◌%◌, ◌≤◌}
use native.Mathlib.Omega.{arith}
use lib.ListN.{length, take, set, replicate}
use lib.Seq.{set-append_seam, take-append-add}
use Rattle.lent.proofs.Lists.{take_replicate}
use Rattle.card.specs.Padding.{padded}

-- 80 hex stored after data that stand before zeros
pub padded_stored : (s : List ℕ) → length s ≤ 255
    → take (8 * (length s / 8 + 1)) (set (s ++ replicate (256 - length s) 0) (length s) 128) ≡ padded s
unfolding padded
padded_stored s h =
    let n = length s in
    let room : 256 - n ≡ suc (255 - n) = omega arith in
    let size : 8 * (n / 8 + 1) ≡ n + suc (7 - n % 8) = omega arith in
    rw (
      room,
      set-append_seam s 0 (replicate (255 - n) 0) 128,
      size,
      take-append-add s (128 ∷ replicate (255 - n) 0) (suc (7 - n % 8)),
      take_replicate (7 - n % 8) (255 - n) 0 (omega arith),
    )
