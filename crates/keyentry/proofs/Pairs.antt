-- Laws on a text's bytes, two digits at a time.
use mathlib.Core.Path.{◌≡◌, refl}
use mathlib.Core.List.{List, [], ◌∷◌}
use Prim.Native.Nat.{ℕ, zero, suc, ◌+◌, ◌*◌, ◌≤◌}
use native.Mathlib.Omega.{arith}
use lib.ListN.{length, get_or}
use Rattle.keyentry.specs.Hexadecimal.{value_of, bytes_of}

-- the i-th byte, from its two digits
pub byte_at : (text : List ℕ) (i : ℕ) → 2 * i + 2 ≤ length text
    → get_or (bytes_of text) i 0 ≡ value_of (get_or text (2 * i) 0) * 16 + value_of (get_or text (2 * i + 1) 0)
unfolding bytes_of
byte_at [] i h = absurd (omega arith)
byte_at (x ∷ []) i h = absurd (omega arith)
byte_at (x ∷ y ∷ s) zero h = refl
byte_at (x ∷ y ∷ s) (suc i) h =
    let e : 2 * suc i ≡ suc (suc (2 * i)) = omega arith in
    let o : 2 * suc i + 1 ≡ suc (suc (2 * i + 1)) = omega arith in
    rw (o, e) (byte_at s i (omega arith))
