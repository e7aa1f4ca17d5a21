use mathlib.Core.List.{List, ◌++◌, append-nil}
use mathlib.Core.Path.{◌≡◌, ◌∙◌}
use Prim.Native.Nat.{ℕ, suc, ◌<◌}
use native.Mathlib.Numerals.{add-one}
use native.Mathlib.Omega.{arith}
use lib.ListN.{length, get_or, take, drop, set}
use lib.Seq.{append_snoc, drop-cons, drop-set-lt, take-length, drop-length, take-suc-set}
use Rattle.parity.specs.Parity.{adjusted_byte, adjusted}
use Rattle.parity.proofs.adjust.Goals as goal

-- one more byte is adjusted
one_more : (s : List ℕ) (i : ℕ) → i < length s
    → take (suc i) (set s i (adjusted_byte (get_or s i 0))) ++ adjusted (drop (suc i) (set s i (adjusted_byte (get_or s i 0)))) ≡ take i s ++ adjusted (drop i s)
unfolding adjusted
one_more s i h =
    rw (take-suc-set s i (adjusted_byte (get_or s i 0)) h, drop-set-lt (suc i) s i (adjusted_byte (get_or s i 0)) (omega arith), drop-cons s i 0 h, append_snoc)

pub loop-b-preserved : goal.loop-b-preserved
loop-b-preserved c =
    let l = c.loop-b in
    rw (add-one l.b-index, c.adjusted_byte.ensures) (one_more l.key l.b-index (omega arith) ∙ l.invariant)

pub returns : goal.returns
unfolding adjusted
returns c =
    let l = c.loop-b in
    let e : l.b-index ≡ length l.key = omega arith in
    rw (e, take-length, drop-length, append-nil) at l.invariant
