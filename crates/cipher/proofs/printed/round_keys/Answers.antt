use mathlib.Core.List.{append_assoc, append-nil}
use mathlib.Core.Path.{refl}
use Prim.Native.Nat.{ℕ, ◌≤◌, ◌<◌}
use native.Mathlib.Numerals.{add-one}
use native.Mathlib.Omega.{arith}
use lib.ListN.{get_or, drop_of_length-le, length-set}
use lib.Seq.{drop-cons, take_all, take-suc-set}
use Rattle.cipher.specs.Schedule.{keys_from, round_keys}
use Rattle.cipher.specs.Tables.{left_shifts, permuted_choice1}
use Rattle.cipher.proofs.Permutation.{permuted_lt}
use Rattle.cipher.proofs.Range.{entry_range}
use Rattle.cipher.proofs.printed.round_keys.Goals as goal

pub loop-i-init : goal.loop-i-init
unfolding round_keys
loop-i-init c =
    let h = rw (← c.permuted_choice_1-halves.ensures) at (permuted_lt 64 c.args.key permuted_choice1) in
    record { c_fits = omega arith; d_fits = omega arith; size = refl; so_far = rw c.permuted_choice_1-halves.ensures }

-- C and D are rotated at most two places
shift : (i : ℕ) → i < 16 → get_or left_shifts i 0 ≤ 2
shift i h = (entry_range 1 2 left_shifts tt i h).1

pub rotate_left-c-requires : goal.rotate_left-c-requires
rotate_left-c-requires c = omega (arith, shift c.loop-i.i (omega arith))

pub rotate_left-d-requires : goal.rotate_left-d-requires
rotate_left-d-requires c = omega (arith, shift c.loop-i.i (omega arith))

pub loop-i-preserved : goal.loop-i-preserved
unfolding keys_from
loop-i-preserved c =
    let l = c.loop-i in
    let c' = c.rotate_left-c.ensures in
    let d' = c.rotate_left-d.ensures in
    record {
      c_fits = c'.1;
      d_fits = d'.1;
      size = simp length-set l.invariant.size;
      so_far =
          rw (add-one l.i, take-suc-set l.keys l.i _ (omega arith), append_assoc, c.permuted_choice_2.ensures, c'.0, d'.0)
          (rw (drop-cons left_shifts l.i 0 (omega arith)) at l.invariant.so_far);
    }

pub returns : goal.returns
unfolding keys_from
returns c =
    let l = c.loop-i in
    rw (take_all l.i l.keys (omega arith), drop_of_length-le left_shifts {i = l.i} (omega arith), append-nil) at l.invariant.so_far
