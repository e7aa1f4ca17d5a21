use mathlib.Core.List.{append_assoc, append-nil}
use mathlib.Core.Path.{refl}
use Prim.Native.Nat.{ℕ, ◌≤◌, ◌<◌}
use native.Mathlib.Numerals.{add-one}
use native.Mathlib.Omega.{arith}
use lib.ListN.{get_or, drop_of_length-le, length-set}
use lib.Seq.{drop-cons, take_all, take-suc-set}
use Rattle.cipher.specs.Private.{places}
use Rattle.cipher.specs.Tables.{permuted_choice1}
use Rattle.cipher.proofs.Permutation.{permuted_lt}
use Rattle.cipher.proofs.Range.{entry_range}
use Rattle.cipher.proofs.RoundKeys.{keys_from_windows}
use Rattle.cipher.proofs.key_schedule.round_keys.Goals as goal

pub windows-words-requires : goal.windows-words-requires
windows-words-requires c = rw c.permuted_choice_1.ensures (permuted_lt 64 c.args.key permuted_choice1)

pub loop-i-init : goal.loop-i-init
loop-i-init c = (refl, keys_from_windows c.args.key _ (rw c.permuted_choice_1.ensures at c.windows-words.ensures))

-- C and D are rotated at most 28 places
within : (i : ℕ) → i < 16 → get_or places i 0 ≤ 28
within i h = (entry_range 1 28 places tt i h).1

pub round_key-requires : goal.round_key-requires
round_key-requires c = within c.loop-i.i (omega arith)

pub loop-i-preserved : goal.loop-i-preserved
loop-i-preserved c =
    let l = c.loop-i in
    let left = rw (drop-cons places l.i 0 (omega arith)) at l.invariant.1 in
    (simp length-set l.invariant.0, rw (add-one l.i, take-suc-set l.keys l.i _ (omega arith), append_assoc, c.round_key.ensures) left)

pub returns : goal.returns
returns c =
    let l = c.loop-i in
    rw (take_all l.i l.keys (omega arith), drop_of_length-le places {i = l.i} (omega arith), append-nil) at l.invariant.1
