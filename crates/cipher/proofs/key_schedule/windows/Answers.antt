use mathlib.Core.Path.{ap₂, refl, ◌∙◌}
use Prim.Native.Nat.{ℕ, ◌/◌, ◌%◌, ◌^◌}
use native.Mathlib.Omega.{arith}
use lib.ListN.{length-set}
use Rattle.cipher.proofs.Windows.{not_moved, moved_on, window_word, next_window}
use Rattle.merged.specs.Words.{choice}
use Rattle.cipher.proofs.key_schedule.windows.Goals as goal

pub loop-p-init : goal.loop-p-init
loop-p-init c =
    let halves = c.args.halves in
    record {
      size = refl;
      c_moved = not_moved (halves / 2 ^ 28) (omega arith);
      d_moved = not_moved (halves % 2 ^ 28) (omega arith);
      filled = λ q h hp. omega arith;
    }

pub loop-p-preserved : goal.loop-p-preserved
loop-p-preserved c =
    let l = c.loop-p in
    let v = l.invariant in
    let halves = c.args.halves in
    let word = c.choice-word.ensures ∙ ap₂ (λ (x y : ℕ). choice (x / 2 ^ 57) (y / 2 ^ 57)) v.c_moved v.d_moved ∙ window_word halves l.p (omega arith) in
    record {
      size = simp (length-set, length-set) v.size;
      c_moved = rw v.c_moved (moved_on (halves / 2 ^ 28) l.p);
      d_moved = rw v.d_moved (moved_on (halves % 2 ^ 28) l.p);
      filled = next_window halves l.words l.p _ (omega arith) v.size word v.filled;
    }

pub returns : goal.returns
returns c = record { at = λ q h. c.loop-p.invariant.filled q h (omega arith) }
