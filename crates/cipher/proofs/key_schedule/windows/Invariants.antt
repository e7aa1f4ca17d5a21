use mathlib.Core.Path.{◌≡◌}
use Prim.Native.Nat.{ℕ, ◌/◌, ◌%◌, ◌^◌, ◌<◌}
use lib.ListN.{length, get_or}
use Rattle.cipher.specs.Private.{window}
use Rattle.cipher.proofs.Windows.{moved}
use Rattle.cipher.proofs.key_schedule.windows.Given as goal

abbrev pub invariant-loop-p : goal.invariant-loop-p
invariant-loop-p l = record {
  size : length l.words ≡ 56;
  c_moved : l.c ≡ moved (l.halves / 2 ^ 28) l.p;
  d_moved : l.d ≡ moved (l.halves % 2 ^ 28) l.p;
  filled : (q : ℕ) → q < 56 → q % 28 < l.p → get_or l.words q 0 ≡ window l.halves (q % 28);
}
