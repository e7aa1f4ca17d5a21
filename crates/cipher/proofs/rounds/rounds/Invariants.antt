use Prim.Native.Nat.{ℕ}
use lib.ListN.{drop}
use Rattle.cipher.specs.Private.{LeadsTo}
use Rattle.cipher.proofs.rounds.rounds.Given as goal

abbrev pub invariant-loop-key : goal.invariant-loop-key
invariant-loop-key l = (whole : ℕ) → LeadsTo whole l.keys l.left l.right → LeadsTo whole (drop l.key-index l.keys) l.l l.r
