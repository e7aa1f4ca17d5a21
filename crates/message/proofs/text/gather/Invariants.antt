use mathlib.Core.Path.{◌≡◌}
use mathlib.Core.List.{List}
use Prim.Native.Nat.{ℕ, ◌≤◌}
use lib.ListN.{length}
use Rattle.std.specs.Prelude.{Option}
use Rattle.message.specs.Records.{records}
use Rattle.message.specs.Gathered.{gathered}
use Rattle.message.proofs.Walking.{following}
use Rattle.message.proofs.Room.{room}
use Rattle.message.proofs.text.gather.Given as goal

pub record Turn (message rest text : List ℕ) (before : Option ℕ) : Type 0 where
  pub count : length text ≤ room before
  pub all : following text (records 0 before rest) ≡ gathered message

-- with what is gathered from the rest of the records, the text is what is gathered from the message
abbrev pub invariant-loop-rest : goal.invariant-loop-rest
invariant-loop-rest l = Turn l.fn.message l.rest l.text.items l.before

abbrev pub decreases-loop-rest : goal.decreases-loop-rest
decreases-loop-rest l = length l.rest
