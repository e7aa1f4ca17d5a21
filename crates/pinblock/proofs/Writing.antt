-- A call that stops at a refusal.
use mathlib.Core.Path.{◌≡◌}
use mathlib.Core.List.{List}
use Prim.Native.Nat.{ℕ}
use Rattle.lent.specs.Result.{Result, refused, Writes}
use Rattle.lent.specs.declared.refusals.Refusal.{Refusal}
use Rattle.lent.proofs.Results.{refused_writes}

-- the refusal is answered, and lent memory stays as it was
pub stopped : {answer : Result (List ℕ)} {before : List ℕ} {r : Result ℕ} (why : Refusal) → r ≡ refused why → answer ≡ refused why → Writes answer before r before
stopped why e f = rw e (refused_writes f)
