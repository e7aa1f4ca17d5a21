-- Lists of calls, however long, of which each gets the record that the last one left (01, Terminal keys).
-- T is the type of a record, X of a call with its answer.
use Rattle.std.specs.Prelude.{List, [], ◌∷◌, ℕ, eqb}
use Rattle.lent.specs.Choice.{pick}

-- `leaves` is the record that a call leaves.
module _ {T X : Type 0} (leaves : X → T) where
  -- Calls that keep their promise: the first gets the record t, each later one the record that the last one left, a refused one too.
  pub data Trace (Promise : T → X → Type 0) : T → List X → Type 0 where
    none : {t : T} → Trace Promise t []
    call : {t : T} {x : X} {later : List X} → Promise t x → Trace Promise (leaves x) later → Trace Promise t (x ∷ later)

  -- the record that they leave
  unfoldable pub record_after : T → List X → T
  record_after t [] = t
  record_after t (x ∷ later) = record_after (leaves x) later

-- the counters that they gave out, in order: each done call's own. `number` is the number that a call answers
unfoldable pub counters_of : {X : Type 0} → (X → ℕ) → (X → ℕ) → List X → List ℕ
counters_of number counter [] = []
counters_of number counter (x ∷ later) =
    pick (eqb (number x) 0) (counter x ∷ counters_of number counter later) (counters_of number counter later)
