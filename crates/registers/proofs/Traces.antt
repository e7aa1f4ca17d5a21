-- What each call keeps up holds at every place of a list of calls.
use borrow.Author.Tests.{ne_eqb}
use mathlib.Core.Path.{◌≡◌, refl, ap₂, subst}
use mathlib.Core.List.{List, [], ◌∷◌, ◌++◌, map, append-nil, append_assoc}
use Prim.Native.Nat.{ℕ}
use lib.Dec.{eqb}
use Rattle.lent.proofs.Laws.{cases}
use Rattle.registers.specs.Trace.{Trace, none, call, record_after, counters_of}

-- OfRecord past t holds of the record t after the calls `past`. From such a record each call that keeps its promise is as OfCall says, and leaves
-- such a record.
module _ {T X : Type 0} (leaves : X → T) (Promise : T → X → Type 0) (OfRecord : List X → T → Type 0) (OfCall : List X → T → X → Type 0)
    (called : (past : List X) (t : T) (x : X) → OfRecord past t → Promise t x → OfCall past t x × OfRecord (past ++ (x ∷ [])) (leaves x)) where
  -- a list of calls, cut in two
  cut : (earlier later past : List X) (t : T) → OfRecord past t → Trace leaves Promise t (earlier ++ later)
      → OfRecord (past ++ earlier) (record_after leaves t earlier) × Trace leaves Promise (record_after leaves t earlier) later
  unfolding record_after
  cut [] later past t now traced = (rw (append-nil past) now, traced)
  cut (x ∷ earlier) later past t now (call promise more) =
      rw (append_assoc past (x ∷ []) earlier) at (cut earlier later (past ++ x ∷ []) (leaves x) (called past t x now promise).1 more)

  module _ (t : T) (calls : List X) (start : OfRecord [] t) (traced : Trace leaves Promise t calls) where
    at : (earlier later : List X) → calls ≡ earlier ++ later
        → OfRecord earlier (record_after leaves t earlier) × Trace leaves Promise (record_after leaves t earlier) later
    at earlier later e = cut earlier later [] t start (subst (Trace leaves Promise t) e traced)

    -- every record, the first one too
    pub each_record : (earlier later : List X) → calls ≡ earlier ++ later → OfRecord earlier (record_after leaves t earlier)
    each_record earlier later e = (at earlier later e).0

    -- every call, with the record that it gets
    pub each_call : (earlier : List X) (x : X) (later : List X) → calls ≡ earlier ++ (x ∷ later) → OfCall earlier (record_after leaves t earlier) x
    each_call earlier x later e = go (at earlier (x ∷ later) e)
      where
        u : T
        u = record_after leaves t earlier

        go : OfRecord earlier u × Trace leaves Promise u (x ∷ later) → OfCall earlier u x
        go (now, call promise more) = (called earlier u x now promise).0

-- the counters given out by one call more
module _ {X : Type 0} (number counter : X → ℕ) where
  pub counters_more : (calls : List X) (x : X) → counters_of number counter (calls ++ x ∷ []) ≡ counters_of number counter calls ++ counters_of number counter (x ∷ [])
  unfolding counters_of
  counters_more [] x = refl
  counters_more (y ∷ calls) x = cases (eqb (number y) 0) (λ e. rw (e, counters_more calls x)) (λ e. rw (e, counters_more calls x))

  -- a done call gives its own, a refused one none
  pub counters_done : (x : X) → number x ≡ 0 → counters_of number counter (x ∷ []) ≡ counter x ∷ []
  unfolding counters_of
  counters_done x e = rw e

  pub counters_refused : (x : X) → ¬ (number x ≡ 0) → counters_of number counter (x ∷ []) ≡ []
  unfolding counters_of
  counters_refused x h = rw (ne_eqb (number x) 0 h)

-- For every record and every list of inputs there are calls that keep their promise, with these inputs, if there is one for each record and input.
module _ {T X B : Type 0} (leaves : X → T) (Promise : T → X → Type 0) (input : X → B)
    (answer : (t : T) (b : B) → (x : X) × Promise t x × (input x ≡ b)) where
  pub some_trace : (t : T) (inputs : List B) → (calls : List X) × Trace leaves Promise t calls × (map input calls ≡ inputs)
  some_trace t [] = ([], none, refl)
  some_trace t (b ∷ inputs) =
      let x = answer t b in
      let more = some_trace (leaves x.0) inputs in
      (x.0 ∷ more.0, call x.1 more.1, ap₂ (λ (a : B) (s : List B). a ∷ s) x.2 more.2)
