-- The walk over a message's records, and what is gathered on it.
use mathlib.Core.Path.{◌≡◌, refl, ap}
use mathlib.Core.List.{List, [], ◌∷◌, ◌++◌, append_assoc, append-nil}
use Prim.Native.Nat.{ℕ, zero, suc, ◌+◌, ◌<◌}
use native.Mathlib.Omega.{arith}
use lib.ListN.{length, drop}
use Rattle.std.specs.Prelude.{Option, Some}
use Rattle.lent.specs.Result.{Result, done, refused, and_then}
use Rattle.lent.proofs.Laws.{cases}
use Rattle.message.specs.Fields.{rule, listed}
use Rattle.message.specs.Records.{Field, body_size, record_field, records}
use Rattle.message.specs.Text.{listed_only}
use Rattle.message.specs.Gathered.{space_before_each, spaced_field, spaced}

records_skip : (s : List ℕ) (n : ℕ) (before : Option ℕ) → records n before s ≡ records 0 before (drop n s)
unfolding records
records_skip [] zero before = refl
records_skip [] (suc n) before = refl
records_skip (x ∷ s) zero before = refl
records_skip (x ∷ s) (suc n) before = records_skip s n before

-- one record, and the walk over what stands after it
pub records_next : (s : List ℕ) (before : Option ℕ) → 0 < length s
    → records 0 before s
    ≡ and_then (record_field before s) (λ f. and_then (records 0 (Some f.number) (drop (4 + body_size s) s)) (λ fs. done (f ∷ fs)))
unfolding records
records_next [] before h = absurd (omega arith)
records_next (x ∷ s) before h =
    let e : suc (3 + body_size (x ∷ s)) ≡ 4 + body_size (x ∷ s) = omega arith in
    simp (records_skip s (3 + body_size (x ∷ s)), ← e)

-- the fields with one more before them
pub spaced_next : (f : Field) (fs : List Field) → spaced (f ∷ fs) ≡ spaced_field (rule f.number) f.body ++ spaced fs
unfolding spaced spaced_field space_before_each listed_only
spaced_next f fs = cases (listed f.number) (λ t. simp t) (λ u. simp u)

-- what is gathered from the fields where p was gathered before them
abbrev pub following : List ℕ → Result (List Field) → Result (List ℕ)
following p r = and_then r (λ fs. done (p ++ spaced fs))

-- no record is left
pub following_end : (p : List ℕ) (before : Option ℕ) → following p (records 0 before []) ≡ done p
unfolding records spaced space_before_each listed_only
following_end p before = ap done (append-nil p)

-- one more field
pub following_field : (p : List ℕ) (f : Field) (r : Result (List Field))
    → following p (and_then r (λ fs. done (f ∷ fs))) ≡ following (p ++ spaced_field (rule f.number) f.body) r
following_field p f (done fs) = rw (spaced_next f fs, append_assoc)
following_field p f (refused why) = refl
