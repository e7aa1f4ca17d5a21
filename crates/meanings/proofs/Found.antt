-- The texts that a table lends.
use Rattle.std.proofs.Common.{◌≡◌, refl, Option, Some, None, Ok, Bor, List, [], ◌∷◌, map, ℕ, zero, suc, ◌<◌, length, get_or}
use Rattle.std.specs.Option.{ok_or}
use Rattle.lent.specs.declared.refusals.Refusal.{Refusal}
use Prim.Native.String.{String}
use Rattle.meanings.specs.Ascii.{ascii}
use native.Mathlib.Nat.{not-suc-le-zero, le_of_suc-le-suc}

-- what `ok_or` gives was there
pub there : {X : Type 0} (o : Option X) (why : Refusal) {x : X} → Ok x ≡ ok_or o why → o ≡ Some x
there None why e = absurd (cc)
there (Some y) why e = cc

-- the text at a place
pub lent_at : (table : List (Bor (List ℕ))) (n : ℕ) (other : Bor (List ℕ)) → (get_or table n other).now ≡ get_or (map (λ b. b.now) table) n other.now
lent_at [] n other = refl
lent_at (x ∷ table) zero other = refl
lent_at (x ∷ table) (suc n) other = lent_at table n other

-- the line at a place, whatever stands past the end
pub line_at : (lines : List String) (n : ℕ) (other : List ℕ) → n < length lines → get_or (map ascii lines) n other ≡ ascii (get_or lines n "")
line_at [] n other h = absurd (not-suc-le-zero h)
line_at (x ∷ lines) zero other h = refl
line_at (x ∷ lines) (suc n) other h = line_at lines n other (le_of_suc-le-suc h)
