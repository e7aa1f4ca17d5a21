-- Parts and the bytes that they are, for any parts: joined and cut, and written one after the other.
use mathlib.Core.Path.{◌≡◌, refl, ap, ap₂, ◌∙◌}
use mathlib.Core.List.{List, [], ◌∷◌, ◌++◌, map}
use Prim.Native.Nat.{ℕ, ◌+◌}
use native.Mathlib.Omega.{arith}
use lib.ListN.{length, take, drop, length-append, length-drop, take-append-drop}
use lib.Seq.{take-append_seam, drop_at}
use Rattle.lent.specs.Private.{Appends}
use Rattle.lent.proofs.Appending.{nothing_appended, both_appends}
use Rattle.recordbytes.specs.Parts.{joined, cut, total}

pub joined_length : (parts : List (List ℕ)) → length (joined parts) ≡ total (map length parts)
joined_length [] = refl
joined_length (p ∷ parts) = length-append p (joined parts) ∙ ap (λ (n : ℕ). length p + n) (joined_length parts)

-- what was joined is cut into the same parts
pub cut_joined : (parts : List (List ℕ)) → cut (map length parts) (joined parts) ≡ parts
cut_joined [] = refl
cut_joined (p ∷ parts) =
    ap₂ (λ (x : List ℕ) (xs : List (List ℕ)). x ∷ xs) (take-append_seam p (joined parts))
    (ap (cut (map length parts)) (drop_at p (joined parts) (length p) refl) ∙ cut_joined parts)

-- what was cut is joined to the same bytes
pub joined_cut : (sizes s : List ℕ) → length s ≡ total sizes → joined (cut sizes s) ≡ s
joined_cut [] [] e = refl
joined_cut [] (x ∷ s) e = absurd (omega arith)
joined_cut (n ∷ sizes) s e =
    ap (λ (x : List ℕ). take n s ++ x) (joined_cut sizes (drop n s) (rw (length-drop n s) (omega arith))) ∙ take-append-drop n s

-- Parts appended one after the other, from the first n bytes on.
pub data EachAppends : List (List ℕ) → List ℕ → List ℕ → ℕ → ℕ → Type 0 where
  none : {s : List ℕ} {n : ℕ} → EachAppends [] s s n n
  part : {p a b c : List ℕ} {parts : List (List ℕ)} {n k r : ℕ} → Appends p a b n k → EachAppends parts b c k r → EachAppends (p ∷ parts) a c n r

pub all_appends : {parts : List (List ℕ)} {a c : List ℕ} {n r : ℕ} → EachAppends parts a c n r → Appends (joined parts) a c n r
all_appends none = λ room. nothing_appended
all_appends (part first rest) = both_appends first (all_appends rest)
