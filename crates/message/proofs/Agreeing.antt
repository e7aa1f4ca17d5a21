-- Two lists of fields that rise and agree on the listed fields have the same listed fields.
use borrow.Author.Tests.{eqb-true, eqb-false, eq-eqb, ne_eqb, leb-true, leb-false}
use mathlib.Core.Path.{◌≡◌, refl, sym, ap, ap₂, ◌∙◌}
use mathlib.Core.Bool.{false}
use mathlib.Core.List.{List, [], ◌∷◌}
use Prim.Native.Nat.{ℕ, ◌+◌, ◌<◌, ◌≤◌}
use native.Mathlib.Omega.{arith}
use lib.Arith.{lt_of_le-ne}
use lib.Dec.{leb, eqb}
use Rattle.std.specs.Prelude.{Option, Some, None}
use Rattle.lent.specs.Choice.{pick}
use Rattle.lent.proofs.Laws.{cases, never}
use Rattle.message.specs.Fields.{listed}
use Rattle.message.specs.Records.{Field}
use Rattle.message.specs.Text.{listed_only, body_in, Agree}
use Rattle.message.proofs.Reading.{lowest, lowest_is}
use Rattle.message.proofs.Rising.{Rising}

-- the numbers rise
abbrev Sorted : ℕ → List Field → Type 0
Sorted lowest [] = Unit
Sorted lowest (f ∷ fs) = (lowest ≤ f.number) × Sorted (f.number + 1) fs

rising_sorted : (before : Option ℕ) (fs : List Field) → Rising before fs → Sorted (lowest before) fs
rising_sorted before [] r = tt
rising_sorted before (f ∷ fs) r = (lowest_is before f.number r.0, rising_sorted (Some f.number) fs r.2)

weaker : (fs : List Field) (a b : ℕ) → a ≤ b → Sorted b fs → Sorted a fs
weaker [] a b h r = tt
weaker (f ∷ fs) a b h r = (omega (arith, r.0), r.1)

listed_sorted : (fs : List Field) (lowest : ℕ) → Sorted lowest fs → Sorted lowest (listed_only fs)
unfolding listed_only
listed_sorted [] lowest r = tt
listed_sorted (f ∷ fs) lowest r =
    let rest = listed_sorted fs (f.number + 1) r.1 in
    cases (listed f.number) (λ t. simp t (r.0, rest)) (λ n. simp n (weaker (listed_only fs) lowest (f.number + 1) (omega (arith, r.0)) rest))

-- no field has a number below the lowest
absent : (fs : List Field) (lowest n : ℕ) → Sorted lowest fs → n < lowest → body_in n fs ≡ None
unfolding body_in
absent [] lowest n r h = refl
absent (f ∷ fs) lowest n r h =
    let l = r.0 in
    simp (ne_eqb n f.number (λ z. omega arith)) (absent fs (f.number + 1) n r.1 (omega arith))

present : (f : Field) (fs : List Field) → body_in f.number (f ∷ fs) ≡ Some f.body
unfolding body_in
present f fs = simp (eq-eqb f.number f.number refl)

later : (f : Field) (fs : List Field) (n : ℕ) → eqb n f.number ≡ false → body_in n (f ∷ fs) ≡ body_in n fs
unfolding body_in
later f fs n d = simp d

body_in_listed : (fs : List Field) (n : ℕ) → body_in n (listed_only fs) ≡ pick (listed n) (body_in n fs) None
unfolding body_in listed_only
body_in_listed [] n = cases (listed n) (λ t. simp t) (λ f. simp f)
body_in_listed (f ∷ fs) n =
    cases (eqb n f.number)
    (λ e.
    let s : listed n ≡ listed f.number = ap (λ (k : ℕ). listed k) (eqb-true n f.number e) in
    cases (listed f.number) (λ t. simp (t, e, s ∙ t, body_in_listed fs n)) (λ u. simp (u, e, s ∙ u, body_in_listed fs n)))
    (λ d. cases (listed f.number) (λ t. simp (t, d, body_in_listed fs n)) (λ u. simp (u, d, body_in_listed fs n)))

-- a field that is present is not absent
not_absent : (b : List ℕ) (o : Option (List ℕ)) → o ≡ Some b → o ≡ None → ⊥
not_absent b o p q = never (cc)

-- the first fields are the same
first_same : (f g : Field) (fs gs : List Field) → f.number ≡ g.number → ((n : ℕ) → body_in n (f ∷ fs) ≡ body_in n (g ∷ gs)) → f ≡ g
first_same f g fs gs t e =
    let there : body_in f.number (g ∷ gs) ≡ Some g.body = rw t (present g gs) in
    let body : f.body ≡ g.body = cc (present f fs, e f.number, there) in
    ap (λ (k : ℕ). record { number = k; body = f.body }) t ∙ ap (λ (x : List ℕ). record { number = g.number; body = x }) body

-- and so are the bodies of those after them
rest_same : (f g : Field) (fs gs : List Field) → f.number ≡ g.number → Sorted (f.number + 1) fs → Sorted (g.number + 1) gs
    → ((n : ℕ) → body_in n (f ∷ fs) ≡ body_in n (g ∷ gs)) → (n : ℕ) → body_in n fs ≡ body_in n gs
rest_same f g fs gs t r q e n =
    cases (eqb n f.number)
    (λ s.
    let j : n ≡ f.number = eqb-true _ _ s in
    absent fs (f.number + 1) n r (omega arith) ∙ sym (absent gs (g.number + 1) n q (omega arith)))
    (λ d. sym (later f fs n d) ∙ e n ∙ later g gs n (ap (eqb n) (sym t) ∙ d))

-- a field is not the first where it is absent
lower : (f g : Field) (fs gs : List Field) → Sorted (g.number + 1) gs → f.number < g.number → body_in f.number (f ∷ fs) ≡ body_in f.number (g ∷ gs) → ⊥
lower f g fs gs q l e =
    not_absent f.body _ (present f fs) (e ∙ absent (g ∷ gs) g.number f.number (omega arith, q) l)

same : (fs gs : List Field) (a b : ℕ) → Sorted a fs → Sorted b gs → ((n : ℕ) → body_in n fs ≡ body_in n gs) → fs ≡ gs
unfolding body_in
same [] [] a b r q e = refl
same [] (g ∷ gs) a b r q e = absurd (not_absent g.body _ (present g gs) (sym (e g.number)))
same (f ∷ fs) [] a b r q e = absurd (not_absent f.body _ (present f fs) (e f.number))
same (f ∷ fs) (g ∷ gs) a b r q e =
    cases (eqb f.number g.number)
    (λ t.
    let number : f.number ≡ g.number = eqb-true _ _ t in
    ap₂ (λ (x : Field) (xs : List Field). x ∷ xs) (first_same f g fs gs number e)
    (same fs gs (f.number + 1) (g.number + 1) r.1 q.1 (rest_same f g fs gs number r.1 q.1 e)))
    (λ d.
    let differ : f.number ≡ g.number → ⊥ = eqb-false _ _ d in
    cases (leb f.number g.number)
    (λ l. let h : f.number ≤ g.number = leb-true _ _ l in absurd (lower f g fs gs q.1 (lt_of_le-ne h differ) (e f.number)))
    (λ l. absurd (lower g f gs fs r.1 (leb-false _ _ l) (sym (e g.number)))))

-- fields that rise and agree on the listed ones have the same listed fields
pub listed_same : (fs gs : List Field) → Rising None fs → Rising None gs → Agree fs gs → listed_only fs ≡ listed_only gs
listed_same fs gs r q a =
    same (listed_only fs) (listed_only gs) 0 0 (listed_sorted fs 0 (rising_sorted None fs r)) (listed_sorted gs 0 (rising_sorted None gs q))
    (λ n. body_in_listed fs n ∙ cases (listed n) (λ t. simp t (a n t)) (λ u. simp u) ∙ sym (body_in_listed gs n))
