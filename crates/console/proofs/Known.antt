-- Known bytes over two steps: what a writer holds grows, what a reader has left falls.
use Rattle.std.proofs.Common.{◌≡◌, ℕ, ◌+◌, ◌≤◌, List, ◌++◌, length, take, drop, Option, Some, None, sym, ◌∙◌, ap, append_assoc}
use Rattle.std.proofs.lemmas.List.{take-append-le}
use Rattle.std.proofs.Math.Seq.{take-add, take-append-add, length-take-le}
use Rattle.std.specs.Io.KnownBytes.{Appends, Consumes}

pub appends_more : (a b c : Option (List ℕ)) (bs : List ℕ) (n m : ℕ) → Appends a b (take n bs) → Appends b c (take m (drop n bs)) → Appends a c (take (n + m) bs)
appends_more None b c bs n m p q = tt
appends_more (Some xs) None c bs n m p q = absurd p
appends_more (Some xs) (Some ys) None bs n m p q = absurd q
appends_more (Some xs) (Some ys) (Some zs) bs n m p q =
    q ∙ ap (λ (l : List ℕ). l ++ take m (drop n bs)) p ∙ append_assoc xs (take n bs) (take m (drop n bs)) ∙ ap (λ (l : List ℕ). xs ++ l) (sym (take-add n m bs))

pub consumes_more : (a b c : Option (List ℕ)) (first next : List ℕ) → Consumes a b first → Consumes b c next → Consumes a c (first ++ next)
consumes_more None b c first next p q = tt
consumes_more (Some xs) None c first next p q = absurd p
consumes_more (Some xs) (Some ys) None first next p q = absurd q
consumes_more (Some xs) (Some ys) (Some zs) first next p q = p ∙ ap (λ (l : List ℕ). first ++ l) q ∙ sym (append_assoc first next zs)

-- the first bytes of memory are then those before, and the first of what was read after them
pub read_after : (xs ys rest : List ℕ) (a n : ℕ) → a ≤ length xs → n ≤ length ys → take (a + n) (take a xs ++ (ys ++ rest)) ≡ take a xs ++ take n ys
read_after xs ys rest a n h w =
    ap (λ (k : ℕ). take (k + n) (take a xs ++ (ys ++ rest))) (sym (length-take-le a xs h)) ∙ take-append-add (take a xs) (ys ++ rest) n
    ∙ ap (λ (l : List ℕ). take a xs ++ l) (take-append-le n ys rest w)
