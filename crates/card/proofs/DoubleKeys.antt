-- A key of sixteen bytes, as its two halves.
use mathlib.Core.Path.{◌≡◌, sym, ap, ◌∙◌}
use mathlib.Core.Bool.{true}
use mathlib.Core.List.{List}
use Prim.Native.Nat.{ℕ}
use Rattle.lent.specs.Refusals.{size}
use Rattle.lent.specs.Result.{Result, done, require}
use Rattle.lent.specs.Words.{left, right}
use Rattle.lent.proofs.Results.{require_done, same_done}
use Rattle.card.specs.DoubleKey.{double_size}
use Rattle.card.specs.declared.double_key.DoubleKey.{DoubleKey}

-- a key that was taken has sixteen bytes, and these are its halves
pub halves : (key : List ℕ) {r : Result DoubleKey} {k : DoubleKey}
    → r ≡ require (double_size key) size (done (record { left = left key; right = right key })) → r ≡ done k
    → (double_size key ≡ true) × (left key ≡ k.left) × (right key ≡ k.right)
halves key {r} {k} taken e =
    let t = require_done (double_size key) size (done (record { left = left key; right = right key })) k (sym taken ∙ e) in
    let s = same_done t.1 in
    (t.0, ap (λ (d : DoubleKey). d.left) s, ap (λ (d : DoubleKey). d.right) s)
