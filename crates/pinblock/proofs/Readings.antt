-- Reading a block: a PIN whose block was made, and a length above 12.
use mathlib.Core.Path.{◌≡◌, sym, ◌∙◌}
use mathlib.Core.Bool.{true}
use mathlib.Core.List.{List, map}
use Prim.Native.Nat.{ℕ, ◌<◌}
use native.Mathlib.Omega.{arith}
use lib.ListN.{length, get_or, take, drop, length-map, length-take, length-drop}
use Rattle.lent.specs.Characters.{digit, digit_of}
use Rattle.lent.specs.Choice.{all}
use Rattle.lent.specs.Refusals.{size, character, bad_block}
use Rattle.lent.specs.Result.{Result, done, refused, require}
use Rattle.lent.proofs.Results.{require_done, same_done}
use Rattle.pinblock.specs.Pin.{pin_size, permitted, pin_block}
use Rattle.lent.specs.Words.{to_base}
use Rattle.lent.proofs.Bases.{to_length}
use Rattle.lent.proofs.Laws.{above}
use Rattle.pinblock.specs.Reading.{candidate, pin_if_made, pin_of}

pub long_refused : (block : ℕ) → 12 < get_or (to_base 16 16 block) 1 0 → pin_of block ≡ refused bad_block
unfolding pin_of pin_if_made candidate
long_refused block h =
    let t = drop 2 (to_base 16 16 block) in
    let n = get_or (to_base 16 16 block) 1 0 in
    let long : 12 < length (map digit_of (take n t)) =
    omega (arith, length-map (take n t) digit_of, length-take n t, length-drop 2 (to_base 16 16 block), to_length 16 16 block) in
    rw (above 4 12 (length (map digit_of (take n t))) long)

-- a PIN whose block was made is permitted
pub pin_made : (pin : List ℕ) {r : Result ℕ} {x : ℕ}
    → r ≡ require (pin_size pin) size (require (all digit pin) character (done (pin_block pin))) → r ≡ done x
    → (permitted pin ≡ true) × (pin_block pin ≡ x)
pin_made pin {r} {x} made e =
    let s = require_done (pin_size pin) size (require (all digit pin) character (done (pin_block pin))) x (sym made ∙ e) in
    let d = require_done (all digit pin) character (done (pin_block pin)) x s.1 in
    (rw s.0 d.0, same_done d.1)
